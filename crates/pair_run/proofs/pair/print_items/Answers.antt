use Rattle.std.proofs.Common.{◌≡◌, ◌∙◌, ◌+◌, ◌++◌, ◌∷◌, [], ap, subst, List, get_or, arith, string_bytes}
use Rattle.std.specs.Fmt.{signed_decimal}
use Rattle.pair_run.specs.declared.messages.Question.TheVariants as question
use Rattle.pair_run.specs.declared.scripts.Binding.{Binding}
use Rattle.pair_run.specs.Talk.{exchange, stream, items_from, Carries, CarriesFront, value_of}
use Rattle.pair_run.proofs.Delivering.{on_err}
use Rattle.pair_run.proofs.Items.{going_on, going_cut, printed_more}
use Rattle.pair_run.proofs.pair.print_items.Goals as goal

pub returns-in_err-print_item-clause-part : goal.returns-in_err-print_item-clause-part
returns-in_err-print_item-clause-part g c =
    let bindings = c.args.b.now.bindings.items in
    let index = c.loop-index.index in
    let F : List Binding → Type 0 = λ bs. CarriesFront (stream (exchange bs (2 + index) (question.GetItem (get_or c.args.letters.now index 0))))
    (g.W.Wire.carried c.loop-index.ab) (g.W.Wire.carried c.print_item.new.ab) (g.W.Wire.carried c.loop-index.ba) (g.W.Wire.carried c.print_item.new.ba) in
    on_err c.from_residual.result (CarriesFront (stream (items_from bindings 2 c.args.letters.now)) (g.W.Wire.carried c.args.ab.now) (g.W.Wire.carried c.print_item.new.ab) (g.W.Wire.carried c.args.ba.now) (g.W.Wire.carried c.print_item.new.ba))
    (going_cut bindings c.args.letters.now index (g.W.Wire.carried c.args.ab.now) (g.W.Wire.carried c.loop-index.ab) (g.W.Wire.carried c.print_item.new.ab)
    (g.W.Wire.carried c.args.ba.now) (g.W.Wire.carried c.loop-index.ba) (g.W.Wire.carried c.print_item.new.ba) c.loop-index-test.true c.loop-index.invariant.0
    (subst F (ap (λ v. v.items) c.loop-index.invariant.3) c.in_err-print_item.ensures.part))

pub loop-index-preserved : goal.loop-index-preserved
loop-index-preserved g c =
    let bindings = c.args.b.now.bindings.items in
    let index = c.loop-index.index in
    let i = c.loop-index.invariant in
    let h = c.in_ok-print_item.ensures in
    let F : List Binding → Type 0 = λ bs. Carries (stream (exchange bs (2 + index) (question.GetItem (get_or c.args.letters.now index 0))))
    (g.W.Wire.carried c.loop-index.ab) (g.W.Wire.carried c.print_item.new.ab) (g.W.Wire.carried c.loop-index.ba) (g.W.Wire.carried c.print_item.new.ba) in (
      going_on bindings c.args.letters.now index (g.W.Wire.carried c.args.ab.now) (g.W.Wire.carried c.loop-index.ab) (g.W.Wire.carried c.print_item.new.ab)
          (g.W.Wire.carried c.args.ba.now) (g.W.Wire.carried c.loop-index.ba) (g.W.Wire.carried c.print_item.new.ba) c.loop-index-test.true i.0
          (subst F (ap (λ v. v.items) i.3) h.carried),
      printed_more bindings c.args.letters.now index (string_bytes c.args.a.now.output) (string_bytes c.loop-index.a.output) (string_bytes c.print_item.new.a.output) c.loop-index-test.true i.1
          (let G : List Binding → Type 0 = λ bs. string_bytes c.print_item.new.a.output ≡ string_bytes c.loop-index.a.output ++ (signed_decimal (value_of bs (get_or c.args.letters.now index 0)) ++ 10 ∷ []) in
          subst G (ap (λ v. v.items) i.3) h.printed),
      h.idle,
      h.kept ∙ i.3,
      h.begun.0 ∙ i.4,
      h.begun.1 ∙ i.5,
      omega (arith, i.6, h.later.0),
      omega (arith, i.7, h.later.1),
    )
