use Rattle.std.proofs.Common.{◌≡◌, ◌∙◌, ◌+◌, ◌++◌, ap, sym, subst, List, length, string_bytes}
use Rattle.std.proofs.Math.Seq.{take-length}
use Rattle.pair_run.specs.declared.messages.Question.TheVariants as question
use Rattle.pair_run.specs.declared.scripts.Binding.{Binding}
use Rattle.pair_run.specs.Talk.{exchange, stream, items_from, closing, talk, printed, AreAnswered, Carries, CarriesFront}
use Rattle.pair_run.proofs.Delivering.{on_err}
use Rattle.pair_run.proofs.Items.{talk_cut_first, talk_cut_second, talk_cut_later, talk_whole, closing_carried, closing_part}
use Rattle.pair_run.proofs.Traffic.{carries_then, front_more, front_then}
use Rattle.pair_run.proofs.pair.converse.Goals as goal

pub returns-in_err-object-clause-part : goal.returns-in_err-object-clause-part
returns-in_err-object-clause-part g c =
    let bindings = c.args.b.now.bindings.items in
    let letters = c.args.letters.now in
    on_err c.from_residual.result (CarriesFront (stream (talk bindings letters)) (g.W.Wire.carried c.args.ab.now) (g.W.Wire.carried c.ask_root.new.ab) (g.W.Wire.carried c.args.ba.now) (g.W.Wire.carried c.ask_root.new.ba))
    (talk_cut_first bindings letters (g.W.Wire.carried c.args.ab.now) (g.W.Wire.carried c.ask_root.new.ab) (g.W.Wire.carried c.args.ba.now) (g.W.Wire.carried c.ask_root.new.ba) c.in_err-object.ensures.part)

pub returns-in_err-dict-clause-part : goal.returns-in_err-dict-clause-part
returns-in_err-dict-clause-part g c =
    let bindings = c.args.b.now.bindings.items in
    let letters = c.args.letters.now in
    let kept : c.ask_root.new.b.bindings.items ≡ bindings = ap (λ v. v.items) c.ask_root.ensures.kept.1 in
    let second : List Binding → Type 0 = λ bs. CarriesFront (stream (exchange bs 1 question.GetNamespace)) (g.W.Wire.carried c.ask_root.new.ab) (g.W.Wire.carried c.ask_namespace.new.ab) (g.W.Wire.carried c.ask_root.new.ba) (g.W.Wire.carried c.ask_namespace.new.ba) in
    on_err c.from_residual-in_err-dict.result (CarriesFront (stream (talk bindings letters)) (g.W.Wire.carried c.args.ab.now) (g.W.Wire.carried c.ask_namespace.new.ab) (g.W.Wire.carried c.args.ba.now) (g.W.Wire.carried c.ask_namespace.new.ba))
    (talk_cut_second bindings letters (g.W.Wire.carried c.args.ab.now) (g.W.Wire.carried c.ask_root.new.ab) (g.W.Wire.carried c.ask_namespace.new.ab) (g.W.Wire.carried c.args.ba.now) (g.W.Wire.carried c.ask_root.new.ba) (g.W.Wire.carried c.ask_namespace.new.ba) c.in_ok-object.ensures.carried (subst second kept c.in_err-dict.ensures.part))

pub returns-in_err-print_items-clause-part : goal.returns-in_err-print_items-clause-part
returns-in_err-print_items-clause-part g c =
    let bindings = c.args.b.now.bindings.items in
    let letters = c.args.letters.now in
    let kept : c.ask_root.new.b.bindings.items ≡ bindings = ap (λ v. v.items) c.ask_root.ensures.kept.1 in
    let still : c.ask_namespace.new.b.bindings.items ≡ bindings = ap (λ v. v.items) (c.ask_namespace.ensures.kept.1 ∙ c.ask_root.ensures.kept.1) in
    let second : List Binding → Type 0 = λ bs. Carries (stream (exchange bs 1 question.GetNamespace)) (g.W.Wire.carried c.ask_root.new.ab) (g.W.Wire.carried c.ask_namespace.new.ab) (g.W.Wire.carried c.ask_root.new.ba) (g.W.Wire.carried c.ask_namespace.new.ba) in
    let met : second bindings = subst second kept c.in_ok-dict.ensures.carried in
    let third : List Binding → Type 0 = λ bs. CarriesFront (stream (items_from bs 2 letters)) (g.W.Wire.carried c.ask_namespace.new.ab) (g.W.Wire.carried c.print_items.new.ab) (g.W.Wire.carried c.ask_namespace.new.ba) (g.W.Wire.carried c.print_items.new.ba) in
    on_err c.from_residual-in_err-print_items.result (CarriesFront (stream (talk bindings letters)) (g.W.Wire.carried c.args.ab.now) (g.W.Wire.carried c.print_items.new.ab) (g.W.Wire.carried c.args.ba.now) (g.W.Wire.carried c.print_items.new.ba))
    (talk_cut_later bindings letters (g.W.Wire.carried c.args.ab.now) (g.W.Wire.carried c.ask_root.new.ab) (g.W.Wire.carried c.ask_namespace.new.ab) (g.W.Wire.carried c.print_items.new.ab) (g.W.Wire.carried c.args.ba.now) (g.W.Wire.carried c.ask_root.new.ba) (g.W.Wire.carried c.ask_namespace.new.ba) (g.W.Wire.carried c.print_items.new.ba) c.in_ok-object.ensures.carried met
    (front_more (stream (items_from bindings 2 letters)) (stream (closing (2 + length letters))) (g.W.Wire.carried c.ask_namespace.new.ab) (g.W.Wire.carried c.print_items.new.ab) (g.W.Wire.carried c.ask_namespace.new.ba) (g.W.Wire.carried c.print_items.new.ba) (subst third still c.in_err-print_items.ensures.part)))

pub returns-in_err-close-clause-part : goal.returns-in_err-close-clause-part
returns-in_err-close-clause-part g c =
    let bindings = c.args.b.now.bindings.items in
    let letters = c.args.letters.now in
    let kept : c.ask_root.new.b.bindings.items ≡ bindings = ap (λ v. v.items) c.ask_root.ensures.kept.1 in
    let still : c.ask_namespace.new.b.bindings.items ≡ bindings = ap (λ v. v.items) (c.ask_namespace.ensures.kept.1 ∙ c.ask_root.ensures.kept.1) in
    let second : List Binding → Type 0 = λ bs. Carries (stream (exchange bs 1 question.GetNamespace)) (g.W.Wire.carried c.ask_root.new.ab) (g.W.Wire.carried c.ask_namespace.new.ab) (g.W.Wire.carried c.ask_root.new.ba) (g.W.Wire.carried c.ask_namespace.new.ba) in
    let met : second bindings = subst second kept c.in_ok-dict.ensures.carried in
    let third : List Binding → Type 0 = λ bs. Carries (stream (items_from bs 2 letters)) (g.W.Wire.carried c.ask_namespace.new.ab) (g.W.Wire.carried c.print_items.new.ab) (g.W.Wire.carried c.ask_namespace.new.ba) (g.W.Wire.carried c.print_items.new.ba) in
    let asked : third bindings = subst third still c.in_ok-print_items.ensures.carried in
    on_err c.from_residual-in_err-close.result (CarriesFront (stream (talk bindings letters)) (g.W.Wire.carried c.args.ab.now) (g.W.Wire.carried c.close.new.ab) (g.W.Wire.carried c.args.ba.now) (g.W.Wire.carried c.print_items.new.ba))
    (talk_cut_later bindings letters (g.W.Wire.carried c.args.ab.now) (g.W.Wire.carried c.ask_root.new.ab) (g.W.Wire.carried c.ask_namespace.new.ab) (g.W.Wire.carried c.close.new.ab) (g.W.Wire.carried c.args.ba.now) (g.W.Wire.carried c.ask_root.new.ba) (g.W.Wire.carried c.ask_namespace.new.ba) (g.W.Wire.carried c.print_items.new.ba) c.in_ok-object.ensures.carried met
    (front_then (stream (items_from bindings 2 letters)) (stream (closing (2 + length letters))) (g.W.Wire.carried c.ask_namespace.new.ab) (g.W.Wire.carried c.print_items.new.ab) (g.W.Wire.carried c.close.new.ab) (g.W.Wire.carried c.ask_namespace.new.ba) (g.W.Wire.carried c.print_items.new.ba) (g.W.Wire.carried c.print_items.new.ba) asked
    (closing_part (2 + length letters) (g.W.Wire.carried c.print_items.new.ab) (g.W.Wire.carried c.close.new.ab) (g.W.Wire.carried c.print_items.new.ba) c.in_err-close.ensures.part)))

pub returns-in_err-close-clause-some_printed : goal.returns-in_err-close-clause-some_printed
returns-in_err-close-clause-some_printed g c = λ _.
    let bindings = c.args.b.now.bindings.items in
    let letters = c.args.letters.now in
    let kept : c.ask_root.new.b.bindings.items ≡ bindings = ap (λ v. v.items) c.ask_root.ensures.kept.1 in
    let still : c.ask_namespace.new.b.bindings.items ≡ bindings = ap (λ v. v.items) (c.ask_namespace.ensures.kept.1 ∙ c.ask_root.ensures.kept.1) in
    let start : c.ask_namespace.new.a.output ≡ c.args.a.now.output = c.ask_namespace.ensures.kept.0 ∙ c.ask_root.ensures.kept.0 in (
      length letters,
      c.in_ok-print_items.ensures.printed ∙ ap (λ o. string_bytes o ++ printed c.ask_namespace.new.b.bindings.items letters) start
          ∙ ap (λ bs. string_bytes c.args.a.now.output ++ printed bs letters) still ∙ ap (λ ls. string_bytes c.args.a.now.output ++ printed bindings ls) (sym (take-length letters)),
    )

pub returns-clause-carried : goal.returns-clause-carried
returns-clause-carried g c =
    let bindings = c.args.b.now.bindings.items in
    let letters = c.args.letters.now in
    let kept : c.ask_root.new.b.bindings.items ≡ bindings = ap (λ v. v.items) c.ask_root.ensures.kept.1 in
    let still : c.ask_namespace.new.b.bindings.items ≡ bindings = ap (λ v. v.items) (c.ask_namespace.ensures.kept.1 ∙ c.ask_root.ensures.kept.1) in
    let second : List Binding → Type 0 = λ bs. Carries (stream (exchange bs 1 question.GetNamespace)) (g.W.Wire.carried c.ask_root.new.ab) (g.W.Wire.carried c.ask_namespace.new.ab) (g.W.Wire.carried c.ask_root.new.ba) (g.W.Wire.carried c.ask_namespace.new.ba) in
    let met : second bindings = subst second kept c.in_ok-dict.ensures.carried in
    let third : List Binding → Type 0 = λ bs. Carries (stream (items_from bs 2 letters)) (g.W.Wire.carried c.ask_namespace.new.ab) (g.W.Wire.carried c.print_items.new.ab) (g.W.Wire.carried c.ask_namespace.new.ba) (g.W.Wire.carried c.print_items.new.ba) in
    let asked : third bindings = subst third still c.in_ok-print_items.ensures.carried in
    talk_whole bindings letters (g.W.Wire.carried c.args.ab.now) (g.W.Wire.carried c.ask_root.new.ab) (g.W.Wire.carried c.ask_namespace.new.ab) (g.W.Wire.carried c.close.new.ab) (g.W.Wire.carried c.args.ba.now) (g.W.Wire.carried c.ask_root.new.ba) (g.W.Wire.carried c.ask_namespace.new.ba) (g.W.Wire.carried c.print_items.new.ba) c.in_ok-object.ensures.carried met
    (carries_then (stream (items_from bindings 2 letters)) (stream (closing (2 + length letters))) (g.W.Wire.carried c.ask_namespace.new.ab) (g.W.Wire.carried c.print_items.new.ab) (g.W.Wire.carried c.close.new.ab) (g.W.Wire.carried c.ask_namespace.new.ba) (g.W.Wire.carried c.print_items.new.ba) (g.W.Wire.carried c.print_items.new.ba) asked
    (closing_carried (2 + length letters) (g.W.Wire.carried c.print_items.new.ab) (g.W.Wire.carried c.close.new.ab) (g.W.Wire.carried c.print_items.new.ba) c.in_ok-close.ensures.carried))

pub print_items-requires-clause-answered : goal.print_items-requires-clause-answered
print_items-requires-clause-answered g c =
    let still : c.ask_namespace.new.b.bindings.items ≡ c.args.b.now.bindings.items = ap (λ v. v.items) (c.ask_namespace.ensures.kept.1 ∙ c.ask_root.ensures.kept.1) in
    let F : List Binding → Type 0 = λ bs. AreAnswered bs c.args.letters.now in
    subst F (sym still) c.requires.answered
