use Rattle.std.proofs.Common.{◌≡◌, ◌==◌, ◌∙◌, ap, sym, refl, List, [], ◌∷◌, ℕ, ◌-◌, ◌+◌, ◌<◌, ◌≤◌, length, slice_get, option_map, Option, Some, None, arith}
use Rattle.std.specs.Prelude.{if◌then◌else◌}
use Rattle.py_scope.specs.Finished.{is_among}
use Rattle.py_scope.specs.Names.{added_if}
use Rattle.py_scope.specs.Scopes.{outwards, parent_of, passing}
use Rattle.py_scope.proofs.ScopeLaws.{pass_none, pass_end, pass_step, pass_start}
use Rattle.py_scope.proofs.SetLaws.{kept, either_added}
use Rattle.py_scope.proofs.facts.Facts.add_to_passing.Goals as goal

pub loop-step-init : goal.loop-step-init
loop-step-init c =
    let s = c.args.self.now in
    let n = c.args.name.now in
    let same = pass_start s.mentions.now s.functions.now n c.args.from (length s.functions.now) in
    (refl, λ g. ap (λ gs. option_map (added_if (is_among gs g) n) (slice_get c.args.sets.now.items g)) same)

pub returns-in_default : goal.returns-in_default
returns-in_default c =
    let s = c.args.self.now in
    let n = c.args.name.now in
    let none : c.loop-step.here ≡ None = cc in
    let nothing = pass_none s.mentions.now s.functions.now n c.loop-step.here (length s.functions.now - c.loop-step._step) none in
    (c.loop-step.invariant.0, λ g. sym (c.loop-step.invariant.1 g ∙ ap (λ gs. option_map (added_if (is_among gs g) n) (slice_get c.loop-step.sets.items g)) nothing ∙ kept n (slice_get c.loop-step.sets.items g)))

pub returns-then-not-passes : goal.returns-then-not-passes
returns-then-not-passes c =
    let s = c.args.self.now in
    let n = c.args.name.now in
    let len = length s.functions.now in
    let i = c.loop-step._step in
    let within : i < len = omega arith in
    let at : c.loop-step.here ≡ Some c.in-Some.function = cc in
    let nothing : passing s.mentions.now (outwards (len - i) s.functions.now c.loop-step.here) n ≡ [] =
    pass_step s.mentions.now s.functions.now n c.loop-step.here c.in-Some.function len i c.passes.result at within c.passes.ensures
    ∙ ap (λ b. if b then c.in-Some.function ∷ passing s.mentions.now (outwards (len - (i + 1)) s.functions.now (parent_of s.functions.now c.in-Some.function)) n else []) c.if-not-passes.true in
    (c.loop-step.invariant.0, λ g. sym (c.loop-step.invariant.1 g ∙ ap (λ gs. option_map (added_if (is_among gs g) n) (slice_get c.loop-step.sets.items g)) nothing ∙ kept n (slice_get c.loop-step.sets.items g)))

pub loop-step-preserved : goal.loop-step-preserved
loop-step-preserved c =
    let s = c.args.self.now in
    let n = c.args.name.now in
    let len = length s.functions.now in
    let i = c.loop-step._step in
    let f = c.in-Some.function in
    let within : i < len = omega arith in
    let at : c.loop-step.here ≡ Some c.in-Some.function = cc in
    let rest : Option ℕ → List ℕ = λ o. passing s.mentions.now (outwards (len - (i + 1)) s.functions.now o) n in
    let one : passing s.mentions.now (outwards (len - i) s.functions.now c.loop-step.here) n ≡ f ∷ rest (parent_of s.functions.now f) =
    pass_step s.mentions.now s.functions.now n c.loop-step.here f len i c.passes.result at within c.passes.ensures
    ∙ ap (λ b. if b then f ∷ rest (parent_of s.functions.now f) else []) c.if-not-passes.false in (
      c.in_ok-add_at.ensures.0 ∙ c.loop-step.invariant.0,
      λ g. c.loop-step.invariant.1 g
          ∙ ap (λ gs. option_map (added_if (is_among gs g) n) (slice_get c.loop-step.sets.items g)) one
          ∙ either_added (f == g) (is_among (rest (parent_of s.functions.now f)) g) n (slice_get c.loop-step.sets.items g) (slice_get c.add_at.new.sets.items g) (c.in_ok-add_at.ensures.1 g)
          ∙ ap (λ o. option_map (added_if (is_among (rest o) g) n) (slice_get c.add_at.new.sets.items g)) (sym c.parent-here.ensures),
    )

pub returns : goal.returns
returns c =
    let s = c.args.self.now in
    let n = c.args.name.now in
    let past : length s.functions.now ≤ c.loop-step._step = omega arith in
    let nothing = pass_end s.mentions.now s.functions.now n c.loop-step.here (length s.functions.now) c.loop-step._step past in
    (c.loop-step.invariant.0, λ g. sym (c.loop-step.invariant.1 g ∙ ap (λ gs. option_map (added_if (is_among gs g) n) (slice_get c.loop-step.sets.items g)) nothing ∙ kept n (slice_get c.loop-step.sets.items g)))
