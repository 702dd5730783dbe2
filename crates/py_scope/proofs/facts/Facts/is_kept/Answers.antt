use Rattle.std.proofs.Common.{◌≡◌, ◌∙◌, sym, ap, ◌-◌, ◌+◌, ◌<◌, ◌≤◌, length, Some, None, arith}
use Rattle.py_scope.specs.declared.holding.Holding.TheVariants as holding
use Rattle.py_scope.specs.Scopes.{is_kept, outwards}
use Rattle.py_scope.proofs.ScopeLaws.{kept_none, kept_end, kept_step, kept_start}
use Rattle.py_scope.proofs.facts.Facts.is_kept.Goals as goal

pub loop-step-init : goal.loop-step-init
loop-step-init c = kept_start c.args.self.now.mentions.now c.args.self.now.functions.now c.args.name.now c.args.from (length c.args.self.now.functions.now)

pub loop-step-preserved : goal.loop-step-preserved
loop-step-preserved c =
    let s = c.args.self.now in
    let len = length s.functions.now in
    let i = c.loop-step._step in
    let within : i < len = omega arith in
    let at : c.loop-step.here ≡ Some c.in-Some.function = cc in
    let passes_on : holding.Passes ≡ c.holding.result = cc in
    c.loop-step.invariant ∙ kept_step s.mentions.now s.functions.now c.args.name.now c.loop-step.here c.in-Some.function len i holding.Passes at within (passes_on ∙ c.holding.ensures)
    ∙ ap (λ o. is_kept s.mentions.now (outwards (len - (i + 1)) s.functions.now o) c.args.name.now) (sym c.parent-here.ensures)

pub returns-in_default : goal.returns-in_default
returns-in_default c =
    let s = c.args.self.now in
    let none : c.loop-step.here ≡ None = cc in
    sym (c.loop-step.invariant ∙ kept_none s.mentions.now s.functions.now c.args.name.now c.loop-step.here (length s.functions.now - c.loop-step._step) none)

pub returns-in-Own : goal.returns-in-Own
returns-in-Own c =
    let s = c.args.self.now in
    let within : c.loop-step._step < length s.functions.now = omega arith in
    let at : c.loop-step.here ≡ Some c.in-Some.function = cc in
    let own : holding.Own ≡ c.holding.result = cc in
    sym (c.loop-step.invariant ∙ kept_step s.mentions.now s.functions.now c.args.name.now c.loop-step.here c.in-Some.function (length s.functions.now) c.loop-step._step holding.Own at within (own ∙ c.holding.ensures))

pub returns-in-Global : goal.returns-in-Global
returns-in-Global c =
    let s = c.args.self.now in
    let within : c.loop-step._step < length s.functions.now = omega arith in
    let at : c.loop-step.here ≡ Some c.in-Some.function = cc in
    let «global» : holding.Global ≡ c.holding.result = cc in
    sym (c.loop-step.invariant ∙ kept_step s.mentions.now s.functions.now c.args.name.now c.loop-step.here c.in-Some.function (length s.functions.now) c.loop-step._step holding.Global at within («global» ∙ c.holding.ensures))

pub returns : goal.returns
returns c =
    let s = c.args.self.now in
    let past : length s.functions.now ≤ c.loop-step._step = omega arith in
    sym (c.loop-step.invariant ∙ kept_end s.mentions.now s.functions.now c.args.name.now c.loop-step.here (length s.functions.now) c.loop-step._step past)
