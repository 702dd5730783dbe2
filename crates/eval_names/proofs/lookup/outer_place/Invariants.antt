use Rattle.std.proofs.Common.{◌≡◌, ◌-◌}
use Rattle.language_rules.specs.AtOnce.{stated}
use Rattle.language_rules.specs.Names.{outer_place}
use Rattle.language_rules.specs.States.{State}
use Rattle.eval_names.proofs.lookup.outer_place.Given as goal

-- the answer is that for what is left
abbrev pub invariant-steps : goal.invariant-steps
invariant-steps l =
    (fixed : State) → outer_place (stated fixed l.fn.store.cells l.fn.texts) l.fn.text l.fn.name l.fn.most l.fn.function l.fn.scope ≡ outer_place (stated fixed l.fn.store.cells l.fn.texts) l.fn.text l.fn.name (l.fn.most - l.done) l.function l.scope
