-- Rules that ask for a number of arguments.
use Rattle.std.specs.Prelude.{List, [], ◌∷◌}
use Rattle.rp_base.specs.declared.value.Value.{Value}
use Rattle.language_rules.specs.Arithmetic.{less_view}
use Rattle.language_rules.specs.Going.{RuleTree, nowhere}
use Rattle.language_rules.specs.Kinds.{on_kind}

abbrev pub alone : RuleTree → List Value → RuleTree
alone t [] = t
alone t _ = nowhere

abbrev pub with_one : RuleTree → List Value → RuleTree
with_one t (x ∷ []) = t
with_one t _ = nowhere

-- a dict, less another value
abbrev pub less_of : List Value → RuleTree
less_of (x ∷ []) = on_kind x less_view
less_of _ = nowhere
