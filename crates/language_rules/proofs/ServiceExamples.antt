-- Worked pairs with modules, texts that run at the root, and ends by exceptions.
use Rattle.std.proofs.Common.{◌≡◌, List, [], ◌∷◌, ◌++◌, codes, refl}
use Rattle.rp_base.specs.declared.exceptions.Beyond.TheVariants as beyond
use Rattle.rp_base.specs.declared.plain.Plain.TheVariants as plain
use Rattle.side_trees.specs.SharedRun.{B}
use Rattle.host_api.specs.Computing.{host_computing}
use Rattle.language_rules.specs.Computing.{rules_computing}
use Rattle.language_rules.specs.OneInterpreter.{EndsDone, EndsRaised, EndsBeyond}
use Rattle.language_rules.proofs.Showing.{pair_shown, alone_shown, line}
use Rattle.std.specs.Str.{bytes_eq}
use Rattle.std.proofs.Common.{if◌then◌else◌, Some, None}
use Rattle.rp_base.specs.declared.exceptions.ExcKind.TheVariants as exception
use Rattle.host_api.specs.Modules.{Module}
use Rattle.host_api.specs.Counter.{counter_module}
use Rattle.host_api.specs.Journal.{journal_module}
use Rattle.host_api.specs.Settings.{settings_module}
use Rattle.language_rules.specs.Going.{raised}
use Rattle.language_rules.specs.OneInterpreter.{one_course}
use Rattle.language_rules.specs.Starting.{Reader}
use Rattle.language_rules.proofs.Showing.{no_reader, shown}
use Rattle.language_rules.proofs.account_a.{account_a}
use Rattle.language_rules.proofs.account_b.{account_b}
use Rattle.language_rules.proofs.back_a.{back_a}
use Rattle.language_rules.proofs.back_b.{back_b}
use Rattle.language_rules.proofs.cycle_a.{cycle_a}
use Rattle.language_rules.proofs.cycle_b.{cycle_b}
use Rattle.language_rules.proofs.evaluated.{evaluated}
use Rattle.language_rules.proofs.executed.{executed}
use Rattle.language_rules.proofs.first_b.{first_b}
use Rattle.language_rules.proofs.flow.{flow}
use Rattle.language_rules.proofs.raises_a.{raises_a}
use Rattle.language_rules.proofs.raises_b.{raises_b}
use Rattle.language_rules.proofs.texts_a.{texts_a}

abbrev three_modules : List Module
three_modules = counter_module ∷ journal_module ∷ settings_module ∷ []

-- the two texts that A has run at the root
abbrev two_texts : Reader
two_texts = record {
  script = λ t. if bytes_eq t (codes "y = 6") then Some executed else None;
  expression = λ t. if bytes_eq t (codes "y + 1") then Some evaluated else None;
}

-- A tuple with a list of A goes to B and back: the list is A's own again.
back : pair_shown back_b back_a 100 ≡ record { ends = EndsDone; of_b = []; of_a = line (codes "[1, 5] 2"); units = 36; exports = (0, 2) }
unfolding rules_computing
back = refl

-- A list of A and one of B that hold each other.
cyclic_across : pair_shown cycle_b cycle_a 100 ≡ record { ends = EndsBeyond beyond.CyclicRepr; of_b = []; of_a = []; units = 30; exports = (1, 3) }
unfolding rules_computing
cyclic_across = refl

-- Objects of B with a method that calls back, a counter of the program around B, and an exception.
accounts : shown 1000 (one_course no_reader account_b account_a three_modules 1000) ≡ record { ends = EndsDone; of_b = []; of_a = line (codes "refused: negative amount") ++ line (codes "[('ann', 30, 1), ('bob', 30, 2), ('ann', 30, 3)]") ++ line (codes "{'ann': ann:60, 'bob': bob:30}"); units = 358; exports = (1, 5) }
unfolding rules_computing host_computing
accounts = refl

-- `execute` and `eval` of texts in B's namespace, and a module of B.
run_at_the_root : shown 100 (one_course two_texts first_b texts_a three_modules 100) ≡ record { ends = EndsDone; of_b = []; of_a = line (codes "7 1"); units = 37; exports = (0, 2) }
unfolding rules_computing host_computing
run_at_the_root = refl

-- B's script raises: A's does not begin.
raises_first : pair_shown raises_b raises_a 100 ≡ record { ends = EndsRaised B (raised exception.ValueError (plain.Text (codes "no") ∷ [])); of_b = line (codes "1"); of_a = []; units = 5; exports = (0, 0) }
unfolding rules_computing
raises_first = refl

-- `continue`, `break` through a `finally`, chains, unpacking, an augmented item, and builtin functions.
control_flow : alone_shown flow 200 ≡ record { ends = EndsDone; of_b = []; of_a = line (codes "1") ++ line (codes "3") ++ line (codes "4") ++ line (codes "4 last") ++ line (codes "[3] False 1 2 3 [1, 2]"); units = 124; exports = (0, 0) }
unfolding rules_computing
control_flow = refl
