-- Worked pairs of scripts: what the one interpreter over the shared heap makes of them, computed.
use Rattle.std.proofs.Common.{◌≡◌, pos, [], ◌∷◌, ◌++◌, codes, refl}
use Rattle.rp_base.specs.declared.handlers.Handler.TheVariants as handler
use Rattle.rp_base.specs.declared.plain.Plain.TheVariants as plain
use Rattle.side_trees.specs.SharedRun.{A, B}
use Rattle.language_rules.specs.Computing.{rules_computing}
use Rattle.language_rules.specs.OneInterpreter.{heap_of, talk, crossing, Closes, EndsDone, EndsOutOfFuel}
use Rattle.language_rules.proofs.Showing.{pair, pair_shown, line, asks, replies, by_value, boxes, yours, mine, arguments_of, connecting, asks_name}
use Rattle.language_rules.proofs.callback_a.{callback_a}
use Rattle.language_rules.proofs.callback_b.{callback_b}
use Rattle.language_rules.proofs.first_a.{first_a}
use Rattle.language_rules.proofs.first_b.{first_b}
use Rattle.language_rules.proofs.kept_a.{kept_a}
use Rattle.language_rules.proofs.kept_b.{kept_b}
use Rattle.language_rules.proofs.lookup_a.{lookup_a}
use Rattle.language_rules.proofs.lookup_b.{lookup_b}
use Rattle.language_rules.proofs.raised_a.{raised_a}
use Rattle.language_rules.proofs.raised_b.{raised_b}

-- B: `x = 5`. A: `print(conn.namespace["x"])`. Twelve units.
first : pair_shown first_b first_a 100 ≡ record { ends = EndsDone; of_b = []; of_a = line (codes "5"); units = 12; exports = (0, 2) }
unfolding rules_computing
first = refl

first_talk : talk (pair first_b first_a 100) ≡ connecting ++ (asks_name (codes "x") ∷ replies B (by_value (plain.Int (pos 5))) ∷ Closes A ∷ [])
unfolding rules_computing
first_talk = refl

-- Twelve units are enough, and with eleven the run ends where the twelfth is due: the item was asked for, and nothing is printed.
first_exactly : pair_shown first_b first_a 12 ≡ record { ends = EndsDone; of_b = []; of_a = line (codes "5"); units = 12; exports = (0, 2) }
unfolding rules_computing
first_exactly = refl

first_without_fuel : pair_shown first_b first_a 11 ≡ record { ends = EndsOutOfFuel; of_b = []; of_a = []; units = 11; exports = (0, 2) }
unfolding rules_computing
first_without_fuel = refl

first_with_none : pair_shown first_b first_a 0 ≡ record { ends = EndsOutOfFuel; of_b = []; of_a = []; units = 0; exports = (0, 0) }
unfolding rules_computing
first_with_none = refl

-- B calls A's function while A awaits B's answer, and that function asks B again. Each prints at its own side.
callback : pair_shown callback_b callback_a 100 ≡ record { ends = EndsDone; of_b = line (codes "run") ++ line (codes "inner 3"); of_a = line (codes "f 3") ++ line (codes "31"); units = 48; exports = (0, 2) }
unfolding rules_computing
callback = refl

callback_talk : talk (pair callback_b callback_a 100) ≡ connecting ++ (
    asks_name (codes "run") ∷ replies B (mine (codes "builtins.function") 0 3)
    ∷ asks A handler.Call (boxes (yours (codes "builtins.function") 0 3 ∷ boxes (mine (codes "builtins.function") 0 5 ∷ []) ∷ arguments_of [] ∷ []))
    ∷ asks B handler.Call (boxes (yours (codes "builtins.function") 0 5 ∷ arguments_of (plain.Int (pos 3) ∷ []) ∷ arguments_of [] ∷ []))
    ∷ asks_name (codes "inner") ∷ replies B (mine (codes "builtins.function") 0 4)
    ∷ asks A handler.Call (boxes (yours (codes "builtins.function") 0 4 ∷ arguments_of (plain.Int (pos 3) ∷ []) ∷ arguments_of [] ∷ []))
    ∷ replies B (by_value (plain.Int (pos 30))) ∷ replies A (by_value (plain.Int (pos 30))) ∷ replies B (by_value (plain.Int (pos 31))) ∷ Closes A ∷ [])
unfolding rules_computing
callback_talk = refl

-- A list of A that B keeps: a later append at A shows where B prints it.
kept : pair_shown kept_b kept_a 100 ≡ record { ends = EndsDone; of_b = line (codes "[1, 2]"); of_a = []; units = 42; exports = (1, 2) }
unfolding rules_computing
kept = refl

kept_crossing_a : crossing A (heap_of (pair kept_b kept_a 100)) ≡ 5 ∷ []
unfolding rules_computing
kept_crossing_a = refl

kept_crossing_b : crossing B (heap_of (pair kept_b kept_a 100)) ≡ 1 ∷ 2 ∷ []
unfolding rules_computing
kept_crossing_b = refl

-- A method is looked up before its arguments are evaluated: the argument's call replaces it on the object, and the old one runs.
lookup : pair_shown lookup_b lookup_a 100 ≡ record { ends = EndsDone; of_b = []; of_a = line (codes "11"); units = 41; exports = (0, 2) }
unfolding rules_computing
lookup = refl

-- Exceptions that B raises are handled at A by their classes.
raised_across : pair_shown raised_b raised_a 100 ≡ record { ends = EndsDone; of_b = []; of_a = line (codes "key ('k',) 'k'") ++ line (codes "index list index out of range") ++ line (codes "stop ()"); units = 74; exports = (0, 2) }
unfolding rules_computing
raised_across = refl
