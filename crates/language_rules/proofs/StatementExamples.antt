-- Worked examples of statements, computed by the checker: scripts that run alone, with the cells that they leave and the units that they spend.
use Rattle.std.specs.Prelude.{◌≡◌, ◌-◌, ℕ, pos, List, [], ◌∷◌, codes, map, Some, None}
use Rattle.std.proofs.Common.{refl}
use Rattle.rp_base.specs.declared.exceptions.Beyond.{Beyond}
use Rattle.rp_base.specs.declared.exceptions.Beyond.TheVariants as beyond
use Rattle.rp_base.specs.declared.exceptions.ExcKind.TheVariants as kind
use Rattle.rp_base.specs.declared.plain.Plain.TheVariants as plain
use Rattle.rp_base.specs.declared.value.Value.{Value}
use Rattle.rp_base.specs.declared.value.Value.TheVariants as value
use Rattle.py_ast.specs.declared.program.Program.{Program}
use Rattle.object_operations.specs.declared.method.BuiltinMethod.TheVariants as builtin_method
use Rattle.object_operations.specs.declared.operation.Operation.{Operation}
use Rattle.py_store.specs.declared.cell.Binding.{Binding}
use Rattle.py_store.specs.declared.cell.Cell.{Cell}
use Rattle.py_store.specs.declared.cell.Cell.TheVariants as cell
use Rattle.py_store.specs.declared.cell.Method.TheVariants as method
use Rattle.side_trees.specs.Trees.{Return, Ended, Done, Stopped, run, bind}
use Rattle.language_rules.specs.Codes.{Code, Completion, Gives, Raises}
use Rattle.language_rules.specs.States.{State, Handling, MadeClass}
use Rattle.language_rules.specs.Going.{RuleTree, none, text, raised, on_value}
use Rattle.language_rules.specs.Computing.{rules_computing}
use Rattle.language_rules.specs.Programs.{begins_text}
use Rattle.language_rules.specs.Rules.{expand}
use Rattle.language_rules.proofs.StatementScripts.{places, targets, unbound_handler, reads_oops, handles_oops, calls_g, binds_oops, classes, derives, rebinds, while_turns, raises_a_list}
use Rattle.language_rules.specs.OneInterpreter.{EndsDone}
use Rattle.language_rules.proofs.Showing.{pair_shown, line}
use Rattle.language_rules.proofs.CallbackScripts.{calls_back, is_called_back}

abbrev start : State
start = record { cells = cell.Namespace [] [] ∷ cell.Root ∷ []; printed = 0; texts = []; handled = []; classes = []; printing = []; modules = []; reads_script = λ t. None; reads_expression = λ t. None }

-- how the run ended, the units that it spent, the cells, and what is still being handled; or how it left the subset
pub data Seen : Type 0 where
  Ran : Completion → ℕ → List Cell → List Handling → List MadeClass → Seen
  Left : Beyond → ℕ → Seen
  Other : Seen

abbrev seen : Ended Code State Operation Completion Beyond (List ℕ) (List ℕ) → Seen
seen (Done a s u w) = Ran a (200 - u) s.cells s.handled s.classes
seen (Stopped b s u w) = Left b (200 - u)
seen _ = Other

abbrev runs : RuleTree → Seen
runs t = seen (run expand (λ d w. d) 200 t start [])

-- texts in turn, at one side
abbrev texts : List Program → RuleTree
texts [] = Return (Gives none)
texts (p ∷ ps) = bind (begins_text p) (on_value (λ v. texts ps))

abbrev named : List ℕ → Value → Binding
named n v = record { name = n; value = v }

abbrev of_texts : List (List ℕ) → Value
of_texts ts = value.Plain (plain.Tuple (map plain.Text ts))

-- Names of functions inside functions, unbound names, `finally` with each end under way: 115 units. The scope of `outer` stays (cell 4), since functions stand inside it, and that of `middle` (cell 8).
names_and_ends : runs (begins_text places) ≡ Ran (Gives none) 115 (
    cell.Namespace (
    named (codes "outer") (value.Own 3) ∷
    named (codes "r") (text (codes "deep")) ∷
    named (codes "l") (text (codes "y")) ∷
    named (codes "t") (text (codes "wrong number of arguments")) ∷
    named (codes "fin") (value.Own 13) ∷
    named (codes "seen") (text (codes "pending")) ∷
    named (codes "f") (of_texts (codes "new" ∷ [])) ∷
    named (codes "loopfin") (value.Own 15) ∷
    named (codes "o") (text (codes "afaf")) ∷
    named (codes "late") (value.Own 17) ∷
    named (codes "w") (text (codes "unbound")) ∷ []) (codes "e" ∷ []) ∷
    cell.Root ∷
    cell.Function 0 0 1 ∷
    cell.Scope (named (codes "middle") (value.Own 5) ∷ named (codes "early") (value.Own 6) ∷ named (codes "k") (of_texts (codes "v2" ∷ [])) ∷ named (codes "v") (text (codes "deep")) ∷ named (codes "v2") (of_texts (codes "v2" ∷ [])) ∷ []) 1 ∷
    cell.Function 0 1 4 ∷
    cell.Function 0 3 4 ∷
    cell.Scope [] 4 ∷
    cell.Scope (named (codes "inner") (value.Own 9) ∷ []) 4 ∷
    cell.Function 0 2 8 ∷
    cell.Scope [] 8 ∷
    cell.Function 0 4 1 ∷
    cell.Scope [] 1 ∷
    cell.Function 0 5 1 ∷
    cell.Scope [] 1 ∷
    cell.Function 0 6 1 ∷
    cell.Scope [] 1 ∷
    cell.Function 0 7 1 ∷
    cell.Scope [] 1 ∷ []) [] []
unfolding rules_computing
names_and_ends = refl

-- Targets of all kinds, loops over a list, a text and what cannot be gone over, a class with a method: 159 units.
targets_and_loops : runs (begins_text targets) ≡ Ran (Gives none) 159 (
    cell.Namespace (
    named (codes "C") (value.Own 4) ∷
    named (codes "items") (value.Own 5) ∷
    named (codes "s") (text (codes "ac")) ∷
    named (codes "x") (text (codes "c")) ∷
    named (codes "i") (text (codes "l")) ∷
    named (codes "y") (text (codes "w")) ∷
    named (codes "else_") (value.Own 9) ∷
    named (codes "d") (value.Own 11) ∷
    named (codes "t") (text (codes "3")) ∷
    named (codes "gen") (value.Own 12) ∷
    named (codes "r") (text (codes "y")) ∷
    named (codes "a") (text (codes "a")) ∷
    named (codes "q") (text (codes "b")) ∷
    named (codes "m") (of_texts (codes "wrong number of values" ∷ [])) ∷
    named (codes "u") (text (codes "ValueError('wrong number of values')")) ∷
    named (codes "w") (text (codes "not iterable")) ∷ []) (codes "e" ∷ []) ∷
    cell.Root ∷
    cell.Function 0 0 1 ∷
    cell.Class (codes "C") None (named (codes "__init__") (value.Own 3) ∷ []) ∷
    cell.List (text (codes "w") ∷ text (codes "b?") ∷ text (codes "c") ∷ text (codes "x") ∷ text (codes "y") ∷ []) ∷
    cell.Iter None 3 0 ∷
    cell.List (of_texts (codes "k" ∷ codes "v" ∷ []) ∷ of_texts (codes "l" ∷ codes "w" ∷ []) ∷ []) ∷
    cell.Iter (Some (value.Own 7)) 2 0 ∷
    cell.Instance 4 (named (codes "k") (text (codes "z!")) ∷ []) ∷
    cell.Scope [] 1 ∷
    cell.Dict [] 2 ∷
    cell.Function 0 1 1 ∷
    cell.Scope [] 1 ∷
    cell.Iter (Some (text (codes "xyz"))) 2 0 ∷
    cell.Bound (value.Own 5) (method.Builtin builtin_method.Append) ∷
    cell.Bound (value.Own 5) (method.Builtin builtin_method.Append) ∷
    cell.List (text (codes "ab") ∷ text (codes "c") ∷ []) ∷
    cell.Iter (Some (value.Own 17)) 2 0 ∷ []) [] (record { text = 0; name = codes "C"; number = 4 } ∷ [])
unfolding rules_computing
targets_and_loops = refl

-- A handler inside another of the same name leaves the name unbound behind it; the script ends as raised.
name_behind_a_handler : runs (begins_text unbound_handler) ≡ Ran (Raises (raised kind.ValueError (plain.Text (codes "end") ∷ plain.Int (pos 1) ∷ []))) 20 (
    cell.Namespace (named (codes "k") (value.Own 3) ∷ named (codes "x") (of_texts (codes "oops" ∷ [])) ∷ []) (codes "oops" ∷ codes "n" ∷ []) ∷
    cell.Root ∷
    cell.Function 0 0 1 ∷
    cell.Scope [] 1 ∷ []) [] []
unfolding rules_computing
name_behind_a_handler = refl

-- the name of a handler is no global name any more, whether read or bound, and no text has a handler's name that is bound
reserved_name_read : runs (texts (reads_oops ∷ handles_oops ∷ calls_g ∷ [])) ≡ Left beyond.Name 10
unfolding rules_computing
reserved_name_read = refl

reserved_name_bound : runs (texts (handles_oops ∷ binds_oops ∷ [])) ≡ Left beyond.Name 5
unfolding rules_computing
reserved_name_bound = refl

bound_name_reserved : runs (texts (binds_oops ∷ handles_oops ∷ [])) ≡ Left beyond.Name 2
unfolding rules_computing
bound_name_reserved = refl

-- a class made after its functions, and a class with a base
class_and_base : runs (begins_text classes) ≡ Ran (Gives none) 11 (
    cell.Namespace (named (codes "A") (value.Own 4) ∷ named (codes "B") (value.Own 6) ∷ []) [] ∷
    cell.Root ∷
    cell.Function 0 0 1 ∷
    cell.Class (codes "A") None (named (codes "size") (text (codes "small")) ∷ named (codes "m") (value.Own 3) ∷ []) ∷
    cell.Function 0 1 1 ∷
    cell.Class (codes "B") (Some 4) (named (codes "m") (value.Own 5) ∷ []) ∷ [])
    [] (record { text = 0; name = codes "B"; number = 6 } ∷ record { text = 0; name = codes "A"; number = 4 } ∷ [])
unfolding rules_computing
class_and_base = refl

-- a function of another text binds the base's name anew, and the base is no longer the class of this text
base_bound_anew : runs (texts (rebinds ∷ derives ∷ [])) ≡ Left beyond.Base 11
unfolding rules_computing
base_bound_anew = refl

-- the turns of a `while`, with an `elif` and a `continue`, and a `return` that leaves one: 37 units
turns_of_while : runs (begins_text while_turns) ≡ Ran (Gives none) 37 (
    cell.Namespace (named (codes "s") (text (codes "x")) ∷ named (codes "n") (text []) ∷ named (codes "h") (value.Own 3) ∷ named (codes "o") (text (codes "out")) ∷ []) [] ∷
    cell.Root ∷
    cell.Function 0 0 1 ∷
    cell.Scope [] 1 ∷ []) [] []
unfolding rules_computing
turns_of_while = refl

-- the arguments of an exception are plain
arguments_are_plain : runs (begins_text raises_a_list) ≡ Left beyond.Payload 2
unfolding rules_computing
arguments_are_plain = refl

-- A function that is called back while two handlers of the same name are entered, one on each side: each name stands for its own exception. 39 units.
handlers_on_both_sides : pair_shown calls_back is_called_back 100 ≡ record { ends = EndsDone; of_b = []; of_a = line (codes "'x' outer"); units = 39; exports = (0, 2) }
unfolding rules_computing
handlers_on_both_sides = refl
