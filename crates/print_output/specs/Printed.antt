-- Runs of what prints, with the bytes printed so far.
use Rattle.std.specs.Prelude.{◌≡◌, ℕ, List, length, reverse, Option, Some, None, Result, Ok, Err}
use Rattle.std.specs.Bool.{⊤}
use Rattle.rp_base.specs.declared.ends.OpEnd.{OpEnd}
use Rattle.rp_base.specs.declared.ends.OpEnd.TheVariants as op_end
use Rattle.rp_base.specs.declared.value.Value.{Value}
use Rattle.side_trees.specs.Trees.{Return, Stop, bind}
use Rattle.language_rules.specs.Codes.{Completion}
use Rattle.language_rules.specs.Going.{RuleTree, done}
use Rattle.language_rules.specs.Output.{prints_further, writes}
use Rattle.language_rules.specs.Printing.{on_str}
use Rattle.language_rules.specs.Running.{runs}
use Rattle.language_rules.specs.States.{State}
use Rattle.eval_frames.specs.declared.frame.Frame.{Frame}
use Rattle.eval_frames.specs.declared.next.Next.{Next}
use Rattle.eval_frames.specs.Meaning.{meant, rest}

-- the state in which these bytes are printed
abbrev pub counted : State → List ℕ → State
counted s printed = record s { printed = length printed }

-- Whatever comes behind: the run of the first computation, with these bytes printed before, is the run of the second, with those printed by then.
abbrev pub RunsOn : RuleTree → List ℕ → RuleTree → List ℕ → Type 0
RunsOn t before next now = (fixed : State) (units : ℕ) (k : Completion → RuleTree) → runs units (bind t k) (counted fixed before) before ≡ runs units (bind next k) (counted fixed now) now

-- The computation goes on as the second, or leaves the subset, as the answer tells; no exception comes. Want of memory tells nothing.
abbrev pub PrintsAs : {A : Type 0} → RuleTree → RuleTree → Result A OpEnd → List ℕ → List ℕ → Type 0
PrintsAs t next (Ok a) before now = RunsOn t before next now
PrintsAs t next (Err (op_end.Raise r)) before now = ⊥
PrintsAs t next (Err (op_end.Beyond b)) before now = RunsOn t before (Stop b) now
PrintsAs t next (Err op_end.NoMemory) before now = ⊤

-- the same, where what follows is told by the answer
abbrev pub PrintsTo : {A : Type 0} → RuleTree → (A → RuleTree) → Result A OpEnd → List ℕ → List ℕ → Type 0
PrintsTo t next (Ok a) before now = RunsOn t before (next a) now
PrintsTo t next (Err (op_end.Raise r)) before now = ⊥
PrintsTo t next (Err (op_end.Beyond b)) before now = RunsOn t before (Stop b) now
PrintsTo t next (Err op_end.NoMemory) before now = ⊤

-- What comes next over the new stack, with these bytes printed by then, is this computation over the old one, with those printed before: no run tells them apart.
abbrev pub PrintsOver : RuleTree → List Frame → List ℕ → List Frame → Next → List ℕ → Type 0
PrintsOver t stack before now n after = (fixed : State) (units : ℕ) → runs units (bind t (rest (reverse stack))) (counted fixed before) before ≡ runs units (meant now n) (counted fixed after) after

-- ---- values that are printed one after another

-- a value without a space in front, and others behind it
abbrev pub prints_from : Value → List Value → RuleTree
prints_from v others = on_str v (λ t. writes t (prints_further others))

-- what is left: all is printed, or a value has to be asked first
abbrev pub left_to_print : List Value → Option Value → RuleTree
left_to_print others None = Return done
left_to_print others (Some v) = prints_from v others

-- what is left behind a value: others, or that value has to be asked first
abbrev pub left_behind : List Value → Option Value → RuleTree
left_behind others None = prints_further others
left_behind others (Some v) = prints_from v others
