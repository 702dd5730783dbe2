-- What an iterator comes to, and what becomes of it.
use Rattle.std.specs.Prelude.{ℕ, Bool, true, false, List, [], Option, Some, None}
use Rattle.std.specs.Bool.{⊤}
use Rattle.rp_base.specs.declared.exceptions.ExcKind.TheVariants as exception
use Rattle.rp_base.specs.declared.value.Value.{Value}
use Rattle.object_operations.specs.declared.special.Special.{Special}
use Rattle.object_operations.specs.declared.special.Special.TheVariants as special
use Rattle.py_ast.specs.declared.program.Program.{Program}
use Rattle.py_store.specs.declared.cell.Cell.{Cell}
use Rattle.py_store.specs.declared.cell.Cell.TheVariants as cell
use Rattle.py_store.specs.Cells.{cell_of}
use Rattle.side_trees.specs.Trees.{Stop, bind}
use Rattle.language_rules.specs.Answers.{gives}
use Rattle.language_rules.specs.AtOnce.{stated}
use Rattle.language_rules.specs.Codes.{Completion}
use Rattle.language_rules.specs.Entries.{one_more}
use Rattle.language_rules.specs.Going.{RuleTree, nowhere, raises, reads_cell, sets_cell}
use Rattle.language_rules.specs.Iterating.{next_rule}
use Rattle.language_rules.specs.Perform.{special_of_cell}
use Rattle.language_rules.specs.States.{State}
use Rattle.eval_frames.specs.Meaning.{RunsAs}
use Rattle.eval_objects.specs.declared.upcoming.Upcoming.{Upcoming}
use Rattle.eval_objects.specs.declared.upcoming.Upcoming.TheVariants as upcoming

abbrev pub IsIterCell : Option Cell → Type 0
IsIterCell (Some (cell.Iter source at shape)) = ⊤
IsIterCell _ = ⊥

-- the number names an iterator
abbrev pub IsIter : List Cell → ℕ → Type 0
IsIter cells number = IsIterCell (cell_of cells number)

-- an item that there is, or the end
abbrev pub coming : Option Value → Upcoming
coming (Some v) = upcoming.Item v
coming None = upcoming.End

-- the iterator behind one more item, and at its end
abbrev pub stepped : Cell → Cell
stepped (cell.Iter source at shape) = cell.Iter source (one_more at) shape
stepped c = c

abbrev pub ended : Cell → Cell
ended (cell.Iter source at shape) = cell.Iter None at shape
ended c = c

-- what becomes of the iterator n, which is this cell, and what it answers
abbrev pub comes_up : ℕ → Upcoming → Cell → RuleTree
comes_up n (upcoming.Item v) c = sets_cell n (stepped c) (gives v)
comes_up n upcoming.End c = sets_cell n (ended c) (raises exception.StopIteration [])
comes_up n upcoming.Over c = raises exception.StopIteration []
comes_up n (upcoming.Left b) c = Stop b

-- Over these cells the computation is what becomes of an iterator with this source, whatever goes on behind: no run tells them apart.
abbrev pub ComesUp : List Cell → (ℕ → RuleTree) → Option Value → ℕ → ℕ → Upcoming → Type 0
ComesUp cells t source at shape u =
    (n : ℕ) (fixed : State) (texts : List Program) (k : Completion → RuleTree) → RunsAs (stated fixed cells texts) (bind (t n) k) (bind (comes_up n u (cell.Iter source at shape)) k)

-- over these cells `__next__` of the iterator of this number is what becomes of it
abbrev pub ComesOn : List Cell → ℕ → Upcoming → Type 0
ComesOn cells number u =
    (fixed : State) (texts : List Program) (k : Completion → RuleTree) → RunsAs (stated fixed cells texts) (bind (reads_cell number (next_rule number)) k) (bind (reads_cell number (comes_up number u)) k)

-- whether the next item is asked for
abbrev pub asks_next : Special → List Value → Bool
asks_next special.Next [] = true
asks_next _ vs = false

-- a special operation other than that
abbrev pub still_of_cell : Special → ℕ → List Value → Cell → RuleTree
still_of_cell special.Next n vs c = nowhere
still_of_cell operator n vs c = special_of_cell operator n vs c
