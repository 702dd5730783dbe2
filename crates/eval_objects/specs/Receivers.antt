-- Rules on a cell, where the cell is a function; and whether a cell has attributes that can be set.
use Rattle.std.specs.Prelude.{◌≡◌, ℕ, Bool, true, false, List, Option, Some, None}
use Rattle.rp_base.specs.declared.exceptions.Beyond.TheVariants as beyond
use Rattle.rp_base.specs.declared.value.Value.{Value}
use Rattle.py_store.specs.Cells.{cell_of}
use Rattle.py_store.specs.declared.cell.Cell.{Cell}
use Rattle.py_store.specs.declared.cell.Cell.TheVariants as cell
use Rattle.side_trees.specs.Trees.{Stop}
use Rattle.language_rules.specs.Attributes.{deletes_in_cell, sets_in_cell}
use Rattle.language_rules.specs.Going.{RuleTree}
use Rattle.language_rules.specs.States.{State}
use Rattle.eval_frames.specs.declared.frame.Frame.{Frame}
use Rattle.eval_frames.specs.declared.next.Next.{Next}
use Rattle.eval_frames.specs.Meaning.{MeansIn}
use Rattle.eval_instances.specs.Owners.{IsOwnerCell}

-- what comes next is what the rule does with a function, whichever it is
abbrev pub IsOfFunctions : (Cell → RuleTree) → Next → Type 0
IsOfFunctions f answer = (text function scope : ℕ) (s : State) (stack : List Frame) → MeansIn s stack answer (f (cell.Function text function scope)) stack

-- whether the cell is an instance or a class; no other cell has attributes that can be set
abbrev pub OwnsOrNotCell : Cell → Bool → Type 0
OwnsOrNotCell c true = IsOwnerCell (Some c)
OwnsOrNotCell c false = ((n : ℕ) (name : List ℕ) (v : Value) → sets_in_cell n name v c ≡ Stop beyond.Attribute) × ((n : ℕ) (name : List ℕ) → deletes_in_cell n name c ≡ Stop beyond.Attribute)

abbrev pub OwnsAs : Cell → Option Bool → Type 0
OwnsAs c (Some b) = OwnsOrNotCell c b
OwnsAs c None = ⊥

abbrev pub OwnsThere : Option Cell → Option Bool → Type 0
OwnsThere (Some c) b = OwnsAs c b
OwnsThere None b = b ≡ None

-- the same for the cell of a number, where there is one
abbrev pub OwnsOrNot : List Cell → ℕ → Option Bool → Type 0
OwnsOrNot cells number b = OwnsThere (cell_of cells number) b
