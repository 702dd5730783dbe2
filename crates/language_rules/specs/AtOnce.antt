-- What a computation comes to that begins no code and asks nothing, and what it does to the cells of a side.
use Rattle.std.specs.Prelude.{◌≡◌, ℕ, List, Option, Some, None, Result, Ok, Err}
use Rattle.std.specs.Bool.{⊤}
use Rattle.rp_base.specs.declared.ends.OpEnd.{OpEnd}
use Rattle.rp_base.specs.declared.ends.OpEnd.TheVariants as op_end
use Rattle.rp_base.specs.declared.exceptions.Raised.{Raised}
use Rattle.rp_base.specs.declared.value.Value.{Value}
use Rattle.py_ast.specs.declared.program.Program.{Program}
use Rattle.py_store.specs.declared.cell.Cell.{Cell}
use Rattle.side_trees.specs.Trees.{Tree, Return, Act, Stop}
use Rattle.language_rules.specs.Codes.{Gives, Raises}
use Rattle.language_rules.specs.Going.{RuleTree}
use Rattle.language_rules.specs.States.{State, cell_at, set_cell}

-- its outcome, or its way out of the subset, with the state then
abbrev pub at_once : {C S Q A K D : Type 0} → Tree C S Q A K D → S → Option (Result A K × S)
at_once (Return a) s = Some (Ok a, s)
at_once (Act g f) s = at_once (f s) (g s)
at_once (Stop x) s = Some (Err x, s)
at_once _ s = None

-- the exception, or want of memory for it
abbrev pub EndsAs : Raised → OpEnd → Type 0
EndsAs wanted (op_end.Raise r) = r ≡ wanted
EndsAs wanted (op_end.Beyond b) = ⊥
EndsAs wanted op_end.NoMemory = ⊤

-- From this state the computation ends at once as the answer tells: with a value in one state, with an exception or outside the subset in another. Want of memory tells nothing.
abbrev pub Comes : RuleTree → State → Result Value OpEnd → State → State → Type 0
Comes t s (Ok v) now kept = at_once t s ≡ Some (Ok (Gives v), now)
Comes t s (Err (op_end.Raise r)) now kept = at_once t s ≡ Some (Ok (Raises r), kept)
Comes t s (Err (op_end.Beyond b)) now kept = at_once t s ≡ Some (Err b, kept)
Comes t s (Err op_end.NoMemory) now kept = ⊤

-- In every state, under every number: the computation of that number ends as the answer tells, and leaves the state as it is.
abbrev pub Reads : (ℕ → RuleTree) → Result Value OpEnd → Type 0
Reads t answer = (n : ℕ) (s : State) → Comes (t n) s answer s s

-- In every state, under every number that has the first cell: the computation of that number ends as the answer tells. A value comes with the second cell there, and all else is kept; any other end keeps all.
abbrev pub Changes : (ℕ → RuleTree) → Cell → Result Value OpEnd → Cell → Type 0
Changes t before answer after = (n : ℕ) (s : State) → cell_at s n ≡ Some before → Comes (t n) s answer (set_cell n after s) s

-- the state with these cells
abbrev pub over : List Cell → State → State
over cells s = record s { cells = cells }

-- the state with these cells and these texts
abbrev pub stated : State → List Cell → List Program → State
stated s cells texts = record s { cells = cells; texts = texts }

-- In every state with the cells before: the computation ends at once as the answer tells, a value with the cells after, and any other end with those before.
abbrev pub CarriesOut : RuleTree → List Cell → Result Value OpEnd → List Cell → Type 0
CarriesOut t before answer after = (s : State) → Comes t (over before s) answer (over after s) (over before s)

-- ---- computations that look at no state

-- The computation is nothing but this end: a value, an exception, or a way out of the subset. Want of memory tells nothing.
abbrev pub Computes : RuleTree → Result Value OpEnd → Type 0
Computes t (Ok v) = t ≡ Return (Gives v)
Computes t (Err (op_end.Raise r)) = t ≡ Return (Raises r)
Computes t (Err (op_end.Beyond b)) = t ≡ Stop b
Computes t (Err op_end.NoMemory) = ⊤

-- the same; where there is no value, an object has to be asked first, and nothing is told
abbrev pub ComputesUnlessAsked : RuleTree → Result (Option Value) OpEnd → Type 0
ComputesUnlessAsked t (Ok (Some v)) = Computes t (Ok v)
ComputesUnlessAsked t (Ok None) = ⊤
ComputesUnlessAsked t (Err e) = Computes t (Err e)
