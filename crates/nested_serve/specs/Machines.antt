-- What a machine's steps do: no run tells a machine and what it does next from the one after a step.
use Rattle.std.specs.Prelude.{◌≡◌, ◌+◌, ◌-◌, ◌*◌, ◌≤◌, ℕ, [], ◌∷◌, List, Option, Some, None, Result, Ok, Err, length, reverse, slice_get, string_bytes}
use Rattle.rp_base.specs.declared.value.Value.{Value}
use Rattle.py_ast.specs.declared.node.Node.{Node}
use Rattle.py_ast.specs.declared.node.Node.TheVariants as node
use Rattle.py_ast.specs.declared.program.Program.{Program}
use Rattle.py_ast.specs.declared.statement.Statement.TheVariants as statement
use Rattle.side_trees.specs.Trees.{Return, Done, Stopped, NoFuel, bind}
use Rattle.language_rules.specs.Codes.{Completion, Env, Gives}
use Rattle.language_rules.specs.Going.{RuleTree, on_value}
use Rattle.language_rules.specs.Running.{ScriptEnd, runs}
use Rattle.language_rules.specs.Starting.{Reader, first_state, text_of}
use Rattle.language_rules.specs.States.{State}
use Rattle.eval_frames.specs.declared.next.Next.{Next}
use Rattle.eval_frames.specs.declared.next.Next.TheVariants as next
use Rattle.eval_frames.specs.Meaning.{load, meant, rest, situated}
use Rattle.slave_service.specs.FirstCells.{first_cells_of}
use Rattle.nested_serve.specs.declared.machine.Halt.{Halt}
use Rattle.nested_serve.specs.declared.machine.Halt.TheVariants as halt
use Rattle.nested_serve.specs.declared.machine.Machine.{Machine}
use Rattle.nested_serve.specs.declared.running.Progress.{Progress}
use Rattle.nested_serve.specs.declared.running.Progress.TheVariants as progress

-- the bytes that it printed
abbrev pub printed_by : Machine → List ℕ
printed_by m = string_bytes m.printed

-- the state of the side, but for what the machine does not keep
abbrev pub state_in : State → Machine → State
state_in fixed m = record (situated fixed m.store.cells m.texts.items m.handled) { printed = length (printed_by m); printing = reverse m.printing; classes = reverse m.classes }

-- the run of a computation over the machine's cells, texts and output
abbrev pub runs_over : State → Machine → RuleTree → ℕ → ScriptEnd
runs_over fixed m t units = runs units t (state_in fixed m) (printed_by m)

-- the run of what the machine does next
abbrev pub course : State → Machine → Next → ℕ → ScriptEnd
course fixed m n units = runs_over fixed m (meant m.stack.items n) units

-- a computation over what waited before is what the machine does next
abbrev pub GoesOn : Machine → RuleTree → Machine → Next → Type 0
GoesOn before t now n = (fixed : State) (units : ℕ) → runs_over fixed before (bind t (rest (reverse before.stack.items))) units ≡ course fixed now n units

-- the same, where so many units are spent: with those, and however many more
abbrev pub GoesOnWithin : Machine → RuleTree → ℕ → Machine → Next → Type 0
GoesOnWithin before t spent now n = (fixed : State) (more : ℕ) → runs_over fixed before (bind t (rest (reverse before.stack.items))) (spent + more) ≡ course fixed now n more

-- the value, or an end that passes what waits for a value
abbrev pub IsValueOf : Completion → Result Value Completion → Type 0
IsValueOf a (Ok v) = a ≡ Gives v
IsValueOf a (Err b) = (f : Value → RuleTree) → on_value f a ≡ Return b

-- ---- ends

-- the end of a run
abbrev pub Ends : State → ScriptEnd → Halt → Machine → ℕ → Type 0
Ends fixed e (halt.Done a) m units = e ≡ Done a (state_in fixed m) units (printed_by m)
Ends fixed e halt.OutOfFuel m units = (e ≡ NoFuel (state_in fixed m) (printed_by m)) × (units ≡ 0)
Ends fixed e (halt.Beyond b) m units = e ≡ Stopped b (state_in fixed m) units (printed_by m)

-- what a machine did within so many units ends so, with these units left
abbrev pub Halts : Machine → Next → ℕ → Halt → Machine → ℕ → Type 0
Halts before n units h now left = (fixed : State) → Ends fixed (course fixed before n units) h now left

-- the units and what is still to be done
abbrev pub ahead : Machine → Next → ℕ → ℕ
ahead m n units = 20 * units + load m.stack.items n

-- Whatever units more there are, with those that were spent the run is what comes next with those more.
abbrev pub LeavesRun : Machine → Next → ℕ → Machine → Next → Type 0
LeavesRun before n spent now further = (fixed : State) (more : ℕ) → course fixed before n (spent + more) ≡ course fixed now further more

-- a step leaves the run as it is and comes nearer to its end, or is at the end
abbrev pub Advances : Machine → Next → ℕ → Progress → Machine → ℕ → Type 0
Advances before n units (progress.On further) now left =
    LeavesRun before n (units - left) now further × (ahead now further left + 1 ≤ ahead before n units)
Advances before n units (progress.Halted h) now left = Halts before n units h now left

-- The same of a step that spends nothing, with so many units.
abbrev pub Follows : Machine → Next → ℕ → Progress → Machine → Type 0
Follows before n units (progress.On further) now =
    ((fixed : State) → course fixed before n units ≡ course fixed now further units) × (ahead now further units + 1 ≤ ahead before n units)
Follows before n units (progress.Halted h) now = Halts before n units h now units

-- the node of this number was carried out; or nothing was done
abbrev pub IsCarriedOut : Machine → Env → ℕ → ℕ → Option Next → Machine → ℕ → Type 0
IsCarriedOut before env number units (Some n) now left = Advances before (next.Enter env number) units (progress.On n) now left × (left ≤ units)
IsCarriedOut before env number units None now left = (now ≡ before) × (left ≡ units)

-- ---- the beginning

-- the tree of a script with these statements
abbrev pub IsScriptOf : Program → List ℕ → Type 0
IsScriptOf program statements = slice_get program.nodes program.root ≡ Some (node.Statement (statement.Suite statements))

-- a machine that begins a script, whatever texts would be read as
abbrev pub Begins : Program → Machine → Next → Type 0
Begins program m n = (reader : Reader) (units : ℕ) → runs units (text_of program) (first_state reader []) [] ≡ course (first_state reader []) m n units

-- the statements of a suite, where there is one
abbrev pub AreRoot : Option (List ℕ) → Option Node → Type 0
AreRoot (Some statements) root = root ≡ Some (node.Statement (statement.Suite statements))
AreRoot None root = Unit {0}

-- the first cells, this one text, nothing that waits or is being handled, no class, and nothing printed
pub record IsFirst (program : Program) (m : Machine) : Type 0 where
  pub cells : m.store.cells ≡ first_cells_of program.handler_names []
  pub texts : m.texts.items ≡ program ∷ []
  pub idle : m.stack.items ≡ []
  pub handled : m.handled ≡ []
  pub printing : m.printing ≡ []
  pub classes : m.classes ≡ []
  pub printed : printed_by m ≡ []
