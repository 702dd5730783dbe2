-- A script begins.
use Rattle.std.proofs.Common.{◌≡◌, ℕ, List, [], ◌∷◌, Option, Some, slice_get, length, refl, sym, subst, ◌∙◌, ap, reverse}
use Rattle.py_ast.specs.declared.node.Node.{Node}
use Rattle.py_ast.specs.declared.node.Node.TheVariants as node
use Rattle.py_ast.specs.declared.program.Program.{Program}
use Rattle.py_ast.specs.declared.statement.Statement.TheVariants as statement
use Rattle.py_store.specs.declared.cell.Cell.{Cell}
use Rattle.side_trees.proofs.BindLaw.{bind-return}
use Rattle.language_rules.specs.Functions.{runs_body, runs_node}
use Rattle.language_rules.specs.Going.{RuleTree, executes_all}
use Rattle.language_rules.specs.Programs.{top_of}
use Rattle.language_rules.specs.Running.{runs}
use Rattle.language_rules.specs.Starting.{Reader, first_state, text_of}
use Rattle.language_rules.specs.States.{Handling, MadeClass, State}
use Rattle.eval_frames.specs.declared.frame.Frame.{Frame}
use Rattle.eval_frames.specs.declared.next.Next.{Next}
use Rattle.eval_frames.specs.Meaning.{Means, meant, situated}
use Rattle.nested_serve.specs.declared.machine.Machine.{Machine}
use Rattle.slave_service.specs.FirstCells.{first_cells_of}
use Rattle.nested_serve.specs.Machines.{Begins, IsFirst, IsScriptOf, course, printed_by}

-- the state of a side that has taken a text and reserved the names of its handlers
abbrev started : Reader → Program → State
started reader program = situated (first_state reader []) (first_cells_of program.handler_names []) (program ∷ []) []

-- the names of handlers are reserved, and the body runs
reserved : (reader : Reader) (program : Program) (units : ℕ) → runs units (text_of program) (first_state reader []) [] ≡ runs units (runs_body (top_of 0) program.root) (started reader program) []
reserved reader program units = refl

-- the body is the statements in turn
body : (reader : Reader) (program : Program) (units : ℕ) (ns : List ℕ) → slice_get program.nodes program.root ≡ Some (node.Statement (statement.Suite ns))
    → runs units (runs_body (top_of 0) program.root) (started reader program) [] ≡ runs units (executes_all (top_of 0) ns) (started reader program) []
body reader program units ns e = ap (λ (n : Option Node). runs units (runs_node (top_of 0) program.root n) (started reader program) []) e

-- the statements, over nothing that waits
stands : (reader : Reader) (program : Program) (units : ℕ) (ns : List ℕ) (fs : List Frame) (n : Next) → Means fs n (executes_all (top_of 0) ns) []
    → runs units (executes_all (top_of 0) ns) (started reader program) [] ≡ runs units (meant fs n) (started reader program) []
stands reader program units ns fs n h =
    ap (λ (t : RuleTree). runs units t (started reader program) []) (sym (bind-return (executes_all (top_of 0) ns)))
    ∙ ap (λ (t : RuleTree). runs units t (started reader program) []) (sym h)

-- in the machine's own words
in_machine : (reader : Reader) (program : Program) (units : ℕ) (m : Machine) (n : Next)
    → m.store.cells ≡ first_cells_of program.handler_names [] → m.texts.items ≡ program ∷ [] → m.handled ≡ [] → m.printing ≡ [] → m.classes ≡ [] → printed_by m ≡ []
    → runs units (meant m.stack.items n) (started reader program) [] ≡ course (first_state reader []) m n units
in_machine reader program units m n c t h g q p =
    ap (λ (cells : List Cell). runs units (meant m.stack.items n) (situated (first_state reader []) cells (program ∷ []) []) []) (sym c)
    ∙ ap (λ (texts : List Program). runs units (meant m.stack.items n) (situated (first_state reader []) m.store.cells texts []) []) (sym t)
    ∙ ap (λ (handled : List Handling). runs units (meant m.stack.items n) (situated (first_state reader []) m.store.cells m.texts.items handled) []) (sym h)
    ∙ ap (λ (shown : List ℕ). runs units (meant m.stack.items n) (record (situated (first_state reader []) m.store.cells m.texts.items m.handled) { printing = reverse shown }) []) (sym g)
    ∙ ap (λ (made : List MadeClass). runs units (meant m.stack.items n) (record (situated (first_state reader []) m.store.cells m.texts.items m.handled) { printing = reverse m.printing; classes = reverse made }) []) (sym q)
    ∙ ap (λ (out : List ℕ). runs units (meant m.stack.items n) (record (situated (first_state reader []) m.store.cells m.texts.items m.handled) { printed = length out; printing = reverse m.printing; classes = reverse m.classes }) out) (sym p)

pub begins : (program : Program) (ns : List ℕ) (m : Machine) (n : Next) → IsScriptOf program ns
    → m.store.cells ≡ first_cells_of program.handler_names [] → m.texts.items ≡ program ∷ [] → m.handled ≡ [] → m.printing ≡ [] → m.classes ≡ [] → printed_by m ≡ [] → Means m.stack.items n (executes_all (top_of 0) ns) [] → Begins program m n
begins program ns m n is c t h g q p does reader units =
    reserved reader program units
    ∙ body reader program units ns is
    ∙ stands reader program units ns m.stack.items n does
    ∙ in_machine reader program units m n c t h g q p

-- a first machine on whose stack the statements were put
pub begins_first : (program : Program) (ns : List ℕ) (m m' : Machine) (n : Next) → IsScriptOf program ns → IsFirst program m
    → m'.store.cells ≡ m.store.cells → m'.texts.items ≡ m.texts.items → m'.handled ≡ m.handled → m'.printing ≡ m.printing → m'.classes ≡ m.classes → printed_by m' ≡ printed_by m → Means m'.stack.items n (executes_all (top_of 0) ns) m.stack.items → Begins program m' n
begins_first program ns m m' n is first c t h g q p does =
    begins program ns m' n is (c ∙ first.cells) (t ∙ first.texts) (h ∙ first.handled) (g ∙ first.printing) (q ∙ first.classes) (p ∙ first.printed)
    (subst (λ (before : List Frame). Means m'.stack.items n (executes_all (top_of 0) ns) before) first.idle does)
