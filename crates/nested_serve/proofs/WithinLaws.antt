-- The steps of a machine that carry out at once what they can.
use Rattle.std.proofs.Common.{◌≡◌, ◌+◌, ◌-◌, ◌≤◌, arith, ℕ, suc, List, length, reverse, slice_get, Option, Some, Result, Ok, Err, IfOk, sym, subst, ◌∙◌, ap}
use Rattle.rp_base.specs.declared.ends.NoMemory.{NoMemory}
use Rattle.py_ast.specs.declared.node.Node.{Node}
use Rattle.py_ast.specs.declared.node.Node.TheVariants as node
use Rattle.py_ast.specs.declared.program.Program.{Program}
use Rattle.py_ast.specs.declared.statement.Statement.{Statement}
use Rattle.py_store.specs.Cells.{Cells}
use Rattle.py_store.specs.declared.cell.Cell.{Cell}
use Rattle.side_trees.specs.Trees.{bind}
use Rattle.language_rules.specs.Codes.{Env}
use Rattle.language_rules.specs.Going.{RuleTree}
use Rattle.language_rules.specs.Nodes.{node_rule, rule_of}
use Rattle.language_rules.specs.Running.{ScriptEnd, runs}
use Rattle.language_rules.specs.States.{Handling, MadeClass, State}
use Rattle.language_rules.specs.Statements.{statement_rule}
use Rattle.language_rules.specs.Texts.{node_of}
use Rattle.eval_frames.specs.declared.frame.Frame.{Frame}
use Rattle.eval_frames.specs.declared.next.Next.{Next}
use Rattle.eval_frames.specs.declared.next.Next.TheVariants as next
use Rattle.eval_frames.specs.Meaning.{IsLight, MeansIn, meant, rest}
use Rattle.language_rules.specs.AtOnce.{stated}
use Rattle.eval_suites.specs.Within.{IsWithin, MeansWithin}
use Rattle.nested_serve.specs.declared.machine.Machine.{Machine}
use Rattle.nested_serve.specs.Machines.{GoesOnWithin, LeavesRun, ahead, course}
use Rattle.nested_serve.proofs.Steps.{counting}

-- a computation over the machine's state before, and what comes next over that after, with so many units spent
abbrev pub WentWithin : List Frame → List Cell → List Program → List Handling → List MadeClass → List ℕ → List ℕ → RuleTree → ℕ → List Frame → List Cell → Next → Type 0
WentWithin before cells texts handled classes printing printed t spent now cells' n = (fixed : State) (more : ℕ)
    → runs (spent + more) (bind t (rest (reverse before))) (counting fixed cells texts handled classes printing printed) printed ≡ runs more (meant now n) (counting fixed cells' texts handled classes printing printed) printed

-- the texts by another name
pub lent_within : (r : Result Next NoMemory) (before now : List Frame) (store store' : Cells) (texts as_lent : List Program) (handled : List Handling) (classes : List MadeClass) (printing printed : List ℕ) (t : RuleTree) (spent : ℕ) → as_lent ≡ texts
    → IfOk r (λ n. MeansWithin as_lent store t before spent store' n now) → IfOk r (λ n. WentWithin before store.cells texts handled classes printing printed t spent now store'.cells n)
lent_within (Ok n) before now store store' texts as_lent handled classes printing printed t spent p h = λ fixed more.
    let k : MeansWithin texts store t before spent store' n now = subst (λ (ts : List Program). MeansWithin ts store t before spent store' n now) p h in
    k (record fixed { printed = length printed; handled = reverse handled; printing = reverse printing; classes = reverse classes }) more printed
lent_within (Err e) before now store store' texts as_lent handled classes printing printed t spent p h = tt

-- a node behind its unit
pub enters_within : (m m' : Machine) (env : Env) (number : ℕ) (n : Next) (units left final : ℕ) → units ≡ suc left → final ≤ left → GoesOnWithin m (node_rule env number) (left - final) m' n → IsWithin 12 m.stack.items left m'.stack.items n final
    → LeavesRun m (next.Enter env number) (units - final) m' n × (ahead m' n final + 1 ≤ ahead m (next.Enter env number) units)
enters_within m m' env number n units left final e less goes light = (
  (λ fixed more.
      let one : (units - final) + more ≡ suc ((left - final) + more) = omega (arith, e, less) in
      ap {B = ScriptEnd} (λ (u : ℕ). course fixed m (next.Enter env number) u) one ∙ goes fixed more),
  omega (arith, e, light),
)

-- the texts and the computation by other names
pub lent_as : (r : Result Next NoMemory) (before now : List Frame) (store store' : Cells) (texts as_lent : List Program) (handled : List Handling) (classes : List MadeClass) (printing printed : List ℕ) (t u : RuleTree) (spent : ℕ) → as_lent ≡ texts → t ≡ u
    → IfOk r (λ n. MeansWithin as_lent store u before spent store' n now) → IfOk r (λ n. WentWithin before store.cells texts handled classes printing printed t spent now store'.cells n)
lent_as r before now store store' texts as_lent handled classes printing printed t u spent p e h =
    subst (λ (x : RuleTree). IfOk r (λ n. WentWithin before store.cells texts handled classes printing printed x spent now store'.cells n)) (sym e) (lent_within r before now store store' texts as_lent handled classes printing printed u spent p h)

-- a statement by its node, with the texts by another name
pub node_lent : (r : Result Next NoMemory) (before now : List Frame) (store store' : Cells) (texts seen as_lent : List Program) (handled : List Handling) (classes : List MadeClass) (printing printed : List ℕ) (env : Env) (number : ℕ) (s : Statement) (spent : ℕ) → seen ≡ texts → as_lent ≡ texts
    → node_of (slice_get seen env.text) number ≡ Some (node.Statement s)
    → IfOk r (λ n. MeansWithin as_lent store (statement_rule env s) before spent store' n now) → IfOk r (λ n. WentWithin before store.cells texts handled classes printing printed (node_rule env number) spent now store'.cells n)
node_lent (Ok n) before now store store' texts seen as_lent handled classes printing printed env number s spent q p there h = λ fixed more.
    let at : node_of (slice_get texts env.text) number ≡ Some (node.Statement s) = subst (λ (ts : List Program). node_of (slice_get ts env.text) number ≡ Some (node.Statement s)) q there in
    ap (λ (o : Option Node). runs (spent + more) (bind (rule_of env o) (rest (reverse before))) (counting fixed store.cells texts handled classes printing printed) printed) at
    ∙ lent_within (Ok n) before now store store' texts as_lent handled classes printing printed (statement_rule env s) spent p h fixed more
node_lent (Err e) before now store store' texts seen as_lent handled classes printing printed env number s spent q p there h = tt

-- what spends nothing and looks at no text
pub expression_within : (r : Result Next NoMemory) (before now : List Frame) (cells : List Cell) (texts : List Program) (handled : List Handling) (classes : List MadeClass) (printing printed : List ℕ) (t : RuleTree) (units : ℕ)
    → IfOk r (λ n. (fixed : State) (ts : List Program) → MeansIn (stated fixed cells ts) now n t before) → IfOk r (λ n. WentWithin before cells texts handled classes printing printed t (units - units) now cells n)
expression_within (Ok n) before now cells texts handled classes printing printed t units h = λ fixed more.
    let none : (units - units) + more ≡ more = omega arith in
    let counted = counting fixed cells texts handled classes printing printed in
    ap (λ (u : ℕ). runs u (bind t (rest (reverse before))) counted printed) none ∙ h (record fixed { printed = length printed; handled = reverse handled; printing = reverse printing; classes = reverse classes }) texts more printed
expression_within (Err e) before now cells texts handled classes printing printed t units h = tt

pub light_within : (r : Result Next NoMemory) (before now : List Frame) (units : ℕ) → IfOk r (λ n. IsLight now n before) → IfOk r (λ n. IsWithin 12 before units now n units)
light_within (Ok n) before now units h = omega (arith, h)
light_within (Err e) before now units h = tt
