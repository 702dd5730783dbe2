-- The steps of a machine, by those of its parts.
use Rattle.std.proofs.Common.{◌≡◌, ◌+◌, ◌-◌, ◌*◌, ◌≤◌, arith, ℕ, suc, Bool, List, length, reverse, slice_get, Option, Some, Result, Ok, Err, IfOk, refl, sym, subst, ◌∙◌, ap}
use Rattle.rp_base.specs.declared.ends.NoMemory.{NoMemory}
use Rattle.rp_base.specs.declared.value.Value.{Value}
use Rattle.py_ast.specs.declared.name.Name.{Name}
use Rattle.py_ast.specs.declared.node.Node.{Node}
use Rattle.py_ast.specs.declared.node.Node.TheVariants as node
use Rattle.py_ast.specs.declared.program.Program.{Program}
use Rattle.py_ast.specs.declared.statement.Statement.{Statement}
use Rattle.py_ast.specs.declared.statement.Statement.TheVariants as statement
use Rattle.py_store.specs.Cells.{Cells}
use Rattle.py_store.specs.declared.cell.Cell.{Cell}
use Rattle.object_operations.specs.declared.operation.Operation.{Operation}
use Rattle.side_trees.specs.Trees.{Return, bind}
use Rattle.eval_at_once.specs.Evaluated.{ComesTo}
use Rattle.language_rules.specs.Answers.{evaluated}
use Rattle.language_rules.specs.AtOnce.{stated}
use Rattle.language_rules.specs.Classes.{class_rule}
use Rattle.language_rules.specs.Codes.{Completion, Env, Gives}
use Rattle.language_rules.specs.Going.{RuleTree, done, on_value}
use Rattle.language_rules.specs.Nodes.{member_node_rule, node_rule, rule_of}
use Rattle.language_rules.specs.Perform.{perform}
use Rattle.language_rules.specs.Rules.{expand}
use Rattle.language_rules.specs.Running.{ScriptEnd, prints_behind, runs}
use Rattle.language_rules.specs.States.{Handling, MadeClass, State}
use Rattle.language_rules.specs.Statements.{statement_rule}
use Rattle.language_rules.specs.Texts.{node_of}
use Rattle.eval_frames.specs.declared.frame.Decision.{Decision}
use Rattle.eval_frames.specs.declared.frame.Frame.{Frame}
use Rattle.eval_frames.specs.declared.next.Next.{Next}
use Rattle.eval_frames.specs.declared.next.Next.TheVariants as next
use Rattle.eval_texts.specs.Shown.{shown}
use Rattle.eval_frames.specs.Meaning.{IsLight, Means, MeansIn, MeansOver, classed, decides, handling_in, load, meant, resume, rest, situated}
use Rattle.nested_serve.specs.declared.machine.Machine.{Machine}
use Rattle.nested_serve.specs.declared.running.Progress.{Progress}
use Rattle.nested_serve.specs.declared.running.Progress.TheVariants as progress
use Rattle.nested_serve.specs.Machines.{Advances, Follows, GoesOn, LeavesRun, ahead, course, printed_by}
use Rattle.eval_suites.proofs.UnitsLeft.{comes_anyhow}
use Rattle.print_output.specs.Printed.{counted}

-- ---- decisions

-- what is done by a truth, for the decision that the case was told of
pub decided : (r : Result Next NoMemory) (now before : List Frame) (texts : List Program) (d as_told : Decision) (v : Value) (holds : Bool) → d ≡ as_told
    → IfOk r (λ n. (fixed : State) (cells : List Cell) (w : Value) → MeansIn (stated fixed cells texts) now n (decides as_told w holds) before)
    → IfOk r (λ n. (fixed : State) (cells : List Cell) → MeansIn (stated fixed cells texts) now n (decides d v holds) before)
decided (Ok n) now before texts d as_told v holds p h = λ fixed cells units printed.
    ap (λ (x : Decision). runs units (bind (decides x v holds) (rest (reverse before))) (stated fixed cells texts) printed) p ∙ h fixed cells v units printed
decided (Err e) now before texts d as_told v holds p h = tt

-- ---- a machine's state, as its parts see it

-- what a side has counted as printed
abbrev pub counting : State → List Cell → List Program → List Handling → List MadeClass → List ℕ → List ℕ → State
counting fixed cells texts handled classes printing printed = record (situated fixed cells texts handled) { printed = length printed; printing = reverse printing; classes = reverse classes }

-- a computation over the machine's state before, and what comes next over that after
abbrev pub Went : List Frame → List Cell → List Program → List Handling → List MadeClass → List ℕ → List ℕ → RuleTree → List Frame → List Cell → List Handling → List ℕ → List ℕ → Next → Type 0
Went before cells texts handled classes printing printed t now cells' handled' printing' printed' n = (fixed : State) (units : ℕ)
    → runs units (bind t (rest (reverse before))) (counting fixed cells texts handled classes printing printed) printed ≡ runs units (meant now n) (counting fixed cells' texts handled' classes printing' printed') printed'

-- the texts by another name
pub lent : (r : Result Next NoMemory) (before now : List Frame) (cells cells' : List Cell) (texts as_lent : List Program) (handled : List Handling) (classes : List MadeClass) (printing printed : List ℕ) (t : RuleTree) → as_lent ≡ texts
    → IfOk r (λ n. (fixed : State) → MeansOver (stated fixed cells as_lent) (stated fixed cells' as_lent) now n t before) → IfOk r (λ n. Went before cells texts handled classes printing printed t now cells' handled printing printed n)
lent (Ok n) before now cells cells' texts as_lent handled classes printing printed t p h = λ fixed units.
    let k : (s : State) → MeansOver (stated s cells texts) (stated s cells' texts) now n t before = subst (λ (ts : List Program). (s : State) → MeansOver (stated s cells ts) (stated s cells' ts) now n t before) p h in
    k (record fixed { printed = length printed; handled = reverse handled; printing = reverse printing; classes = reverse classes }) units printed
lent (Err e) before now cells cells' texts as_lent handled classes printing printed t p h = tt

-- the texts and the exceptions by other names
pub lent_both : (r : Result Next NoMemory) (before now : List Frame) (cells cells' : List Cell) (texts as_lent : List Program) (handled as_handled : List Handling) (classes : List MadeClass) (printing printed : List ℕ) (t : RuleTree) → as_lent ≡ texts → as_handled ≡ handled
    → IfOk r (λ n. (fixed : State) → MeansOver (situated fixed cells as_lent as_handled) (situated fixed cells' as_lent as_handled) now n t before) → IfOk r (λ n. Went before cells texts handled classes printing printed t now cells' handled printing printed n)
lent_both (Ok n) before now cells cells' texts as_lent handled as_handled classes printing printed t p q h = λ fixed units.
    let k : (s : State) → MeansOver (situated s cells texts as_handled) (situated s cells' texts as_handled) now n t before = subst (λ (ts : List Program). (s : State) → MeansOver (situated s cells ts as_handled) (situated s cells' ts as_handled) now n t before) p h in
    let l : (s : State) → MeansOver (situated s cells texts handled) (situated s cells' texts handled) now n t before = subst (λ (hs : List Handling). (s : State) → MeansOver (situated s cells texts hs) (situated s cells' texts hs) now n t before) q k in
    l (record fixed { printed = length printed; printing = reverse printing; classes = reverse classes }) units printed
lent_both (Err e) before now cells cells' texts as_lent handled as_handled classes printing printed t p q h = tt

-- what changes the exceptions that are being handled, with the texts by another name
pub lent_handled : (r : Result Next NoMemory) (before now : List Frame) (cells : List Cell) (texts as_lent : List Program) (handled handled' : List Handling) (classes : List MadeClass) (printing printed : List ℕ) (t : RuleTree) → as_lent ≡ texts
    → IfOk r (λ n. (fixed : State) → MeansOver (handling_in fixed as_lent handled) (handling_in fixed as_lent handled') now n t before) → IfOk r (λ n. Went before cells texts handled classes printing printed t now cells handled' printing printed n)
lent_handled (Ok n) before now cells texts as_lent handled handled' classes printing printed t p h = λ fixed units.
    let k : (s : State) → MeansOver (handling_in s texts handled) (handling_in s texts handled') now n t before = subst (λ (ts : List Program). (s : State) → MeansOver (handling_in s ts handled) (handling_in s ts handled') now n t before) p h in
    k (record fixed { cells = cells; printed = length printed; printing = reverse printing; classes = reverse classes }) units printed
lent_handled (Err e) before now cells texts as_lent handled handled' classes printing printed t p h = tt

-- what changes the lists and dicts whose texts are under way
pub lent_printing : (r : Result Next NoMemory) (before now : List Frame) (cells : List Cell) (texts : List Program) (handled : List Handling) (classes : List MadeClass) (printing printing' printed : List ℕ) (t : RuleTree)
    → IfOk r (λ n. (fixed : State) (texts : List Program) → MeansOver (shown fixed cells texts printing) (shown fixed cells texts printing') now n t before) → IfOk r (λ n. Went before cells texts handled classes printing printed t now cells handled printing' printed n)
lent_printing (Ok n) before now cells texts handled classes printing printing' printed t h = λ fixed units. h (record fixed { printed = length printed; handled = reverse handled; classes = reverse classes }) texts units printed
lent_printing (Err e) before now cells texts handled classes printing printing' printed t h = tt

-- a class statement, or a statement of a class body, with the texts by another name
pub lent_classes : (r : Result Next NoMemory) (before now : List Frame) (cells cells' : List Cell) (texts as_lent : List Program) (handled : List Handling) (made made' : List MadeClass) (printing printed : List ℕ) (t : RuleTree) → as_lent ≡ texts
    → IfOk r (λ n. (fixed : State) → MeansOver (classed fixed cells as_lent made) (classed fixed cells' as_lent made') now n t before)
    → IfOk r (λ n. (fixed : State) (units : ℕ) → runs units (bind t (rest (reverse before))) (counting fixed cells texts handled made printing printed) printed ≡ runs units (meant now n) (counting fixed cells' texts handled made' printing printed) printed)
lent_classes (Ok n) before now cells cells' texts as_lent handled made made' printing printed t p h = λ fixed units.
    let k : (s : State) → MeansOver (classed s cells texts made) (classed s cells' texts made') now n t before = subst (λ (ts : List Program). (s : State) → MeansOver (classed s cells ts made) (classed s cells' ts made') now n t before) p h in
    k (record fixed { printed = length printed; handled = reverse handled; printing = reverse printing }) units printed
lent_classes (Err e) before now cells cells' texts as_lent handled made made' printing printed t p h = tt

-- a class statement by its node
pub class_node : (r : Result Next NoMemory) (before now : List Frame) (cells cells' : List Cell) (texts as_lent : List Program) (handled : List Handling) (made made' : List MadeClass) (printing printed : List ℕ) (env : Env) (number : ℕ) (name : Name) (base : Option Name) (body : ℕ) → as_lent ≡ texts
    → node_of (slice_get as_lent env.text) number ≡ Some (node.Statement (statement.Class name base body))
    → IfOk r (λ n. (fixed : State) → MeansOver (classed fixed cells as_lent made) (classed fixed cells' as_lent made') now n (class_rule env name.text base body) before)
    → IfOk r (λ n. (fixed : State) (units : ℕ) → runs units (bind (node_rule env number) (rest (reverse before))) (counting fixed cells texts handled made printing printed) printed ≡ runs units (meant now n) (counting fixed cells' texts handled made' printing printed) printed)
class_node (Ok n) before now cells cells' texts as_lent handled made made' printing printed env number name base body p there h = λ fixed units.
    let at : node_of (slice_get texts env.text) number ≡ Some (node.Statement (statement.Class name base body)) = subst (λ (ts : List Program). node_of (slice_get ts env.text) number ≡ Some (node.Statement (statement.Class name base body))) p there in
    ap (λ (o : Option Node). runs units (bind (rule_of env o) (rest (reverse before))) (counting fixed cells texts handled made printing printed) printed) at
    ∙ lent_classes (Ok n) before now cells cells' texts as_lent handled made made' printing printed (class_rule env name.text base body) p h fixed units
class_node (Err e) before now cells cells' texts as_lent handled made made' printing printed env number name base body p there h = tt

-- what looks at the texts alone, by another name
pub lent_texts : (r : Result Next NoMemory) (before now : List Frame) (cells : List Cell) (texts as_lent : List Program) (handled : List Handling) (classes : List MadeClass) (printing printed : List ℕ) (t : RuleTree) → as_lent ≡ texts
    → IfOk r (λ n. (fixed : State) (others : List Cell) → MeansIn (stated fixed others as_lent) now n t before) → IfOk r (λ n. Went before cells texts handled classes printing printed t now cells handled printing printed n)
lent_texts (Ok n) before now cells texts as_lent handled classes printing printed t p h =
    lent (Ok n) before now cells cells texts as_lent handled classes printing printed t p (λ fixed. h fixed cells)
lent_texts (Err e) before now cells texts as_lent handled classes printing printed t p h = tt

-- an operation by what it is
pub at_operation : (r : Result Next NoMemory) (before now : List Frame) (cells cells' : List Cell) (texts : List Program) (handled handled' : List Handling) (classes : List MadeClass) (printing printing' printed printed' : List ℕ) (o as_told : Operation) → o ≡ as_told
    → IfOk r (λ n. Went before cells texts handled classes printing printed (perform as_told) now cells' handled' printing' printed' n) → IfOk r (λ n. Went before cells texts handled classes printing printed (perform o) now cells' handled' printing' printed' n)
at_operation r before now cells cells' texts handled handled' classes printing printing' printed printed' o as_told p h =
    subst (λ (x : Operation). IfOk r (λ n. Went before cells texts handled classes printing printed (perform x) now cells' handled' printing' printed' n)) (sym p) h

-- a step that spends one unit
spends_one : (m m' : Machine) (n n' : Next) (units left : ℕ) → units ≡ suc left → ((fixed : State) (more : ℕ) → course fixed m n (suc more) ≡ course fixed m' n' more) → LeavesRun m n (units - left) m' n'
spends_one m m' n n' units left e goes fixed more =
    let one : (units - left) + more ≡ suc more = omega (arith, e) in
    ap {B = ScriptEnd} (λ (u : ℕ). course fixed m n u) one ∙ goes fixed more

-- an operation behind its unit
pub performs : (m m' : Machine) (o : Operation) (n : Next) (units left : ℕ) → units ≡ suc left → GoesOn m (perform o) m' n → IsLight m'.stack.items n m.stack.items
    → LeavesRun m (next.Perform o) (units - left) m' n × (ahead m' n left + 1 ≤ ahead m (next.Perform o) units)
performs m m' o n units left e goes light = (spends_one m m' (next.Perform o) n units left e goes, omega (arith, e, light))

-- a node behind its unit
pub enters : (m m' : Machine) (env : Env) (number : ℕ) (n : Next) (units left : ℕ) → units ≡ suc left → GoesOn m (node_rule env number) m' n → IsLight m'.stack.items n m.stack.items
    → LeavesRun m (next.Enter env number) (units - left) m' n × (ahead m' n left + 1 ≤ ahead m (next.Enter env number) units)
enters m m' env number n units left e goes light = (spends_one m m' (next.Enter env number) n units left e goes, omega (arith, e, light))

-- a statement of a class body behind its unit
pub enters_member : (m m' : Machine) (env : Env) (number : ℕ) (n : Next) (units left : ℕ) → units ≡ suc left → GoesOn m (member_node_rule env number) m' n → IsLight m'.stack.items n m.stack.items
    → LeavesRun m (next.Member env number) (units - left) m' n × (ahead m' n left + 1 ≤ ahead m (next.Member env number) units)
enters_member m m' env number n units left e goes light = (spends_one m m' (next.Member env number) n units left e goes, omega (arith, e, light))

-- the name of a handler behind its unit
pub names_handler : (m : Machine) (units left : ℕ) → units ≡ suc left
    → LeavesRun m next.HandlerName (units - left) m (next.Give done) × (ahead m (next.Give done) left + 1 ≤ ahead m next.HandlerName units)
names_handler m units left e = (spends_one m m next.HandlerName (next.Give done) units left e (λ fixed more. refl), omega (arith, e))

-- a step that spends nothing, for what comes next by what it is
follows_told : (r : Result Progress NoMemory) (m m' : Machine) (n : Next) (units : ℕ) → IfOk r (λ p. (u : ℕ) → Follows m n u p m') → IfOk r (λ p. Advances m n units p m' units)
follows_told (Ok (progress.On further)) m m' n units h =
    ((λ fixed more. let none : (units - units) + more ≡ more = omega arith in ap {B = ScriptEnd} (λ (u : ℕ). course fixed m n u) none ∙ (h more).0 fixed), (h units).1)
follows_told (Ok (progress.Halted b)) m m' n units h = h units
follows_told (Err e) m m' n units h = tt

pub follows : (r : Result Progress NoMemory) (m m' : Machine) (n as_told : Next) (units : ℕ) → n ≡ as_told → IfOk r (λ p. (u : ℕ) → Follows m as_told u p m') → IfOk r (λ p. Advances m n units p m' units)
follows r m m' n as_told units is h = subst (λ (x : Next). IfOk r (λ p. Advances m x units p m' units)) (sym is) (follows_told r m m' as_told units h)

-- a step of a run that is under way
pub on_the_way : (first m m' : Machine) (begun n n' : Next) (given units left : ℕ) → ((fixed : State) → course fixed first begun given ≡ course fixed m n units) → LeavesRun m n (units - left) m' n' → left ≤ units
    → (fixed : State) → course fixed first begun given ≡ course fixed m' n' left
on_the_way first m m' begun n n' given units left before leaves less fixed =
    let all : units ≡ (units - left) + left = omega (arith, less) in
    before fixed ∙ ap {B = ScriptEnd} (λ (u : ℕ). course fixed m n u) all ∙ leaves fixed left

-- ---- statements

-- a step that looks at no exception that is being handled
pub as_situated : (r : Result Next NoMemory) (before now : List Frame) (cells cells' : List Cell) (texts : List Program) (handled : List Handling) (t : RuleTree)
    → IfOk r (λ n. (fixed : State) → MeansOver (stated fixed cells texts) (stated fixed cells' texts) now n t before) → IfOk r (λ n. (fixed : State) → MeansOver (situated fixed cells texts handled) (situated fixed cells' texts handled) now n t before)
as_situated (Ok n) before now cells cells' texts handled t h = λ fixed. h (record fixed { handled = reverse handled })
as_situated (Err e) before now cells cells' texts handled t h = tt

-- a step that looks at no cell
pub over_cells : (r : Result Next NoMemory) (before now : List Frame) (cells : List Cell) (texts : List Program) (handled : List Handling) (t : RuleTree)
    → IfOk r (λ n. (fixed : State) → MeansOver (handling_in fixed texts handled) (handling_in fixed texts handled) now n t before) → IfOk r (λ n. (fixed : State) → MeansOver (situated fixed cells texts handled) (situated fixed cells texts handled) now n t before)
over_cells (Ok n) before now cells texts handled t h = λ fixed. h (record fixed { cells = cells })
over_cells (Err e) before now cells texts handled t h = tt

-- a step that looks at nothing
pub anywhere : (r : Result Next NoMemory) (before now : List Frame) (cells : List Cell) (texts : List Program) (handled : List Handling) (t : RuleTree)
    → IfOk r (λ n. Means now n t before) → IfOk r (λ n. (fixed : State) → MeansOver (situated fixed cells texts handled) (situated fixed cells texts handled) now n t before)
anywhere (Ok n) before now cells texts handled t h = λ fixed units printed. ap (λ (x : RuleTree). runs units x (situated fixed cells texts handled) printed) (sym h)
anywhere (Err e) before now cells texts handled t h = tt

-- a step that changes no stack
pub at_stack : (r : Result Next NoMemory) (stack : List Frame) (cells cells' : List Cell) (texts : List Program) (t : RuleTree)
    → IfOk r (λ n. (fixed : State) (fs : List Frame) → MeansOver (stated fixed cells texts) (stated fixed cells' texts) fs n t fs) → IfOk r (λ n. (fixed : State) → MeansOver (stated fixed cells texts) (stated fixed cells' texts) stack n t stack)
at_stack (Ok n) stack cells cells' texts t h = λ fixed. h fixed stack
at_stack (Err e) stack cells cells' texts t h = tt

-- a step that looks at the texts alone
pub over_texts : (r : Result Next NoMemory) (before now : List Frame) (cells : List Cell) (texts : List Program) (handled : List Handling) (t : RuleTree)
    → IfOk r (λ n. (fixed : State) (others : List Cell) → MeansIn (stated fixed others texts) now n t before) → IfOk r (λ n. (fixed : State) → MeansOver (situated fixed cells texts handled) (situated fixed cells texts handled) now n t before)
over_texts (Ok n) before now cells texts handled t h = λ fixed. h (record fixed { handled = reverse handled }) cells
over_texts (Err e) before now cells texts handled t h = tt

-- a step that looks at the exceptions alone, and changes no stack
pub raised_over : (r : Result Next NoMemory) (stack : List Frame) (cells : List Cell) (texts : List Program) (handled : List Handling) (t : RuleTree)
    → IfOk r (λ n. (fixed : State) (others : List Program) (fs : List Frame) → MeansIn (handling_in fixed others handled) fs n t fs) → IfOk r (λ n. (fixed : State) → MeansOver (situated fixed cells texts handled) (situated fixed cells texts handled) stack n t stack)
raised_over (Ok n) stack cells texts handled t h = λ fixed. h (record fixed { cells = cells }) texts stack
raised_over (Err e) stack cells texts handled t h = tt

-- a statement by what it is
pub at_statement : (r : Result Next NoMemory) (before now : List Frame) (cells cells' : List Cell) (texts : List Program) (handled : List Handling) (env : Env) (s as_told : Statement) → s ≡ as_told
    → IfOk r (λ n. (fixed : State) → MeansOver (situated fixed cells texts handled) (situated fixed cells' texts handled) now n (statement_rule env as_told) before)
    → IfOk r (λ n. (fixed : State) → MeansOver (situated fixed cells texts handled) (situated fixed cells' texts handled) now n (statement_rule env s) before)
at_statement r before now cells cells' texts handled env s as_told p h =
    subst (λ (x : Statement). IfOk r (λ n. (fixed : State) → MeansOver (situated fixed cells texts handled) (situated fixed cells' texts handled) now n (statement_rule env x) before)) (sym p) h

-- ---- frames

-- a value that is given
pub given : (r : Result Next NoMemory) (now before : List Frame) (f : Value → RuleTree) (a : Completion) (v : Value) → a ≡ Gives v
    → IfOk r (λ n. Means now n (f v) before) → IfOk r (λ n. Means now n (on_value f a) before)
given r now before f a v p h = subst (λ (b : Completion). IfOk r (λ n. Means now n (on_value f b) before)) (sym p) h

pub given_in : (r : Result Next NoMemory) (now before : List Frame) (texts : List Program) (f : Value → RuleTree) (a : Completion) (v : Value) → a ≡ Gives v
    → IfOk r (λ n. (fixed : State) (cells : List Cell) → MeansIn (stated fixed cells texts) now n (f v) before)
    → IfOk r (λ n. (fixed : State) (cells : List Cell) → MeansIn (stated fixed cells texts) now n (on_value f a) before)
given_in r now before texts f a v p h = subst (λ (b : Completion). IfOk r (λ n. (fixed : State) (cells : List Cell) → MeansIn (stated fixed cells texts) now n (on_value f b) before)) (sym p) h

pub given_over : (r : Result Next NoMemory) (now before : List Frame) (texts : List Program) (cells cells' : List Cell) (f : Value → RuleTree) (a : Completion) (v : Value) → a ≡ Gives v
    → IfOk r (λ n. (fixed : State) → MeansOver (stated fixed cells texts) (stated fixed cells' texts) now n (f v) before)
    → IfOk r (λ n. (fixed : State) → MeansOver (stated fixed cells texts) (stated fixed cells' texts) now n (on_value f a) before)
given_over r now before texts cells cells' f a v p h = subst (λ (b : Completion). IfOk r (λ n. (fixed : State) → MeansOver (stated fixed cells texts) (stated fixed cells' texts) now n (on_value f b) before)) (sym p) h

pub given_cells : (r : Result Next NoMemory) (now before : List Frame) (cells : List Cell) (f : Value → RuleTree) (a : Completion) (v : Value) → a ≡ Gives v
    → IfOk r (λ n. (fixed : State) (texts : List Program) → MeansIn (stated fixed cells texts) now n (f v) before)
    → IfOk r (λ n. (fixed : State) (texts : List Program) → MeansIn (stated fixed cells texts) now n (on_value f a) before)
given_cells r now before cells f a v p h = subst (λ (b : Completion). IfOk r (λ n. (fixed : State) (texts : List Program) → MeansIn (stated fixed cells texts) now n (on_value f b) before)) (sym p) h

-- an end that passes
pub passes : (before : List Frame) (t : RuleTree) (b : Completion) → t ≡ Return b → Means before (next.Give b) t before
passes before t b e = ap (λ (x : RuleTree). bind x (rest (reverse before))) (sym e)

pub passes_over : (s : State) (before : List Frame) (t : RuleTree) (b : Completion) → t ≡ Return b → MeansOver s s before (next.Give b) t before
passes_over s before t b e units printed = ap (λ (x : RuleTree). runs units (bind x (rest (reverse before))) s printed) e

-- a frame by what it is
pub at_frame : (r : Result Next NoMemory) (now before : List Frame) (cells : List Cell) (texts : List Program) (f as_told : Frame) (a : Completion) → f ≡ as_told
    → IfOk r (λ n. Means now n (resume as_told a) before) → IfOk r (λ n. (fixed : State) → MeansOver (stated fixed cells texts) (stated fixed cells texts) now n (resume f a) before)
at_frame (Ok n) now before cells texts f as_told a p h = λ fixed units printed.
    ap (λ (x : Frame). runs units (bind (resume x a) (rest (reverse before))) (stated fixed cells texts) printed) p
    ∙ ap (λ (x : RuleTree). runs units x (stated fixed cells texts) printed) (sym h)
at_frame (Err e) now before cells texts f as_told a p h = tt

pub at_frame_cells : (r : Result Next NoMemory) (now before : List Frame) (cells : List Cell) (texts : List Program) (f as_told : Frame) (a : Completion) → f ≡ as_told
    → IfOk r (λ n. (fixed : State) (others : List Program) → MeansIn (stated fixed cells others) now n (resume as_told a) before)
    → IfOk r (λ n. (fixed : State) → MeansOver (stated fixed cells texts) (stated fixed cells texts) now n (resume f a) before)
at_frame_cells (Ok n) now before cells texts f as_told a p h = λ fixed units printed.
    ap (λ (x : Frame). runs units (bind (resume x a) (rest (reverse before))) (stated fixed cells texts) printed) p ∙ h fixed texts units printed
at_frame_cells (Err e) now before cells texts f as_told a p h = tt

pub at_frame_anywhere : (r : Result Next NoMemory) (now before : List Frame) (cells : List Cell) (texts : List Program) (f as_told : Frame) (a : Completion) → f ≡ as_told
    → IfOk r (λ n. (s : State) → MeansIn s now n (resume as_told a) before)
    → IfOk r (λ n. (fixed : State) → MeansOver (stated fixed cells texts) (stated fixed cells texts) now n (resume f a) before)
at_frame_anywhere (Ok n) now before cells texts f as_told a p h = λ fixed units printed.
    ap (λ (x : Frame). runs units (bind (resume x a) (rest (reverse before))) (stated fixed cells texts) printed) p ∙ h (stated fixed cells texts) units printed
at_frame_anywhere (Err e) now before cells texts f as_told a p h = tt

pub at_frame_over : (r : Result Next NoMemory) (now before : List Frame) (cells cells' : List Cell) (texts : List Program) (f as_told : Frame) (a : Completion) → f ≡ as_told
    → IfOk r (λ n. (fixed : State) → MeansOver (stated fixed cells texts) (stated fixed cells' texts) now n (resume as_told a) before)
    → IfOk r (λ n. (fixed : State) → MeansOver (stated fixed cells texts) (stated fixed cells' texts) now n (resume f a) before)
at_frame_over r now before cells cells' texts f as_told a p h = subst (λ (x : Frame). IfOk r (λ n. (fixed : State) → MeansOver (stated fixed cells texts) (stated fixed cells' texts) now n (resume x a) before)) (sym p) h

-- ---- nodes

-- a node by what it is
pub at_node : (r : Result Next NoMemory) (now before : List Frame) (cells cells' : List Cell) (texts : List Program) (handled : List Handling) (env : Env) (number : ℕ) (o : Option Node)
    → node_of (slice_get texts env.text) number ≡ o
    → IfOk r (λ n. (fixed : State) → MeansOver (situated fixed cells texts handled) (situated fixed cells' texts handled) now n (rule_of env o) before)
    → IfOk r (λ n. (fixed : State) → MeansOver (situated fixed cells texts handled) (situated fixed cells' texts handled) now n (node_rule env number) before)
at_node (Ok n) now before cells cells' texts handled env number o p h = λ fixed units printed.
    ap (λ (x : Option Node). runs units (bind (rule_of env x) (rest (reverse before))) (situated fixed cells texts handled) printed) p ∙ h fixed units printed
at_node (Err e) now before cells cells' texts handled env number o p h = tt

-- ---- printing

-- what prints, in the machine's own words
pub prints_over : (r : Result Next NoMemory) (before now : List Frame) (cells : List Cell) (texts : List Program) (handled : List Handling) (classes : List MadeClass) (printing old new : List ℕ) (t : RuleTree)
    → IfOk r (λ n. (fixed : State) (units : ℕ) → runs units (bind t (rest (reverse before))) (counted fixed old) old ≡ runs units (meant now n) (counted fixed new) new)
    → IfOk r (λ n. Went before cells texts handled classes printing old t now cells handled printing new n)
prints_over (Ok n) before now cells texts handled classes printing old new t h = λ fixed units. h (record (situated fixed cells texts handled) { printing = reverse printing; classes = reverse classes }) units
prints_over (Err e) before now cells texts handled classes printing old new t h = tt

-- what is printed is less to be done
pub printed_less : (before now : List Frame) (n : Next) (units : ℕ) → load now n ≤ 3 * length before + 10 → (20 * units + load now n) + 1 ≤ 20 * units + (3 * length before + 11)
printed_less before now n units h = omega (arith, h)

-- ---- what is carried out at once

-- a node that came to an end at once, over what waits
pub carried_out : (m : Machine) (store : Cells) (env : Env) (number units left : ℕ) (a : Completion) (as_lent : List Program) → as_lent ≡ m.texts.items
    → ((fixed : State) → ComesTo (evaluated env number) (stated fixed m.store.cells as_lent) units a (stated fixed store.cells as_lent) left) → left + 1 ≤ units
    → LeavesRun m (next.Enter env number) (units - left) (record m { store = store }) (next.Give a) × (ahead (record m { store = store }) (next.Give a) left + 1 ≤ ahead m (next.Enter env number) units)
carried_out m store env number units left a as_lent p comes less = (
  (λ fixed more.
      let k : (s : State) → ComesTo (evaluated env number) (stated s m.store.cells m.texts.items) units a (stated s store.cells m.texts.items) left = subst (λ (ts : List Program). (s : State) → ComesTo (evaluated env number) (stated s m.store.cells ts) units a (stated s store.cells ts) left) p comes in
      let s : State = record fixed { printed = length (printed_by m); handled = reverse m.handled; printing = reverse m.printing; classes = reverse m.classes } in
      comes_anyhow expand prints_behind units left more (evaluated env number) (stated s m.store.cells m.texts.items) (stated s store.cells m.texts.items) (printed_by m) a (rest (reverse m.stack.items)) (λ j. k s j (printed_by m))),
  omega (arith, less),
)
