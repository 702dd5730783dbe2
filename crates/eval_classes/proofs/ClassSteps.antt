-- The steps of a class statement.
use Rattle.std.proofs.Common.{◌≡◌, ◌+◌, ℕ, suc, List, [], ◌∷◌, ◌++◌, length, reverse, slice_get, Option, Some, None, Result, Ok, Err, IfOk, refl, sym, ◌∙◌, ap, arith}
use Rattle.std.proofs.lemmas.List.{reverse-append}
use mathlib.Core.Path.{fun_ext}
use Rattle.rp_base.specs.declared.ends.NoMemory.{NoMemory}
use Rattle.rp_base.specs.declared.exceptions.Beyond.TheVariants as beyond
use Rattle.rp_base.specs.declared.value.Value.{Value}
use Rattle.rp_base.specs.declared.value.Value.TheVariants as value
use Rattle.py_ast.specs.declared.name.Name.{Name}
use Rattle.py_ast.specs.declared.node.Node.{Node}
use Rattle.py_ast.specs.declared.node.Node.TheVariants as node
use Rattle.py_ast.specs.declared.program.Program.{Program}
use Rattle.py_ast.specs.declared.statement.Statement.{Statement}
use Rattle.py_store.specs.declared.cell.Binding.{Binding}
use Rattle.py_store.specs.declared.cell.Cell.{Cell}
use Rattle.py_store.specs.declared.cell.Cell.TheVariants as cell
use Rattle.side_trees.specs.Trees.{Return, Spend, bind}
use Rattle.language_rules.specs.AtOnce.{stated}
use Rattle.language_rules.specs.Classes.{class_rule, member_rule, on_base, on_members, with_member}
use Rattle.language_rules.specs.Codes.{Completion, Env, Gives, Raises, Returns, Breaks, Continues, Drained}
use Rattle.language_rules.specs.Codes as codes
use Rattle.language_rules.specs.Going.{RuleTree, done, evaluates, on_value}
use Rattle.language_rules.specs.Names.{binds_name}
use Rattle.language_rules.specs.Nodes.{member_node_rule}
use Rattle.language_rules.specs.Running.{ScriptEnd, runs}
use Rattle.language_rules.specs.States.{MadeClass, State}
use Rattle.language_rules.specs.Texts.{as_statement, node_of, on_statement, on_suite}
use Rattle.eval_frames.specs.declared.class_frame.ClassFrame.{ClassFrame}
use Rattle.eval_frames.specs.declared.frame.Frame.{Frame}
use Rattle.eval_frames.specs.declared.frame.Frame.TheVariants as frame
use Rattle.eval_frames.specs.declared.next.Next.{Next}
use Rattle.eval_frames.specs.declared.next.Next.TheVariants as next
use Rattle.eval_frames.specs.ClassFrames.{ends_class, through_class}
use Rattle.eval_frames.specs.Meaning.{Means, MeansIn, MeansOver, classed, rest}
use Rattle.eval_classes.specs.Bodies.{FindsAttributes, FindsBase, on_attributes, on_class}

-- ---- the value of an attribute

as_it_is : (a : Completion) → Return a ≡ on_value (λ v. Return (Gives v)) a
as_it_is (Gives v) = refl
as_it_is (Raises r) = refl
as_it_is (Returns v) = refl
as_it_is Breaks = refl
as_it_is Continues = refl
as_it_is (Drained vs) = refl

-- the end of the value's expression is the end of its statement
pub handed_on : (env : Env) (n : ℕ) (stack : List Frame) → Means stack (next.Enter env n) (evaluates env n (λ v. Return (Gives v))) stack
handed_on env n stack = ap (λ (k : Completion → RuleTree). Spend (codes.Node env n) k) (fun_ext (λ a. ap (λ (t : RuleTree). bind t (rest (reverse stack))) (as_it_is a)))

-- ---- the class is made

abbrev class_cell : List ℕ → Option ℕ → List Binding → Cell
class_cell name base attributes = cell.Class name base attributes

abbrev class_of : ℕ → List ℕ → ℕ → MadeClass
class_of text name number = record { text = text; name = name; number = number }

-- the binding of a class's name, where the class has this number, among these cells and classes, the newest first
abbrev bound_in : Env → List ℕ → (Completion → RuleTree) → State → List Program → ℕ → List ℕ → ℕ → List Cell → List MadeClass → ScriptEnd
bound_in env name k fixed texts units printed number cells classes =
    runs units (bind (binds_name env name (value.Own number) (Return done)) k) (record fixed { cells = cells; texts = texts; classes = classes }) printed

next_number : (n m : ℕ) → n ≡ m + 1 → suc m ≡ n
next_number n m h = omega (arith, h)

pub class_made : (env : Env) (name : List ℕ) (base : Option ℕ) (attributes : List Binding) (k : Completion → RuleTree) (fixed : State) (texts : List Program) (cells cells' : List Cell) (classes classes' : List MadeClass) (number : ℕ)
    → number ≡ length cells + 1 → cells' ≡ cells ++ class_cell name base attributes ∷ [] → classes' ≡ classes ++ class_of env.text name number ∷ []
    → (units : ℕ) (printed : List ℕ)
    → runs units (bind (ends_class env name base attributes) k) (classed fixed cells texts classes) printed ≡ runs units (bind (binds_name env name (value.Own number) (Return done)) k) (classed fixed cells' texts classes') printed
class_made env name base attributes k fixed texts cells cells' classes classes' number is made kept units printed =
    ap (λ (n : ℕ). bound_in env name k fixed texts units printed n (cells ++ class_cell name base attributes ∷ []) (class_of env.text name n ∷ reverse classes)) (next_number number (length cells) is)
    ∙ ap (λ (cs : List Cell). bound_in env name k fixed texts units printed number cs (class_of env.text name number ∷ reverse classes)) (sym made)
    ∙ ap (bound_in env name k fixed texts units printed number cells') (sym (ap (λ (ms : List MadeClass). reverse ms) kept ∙ reverse-append classes (class_of env.text name number ∷ [])))

-- the class is made, and the binding of its name goes on
pub class_ended : (env : Env) (name : List ℕ) (base : Option ℕ) (attributes : List Binding) (texts : List Program) (cells cells' cells'' : List Cell) (classes classes' : List MadeClass) (number : ℕ) (result : Result Next NoMemory)
    → number ≡ length cells + 1 → cells' ≡ cells ++ class_cell name base attributes ∷ [] → classes' ≡ classes ++ class_of env.text name number ∷ []
    → IfOk result (λ n. (fixed : State) (stack : List Frame) → MeansOver (stated fixed cells' texts) (stated fixed cells'' texts) stack n (binds_name env name (value.Own number) (Return done)) stack)
    → IfOk result (λ n. (fixed : State) (stack : List Frame) → MeansOver (classed fixed cells texts classes) (classed fixed cells'' texts classes') stack n (ends_class env name base attributes) stack)
class_ended env name base attributes texts cells cells' cells'' classes classes' number (Err e) is made kept h = h
class_ended env name base attributes texts cells cells' cells'' classes classes' number (Ok n) is made kept h = λ fixed stack units printed.
    class_made env name base attributes (rest (reverse stack)) fixed texts cells cells' classes classes' number is made kept units printed
    ∙ h (record fixed { classes = reverse classes' }) stack units printed

-- ---- a statement of the body

-- the statement of this number begins
pub member_begun : (env : Env) (number : ℕ) (st : Statement) (texts : List Program) (now before : List Frame) (result : Result Next NoMemory)
    → Some (node.Statement st) ≡ node_of (slice_get texts env.text) number
    → IfOk result (λ n. Means now n (member_rule env st) before)
    → IfOk result (λ n. (fixed : State) (cells : List Cell) → MeansIn (stated fixed cells texts) now n (member_node_rule env number) before)
member_begun env number st texts now before (Err e) is h = h
member_begun env number st texts now before (Ok n) is h = λ fixed cells units printed.
    ap (λ (o : Option Node). runs units (bind (as_statement (member_rule env) o) (rest (reverse before))) (stated fixed cells texts) printed) (sym is)
    ∙ ap (λ (t : RuleTree). runs units t (stated fixed cells texts) printed) (sym h)

-- it begins over what waits for its end
pub member_entered : (f : ClassFrame) (before now : List Frame) → now ≡ before ++ frame.Class f ∷ []
    → Means now (next.Member f.env f.member) (on_members f.env (f.member ∷ reverse f.waiting) f.attributes (ends_class f.env f.name f.base)) before
member_entered f before now is =
    ap (λ (fs : List Frame). Spend (codes.Member f.env f.member) (rest (reverse fs))) is
    ∙ ap (λ (fs : List Frame). Spend (codes.Member f.env f.member) (rest fs)) (reverse-append before (frame.Class f ∷ []))

-- what a statement gave goes on with the attributes that were found
abbrev Found : ClassFrame → Value → List Program → Option (List Binding) → Type 0
Found f v texts found = (fixed : State) (cells : List Cell) → FindsAttributes (stated fixed cells texts) (λ g. on_statement f.env f.member (with_member f.env f.attributes v g)) found

abbrev goes_behind : ClassFrame → List Binding → RuleTree
goes_behind f attributes = on_members f.env (reverse f.waiting) attributes (ends_class f.env f.name f.base)

pub given_on : (f : ClassFrame) (v : Value) (texts : List Program) (cells cells' : List Cell) (classes classes' : List MadeClass) (now before : List Frame) (found : Option (List Binding)) (attributes : List Binding) (result : Result Next NoMemory)
    → found ≡ Some attributes → Found f v texts found
    → IfOk result (λ n. (fixed : State) → MeansOver (classed fixed cells texts classes) (classed fixed cells' texts classes') now n (goes_behind f attributes) before)
    → IfOk result (λ n. (fixed : State) → MeansOver (classed fixed cells texts classes) (classed fixed cells' texts classes') now n (through_class f v) before)
given_on f v texts cells cells' classes classes' now before found attributes (Err e) is finds h = h
given_on f v texts cells cells' classes classes' now before found attributes (Ok n) is finds h = λ fixed units printed.
    finds (record fixed { classes = reverse classes }) cells (goes_behind f) (rest (reverse before)) units printed
    ∙ ap (λ (o : Option (List Binding)). runs units (bind (on_attributes (goes_behind f) o) (rest (reverse before))) (classed fixed cells texts classes) printed) is
    ∙ h fixed units printed

pub given_off : (f : ClassFrame) (v : Value) (texts : List Program) (cells : List Cell) (classes : List MadeClass) (before : List Frame) (found : Option (List Binding))
    → found ≡ None → Found f v texts found
    → (fixed : State) → MeansOver (classed fixed cells texts classes) (classed fixed cells texts classes) before (next.Leave beyond.NotYet) (through_class f v) before
given_off f v texts cells classes before found is finds fixed units printed =
    finds (record fixed { classes = reverse classes }) cells (goes_behind f) (rest (reverse before)) units printed
    ∙ ap (λ (o : Option (List Binding)). runs units (bind (on_attributes (goes_behind f) o) (rest (reverse before))) (classed fixed cells texts classes) printed) is

-- ---- the base

-- the statement with this base
abbrev of_base : Env → List ℕ → ℕ → Option ℕ → RuleTree
of_base env name body b = on_suite env body (λ statements. on_members env statements [] (ends_class env name b))

pub based_on : (env : Env) (name : List ℕ) (base : Option Name) (body : ℕ) (texts : List Program) (cells cells' : List Cell) (classes as_seen classes' : List MadeClass) (now before : List Frame) (found : Option (Option ℕ)) (b : Option ℕ) (result : Result Next NoMemory)
    → found ≡ Some b → as_seen ≡ classes
    → ((fixed : State) (texts : List Program) → FindsBase (classed fixed cells texts as_seen) (on_base env base) found)
    → IfOk result (λ n. (fixed : State) → MeansOver (classed fixed cells texts classes) (classed fixed cells' texts classes') now n (of_base env name body b) before)
    → IfOk result (λ n. (fixed : State) → MeansOver (classed fixed cells texts classes) (classed fixed cells' texts classes') now n (class_rule env name base body) before)
based_on env name base body texts cells cells' classes as_seen classes' now before found b (Err e) is seen finds h = h
based_on env name base body texts cells cells' classes as_seen classes' now before found b (Ok n) is seen finds h = λ fixed units printed.
    ap (λ (cs : List MadeClass). runs units (bind (class_rule env name base body) (rest (reverse before))) (classed fixed cells texts cs) printed) (sym seen)
    ∙ finds fixed texts (of_base env name body) (rest (reverse before)) units printed
    ∙ ap (λ (o : Option (Option ℕ)). runs units (bind (on_class (of_base env name body) o) (rest (reverse before))) (classed fixed cells texts as_seen) printed) is
    ∙ ap (λ (cs : List MadeClass). runs units (bind (of_base env name body b) (rest (reverse before))) (classed fixed cells texts cs) printed) seen
    ∙ h fixed units printed
