-- A case of a rule, for the value that the case was told of.
use Rattle.std.proofs.Common.{◌≡◌, ℕ, List, [], ◌∷◌, ◌++◌, reverse, slice_get, Option, Some, None, Result, Ok, Err, IfOk, refl, sym, ◌∙◌, ap, subst}
use Rattle.std.proofs.lemmas.List.{reverse-append}
use Rattle.rp_base.specs.declared.ends.NoMemory.{NoMemory}
use Rattle.rp_base.specs.declared.value.Value.{Value}
use Rattle.py_ast.specs.declared.builtin.Builtin.{Builtin}
use Rattle.py_ast.specs.declared.builtin.Builtin.TheVariants as builtin
use Rattle.py_ast.specs.declared.expression.Expression.{Expression}
use Rattle.py_ast.specs.declared.expression.Expression.TheVariants as expression
use Rattle.py_ast.specs.declared.node.Node.{Node}
use Rattle.py_ast.specs.declared.node.Node.TheVariants as node
use Rattle.py_ast.specs.declared.program.Program.{Program}
use Rattle.py_store.specs.declared.cell.Cell.{Cell}
use Rattle.side_trees.specs.Trees.{bind}
use Rattle.language_rules.specs.AtOnce.{stated}
use Rattle.language_rules.specs.Builtins.{builtin_rule}
use Rattle.language_rules.specs.Codes.{Env}
use Rattle.language_rules.specs.Expressions.{attribute_rule, behind_name, builtin_call, call_rule, expression_rule, handler_argument, handler_name}
use Rattle.language_rules.specs.Going.{RuleTree, evaluates_all, evaluates_behind, looks}
use Rattle.language_rules.specs.Running.{runs}
use Rattle.language_rules.specs.States.{State}
use Rattle.language_rules.specs.Texts.{handler_names_of, node_at, node_of, text_at}
use Rattle.eval_frames.specs.declared.frame.ExpressionFrame.{ExpressionFrame}
use Rattle.eval_frames.specs.declared.frame.Frame.{Frame}
use Rattle.eval_frames.specs.declared.frame.Gathering.{Gathering}
use Rattle.eval_frames.specs.declared.frame.Gathering.TheVariants as gathering
use Rattle.eval_frames.specs.declared.handler_frame.HandlerReading.{HandlerReading}
use Rattle.eval_frames.specs.declared.next.Next.{Next}
use Rattle.eval_frames.specs.HandlerFrames.{reads_handler}
use Rattle.eval_frames.specs.Meaning.{Means, MeansIn, gathers, rest, through_expression}
use Rattle.eval_exprs.proofs.Moving.{at_as, at_cells}
use Rattle.eval_exprs.specs.Callees.{builtin_named, callee_rule, handler_in, handler_named, only_handler, reading_for}
use Rattle.eval_exprs.specs.Steps.{MeansAt}

-- a step at an expression, in every state
pub at_expression : (r : Result Next NoMemory) (now before : List Frame) (env : Env) (cells : List Cell) (texts : List Program) (e as_told : Expression) → e ≡ as_told
    → IfOk r (λ n. Means now n (expression_rule env as_told) before)
    → IfOk r (λ n. (fixed : State) → MeansIn (stated fixed cells texts) now n (expression_rule env e) before)
at_expression (Ok n) now before env cells texts e as_told p h = λ fixed units printed.
    ap (λ (x : Expression). runs units (bind (expression_rule env x) (rest (reverse before))) (stated fixed cells texts) printed) p
    ∙ ap (λ (t : RuleTree). runs units t (stated fixed cells texts) printed) (sym h)
at_expression (Err x) now before env cells texts e as_told p h = tt

-- the same, where the step looks at the cells
pub at_expression_in : (r : Result Next NoMemory) (now before : List Frame) (env : Env) (cells : List Cell) (texts : List Program) (e as_told : Expression) → e ≡ as_told
    → IfOk r (λ n. MeansAt cells now n (expression_rule env as_told) before)
    → IfOk r (λ n. (fixed : State) → MeansIn (stated fixed cells texts) now n (expression_rule env e) before)
at_expression_in (Ok n) now before env cells texts e as_told p h = λ fixed units printed.
    ap (λ (x : Expression). runs units (bind (expression_rule env x) (rest (reverse before))) (stated fixed cells texts) printed) p ∙ h fixed texts units printed
at_expression_in (Err x) now before env cells texts e as_told p h = tt

-- the same, where it looks at the texts
pub at_expression_of : (r : Result Next NoMemory) (now before : List Frame) (env : Env) (cells : List Cell) (texts : List Program) (e as_told : Expression) → e ≡ as_told
    → IfOk r (λ n. (fixed : State) → MeansIn (stated fixed cells texts) now n (expression_rule env as_told) before)
    → IfOk r (λ n. (fixed : State) → MeansIn (stated fixed cells texts) now n (expression_rule env e) before)
at_expression_of r now before env cells texts e as_told p h =
    subst (λ (x : Expression). IfOk r (λ n. (fixed : State) → MeansIn (stated fixed cells texts) now n (expression_rule env x) before)) (sym p) h

-- a step at a frame
pub at_frame : (r : Result Next NoMemory) (now before : List Frame) (cells : List Cell) (v : Value) (f as_told : ExpressionFrame) → f ≡ as_told
    → IfOk r (λ n. MeansAt cells now n (through_expression as_told v) before) → IfOk r (λ n. MeansAt cells now n (through_expression f v) before)
at_frame r now before cells v f as_told p h = subst (λ (x : ExpressionFrame). IfOk r (λ n. MeansAt cells now n (through_expression x v) before)) (sym p) h

-- what is made of values
pub at_gathering : (r : Result Next NoMemory) (now before : List Frame) (cells : List Cell) (vs : List Value) (g as_told : Gathering) → g ≡ as_told
    → IfOk r (λ n. MeansAt cells now n (gathers as_told vs) before) → IfOk r (λ n. MeansAt cells now n (gathers g vs) before)
at_gathering r now before cells vs g as_told p h = subst (λ (x : Gathering). IfOk r (λ n. MeansAt cells now n (gathers x vs) before)) (sym p) h

-- a builtin function
pub at_function : (r : Result Next NoMemory) (now before : List Frame) (cells : List Cell) (vs : List Value) (f as_told : Builtin) → f ≡ as_told
    → IfOk r (λ n. MeansAt cells now n (builtin_rule as_told vs) before) → IfOk r (λ n. MeansAt cells now n (builtin_rule f vs) before)
at_function r now before cells vs f as_told p h = subst (λ (x : Builtin). IfOk r (λ n. MeansAt cells now n (builtin_rule x vs) before)) (sym p) h

-- ---- builtin functions with their arguments

no_handler : (env : Env) (f : Builtin) (arguments : List ℕ) → evaluates_all env arguments (gathers (gathering.Builtin f)) ≡ builtin_call env f arguments None
no_handler env builtin.Print arguments = refl
no_handler env builtin.Len arguments = refl
no_handler env builtin.Str arguments = refl
no_handler env builtin.Repr arguments = refl
no_handler env builtin.Int arguments = refl
no_handler env builtin.Bool arguments = refl
no_handler env builtin.Abs arguments = refl
no_handler env builtin.Ord arguments = refl
no_handler env builtin.Chr arguments = refl
no_handler env builtin.Range arguments = refl
no_handler env builtin.List arguments = refl
no_handler env builtin.Tuple arguments = refl
no_handler env builtin.Dict arguments = refl
no_handler env builtin.Min arguments = refl
no_handler env builtin.Max arguments = refl
no_handler env builtin.Sum arguments = refl
no_handler env builtin.Sorted arguments = refl

pub called : (r : Result Next NoMemory) (now before : List Frame) (cells : List Cell) (env : Env) (f : Builtin) (arguments : List ℕ) (name : Option (List ℕ)) → name ≡ None
    → IfOk r (λ n. MeansAt cells now n (evaluates_all env arguments (gathers (gathering.Builtin f))) before) → IfOk r (λ n. MeansAt cells now n (builtin_call env f arguments name) before)
called r now before cells env f arguments name e h =
    at_as r now before cells (evaluates_all env arguments (gathers (gathering.Builtin f))) (builtin_call env f arguments name) (no_handler env f arguments ∙ ap (builtin_call env f arguments) (sym e)) h

pub called_by_name : (r : Result Next NoMemory) (now before : List Frame) (cells : List Cell) (env : Env) (f : Builtin) (arguments : List ℕ) (name : Option (List ℕ)) (word : List ℕ) → name ≡ Some word
    → IfOk r (λ n. MeansAt cells now n (builtin_call env f arguments (Some word)) before) → IfOk r (λ n. MeansAt cells now n (builtin_call env f arguments name) before)
called_by_name r now before cells env f arguments name word e h = at_as r now before cells (builtin_call env f arguments (Some word)) (builtin_call env f arguments name) (ap (builtin_call env f arguments) (sym e)) h

-- by what the function asks of an exception
abbrev by_reading : Env → Builtin → List ℕ → List ℕ → Option HandlerReading → RuleTree
by_reading env f arguments word (Some r) = behind_name (reads_handler r env word)
by_reading env f arguments word None = evaluates_all env arguments (gathers (gathering.Builtin f))

with_handler : (env : Env) (f : Builtin) (arguments : List ℕ) (word : List ℕ) → by_reading env f arguments word (reading_for f) ≡ builtin_call env f arguments (Some word)
with_handler env builtin.Print arguments word = refl
with_handler env builtin.Len arguments word = refl
with_handler env builtin.Str arguments word = refl
with_handler env builtin.Repr arguments word = refl
with_handler env builtin.Int arguments word = refl
with_handler env builtin.Bool arguments word = refl
with_handler env builtin.Abs arguments word = refl
with_handler env builtin.Ord arguments word = refl
with_handler env builtin.Chr arguments word = refl
with_handler env builtin.Range arguments word = refl
with_handler env builtin.List arguments word = refl
with_handler env builtin.Tuple arguments word = refl
with_handler env builtin.Dict arguments word = refl
with_handler env builtin.Min arguments word = refl
with_handler env builtin.Max arguments word = refl
with_handler env builtin.Sum arguments word = refl
with_handler env builtin.Sorted arguments word = refl

by_handler : (env : Env) (f : Builtin) (arguments : List ℕ) (word : List ℕ) (found as_told : Option HandlerReading) → found ≡ reading_for f → found ≡ as_told
    → by_reading env f arguments word as_told ≡ builtin_call env f arguments (Some word)
by_handler env f arguments word found as_told h e = ap (by_reading env f arguments word) (sym e ∙ h) ∙ with_handler env f arguments word

pub handler_read : (r : Result Next NoMemory) (now before : List Frame) (cells : List Cell) (env : Env) (f : Builtin) (arguments : List ℕ) (word : List ℕ) (found : Option HandlerReading) (reading : HandlerReading)
    → found ≡ reading_for f → found ≡ Some reading
    → IfOk r (λ n. Means now n (behind_name (reads_handler reading env word)) before)
    → IfOk r (λ n. MeansAt cells now n (builtin_call env f arguments (Some word)) before)
handler_read r now before cells env f arguments word found reading h e m =
    at_as r now before cells (behind_name (reads_handler reading env word)) (builtin_call env f arguments (Some word)) (by_handler env f arguments word found (Some reading) h e)
    (at_cells r now before cells (behind_name (reads_handler reading env word)) m)

pub handler_passed : (r : Result Next NoMemory) (now before : List Frame) (cells : List Cell) (env : Env) (f : Builtin) (arguments : List ℕ) (word : List ℕ) (found : Option HandlerReading)
    → found ≡ reading_for f → found ≡ None
    → IfOk r (λ n. MeansAt cells now n (evaluates_all env arguments (gathers (gathering.Builtin f))) before)
    → IfOk r (λ n. MeansAt cells now n (builtin_call env f arguments (Some word)) before)
handler_passed r now before cells env f arguments word found h e m =
    at_as r now before cells (evaluates_all env arguments (gathers (gathering.Builtin f))) (builtin_call env f arguments (Some word)) (by_handler env f arguments word found None h e) m

-- ---- names of handlers

expression_named : (s : State) (env : Env) (e : Expression) → handler_name s env (Some (node.Expression e)) ≡ handler_named (handler_names_of (text_at s env.text)) (Some (node.Expression e))
expression_named s env (expression.Name word) = refl
expression_named s env (expression.Builtin f) = refl
expression_named s env (expression.Constant p) = refl
expression_named s env (expression.Tuple ns) = refl
expression_named s env (expression.List ns) = refl
expression_named s env (expression.Dict ns) = refl
expression_named s env (expression.Lambda f) = refl
expression_named s env (expression.Conditional a t b) = refl
expression_named s env (expression.Or ns) = refl
expression_named s env (expression.And ns) = refl
expression_named s env (expression.Compare a ls) = refl
expression_named s env (expression.Not n) = refl
expression_named s env (expression.Unary o n) = refl
expression_named s env (expression.Binary o l r) = refl
expression_named s env (expression.Attribute r n) = refl
expression_named s env (expression.Item r k) = refl
expression_named s env (expression.Call g ns) = refl

node_named : (s : State) (env : Env) (o : Option Node) → handler_name s env o ≡ handler_named (handler_names_of (text_at s env.text)) o
node_named s env None = refl
node_named s env (Some (node.Expression e)) = expression_named s env e
node_named s env (Some (node.Target t)) = refl
node_named s env (Some (node.Statement t)) = refl

argument_named : (s : State) (env : Env) (arguments : List ℕ) → handler_argument s env arguments ≡ only_handler (text_at s env.text) arguments
argument_named s env [] = refl
argument_named s env (n ∷ []) = node_named s env (node_at s env n)
argument_named s env (n ∷ m ∷ ns) = refl

-- ---- attributes

pub attribute_begun : (r : Result Next NoMemory) (now before : List Frame) (texts : List Program) (env : Env) (receiver : ℕ) (word : List ℕ) (found as_told : Option (List ℕ))
    → found ≡ handler_in (slice_get texts env.text) receiver → found ≡ as_told
    → IfOk r (λ n. Means now n (attribute_rule env receiver word as_told) before)
    → IfOk r (λ n. (fixed : State) (cells : List Cell) → MeansIn (stated fixed cells texts) now n (expression_rule env (expression.Attribute receiver word)) before)
attribute_begun (Ok n) now before texts env receiver word found as_told h e m = λ fixed cells units printed.
    ap (λ (o : Option (List ℕ)). runs units (bind (attribute_rule env receiver word o) (rest (reverse before))) (stated fixed cells texts) printed)
    (node_named (stated fixed cells texts) env (node_at (stated fixed cells texts) env receiver) ∙ sym h ∙ e)
    ∙ ap (λ (t : RuleTree). runs units t (stated fixed cells texts) printed) (sym m)
attribute_begun (Err x) now before texts env receiver word found as_told h e m = tt

-- ---- callees

-- by the builtin function that the callee names
abbrev by_callee : State → Env → ℕ → List ℕ → Option Builtin → RuleTree
by_callee s env callee arguments (Some f) = builtin_call env f arguments (handler_argument s env arguments)
by_callee s env callee arguments None = callee_rule env callee arguments

expression_called : (s : State) (env : Env) (callee : ℕ) (arguments : List ℕ) (e : Expression) → call_rule s env callee arguments (Some (node.Expression e)) ≡ by_callee s env callee arguments (builtin_named (Some (node.Expression e)))
expression_called s env callee arguments (expression.Name word) = refl
expression_called s env callee arguments (expression.Builtin f) = refl
expression_called s env callee arguments (expression.Constant p) = refl
expression_called s env callee arguments (expression.Tuple ns) = refl
expression_called s env callee arguments (expression.List ns) = refl
expression_called s env callee arguments (expression.Dict ns) = refl
expression_called s env callee arguments (expression.Lambda f) = refl
expression_called s env callee arguments (expression.Conditional a t b) = refl
expression_called s env callee arguments (expression.Or ns) = refl
expression_called s env callee arguments (expression.And ns) = refl
expression_called s env callee arguments (expression.Compare a ls) = refl
expression_called s env callee arguments (expression.Not n) = refl
expression_called s env callee arguments (expression.Unary o n) = refl
expression_called s env callee arguments (expression.Binary o l r) = refl
expression_called s env callee arguments (expression.Attribute r n) = refl
expression_called s env callee arguments (expression.Item r k) = refl
expression_called s env callee arguments (expression.Call g ns) = refl

node_called : (s : State) (env : Env) (callee : ℕ) (arguments : List ℕ) (o : Option Node) → call_rule s env callee arguments o ≡ by_callee s env callee arguments (builtin_named o)
node_called s env callee arguments None = refl
node_called s env callee arguments (Some (node.Expression e)) = expression_called s env callee arguments e
node_called s env callee arguments (Some (node.Target t)) = refl
node_called s env callee arguments (Some (node.Statement t)) = refl

pub builtin_begun : (r : Result Next NoMemory) (now before : List Frame) (cells : List Cell) (texts : List Program) (env : Env) (callee : ℕ) (arguments : List ℕ) (found : Option Builtin) (f : Builtin) (name : Option (List ℕ))
    → found ≡ builtin_named (node_of (slice_get texts env.text) callee) → found ≡ Some f → name ≡ only_handler (slice_get texts env.text) arguments
    → IfOk r (λ n. MeansAt cells now n (builtin_call env f arguments name) before)
    → IfOk r (λ n. (fixed : State) → MeansIn (stated fixed cells texts) now n (looks (λ s. call_rule s env callee arguments (node_at s env callee))) before)
builtin_begun (Ok n) now before cells texts env callee arguments found f name h e g m = λ fixed units printed.
    let s : State = stated fixed cells texts in
    ap (λ (t : RuleTree). runs units (bind t (rest (reverse before))) s printed)
    (node_called s env callee arguments (node_at s env callee) ∙ ap (by_callee s env callee arguments) (sym h ∙ e) ∙ ap (builtin_call env f arguments) (argument_named s env arguments ∙ sym g))
    ∙ m fixed texts units printed
builtin_begun (Err x) now before cells texts env callee arguments found f name h e g m = tt

pub callee_begun : (r : Result Next NoMemory) (now before : List Frame) (cells : List Cell) (texts : List Program) (env : Env) (callee : ℕ) (arguments : List ℕ) (found : Option Builtin)
    → found ≡ builtin_named (node_of (slice_get texts env.text) callee) → found ≡ None
    → IfOk r (λ n. Means now n (callee_rule env callee arguments) before)
    → IfOk r (λ n. (fixed : State) → MeansIn (stated fixed cells texts) now n (looks (λ s. call_rule s env callee arguments (node_at s env callee))) before)
callee_begun (Ok n) now before cells texts env callee arguments found h e m = λ fixed units printed.
    let s : State = stated fixed cells texts in
    ap (λ (t : RuleTree). runs units (bind t (rest (reverse before))) s printed) (node_called s env callee arguments (node_at s env callee) ∙ ap (by_callee s env callee arguments) (sym h ∙ e))
    ∙ ap (λ (t : RuleTree). runs units t s printed) (sym m)
callee_begun (Err x) now before cells texts env callee arguments found h e m = tt

-- ---- operands that wait

pub next_gathered : (env : Env) (vs : List Value) (f : List Value → RuleTree) (old new : List ℕ) (n : ℕ) → old ≡ new ++ n ∷ [] → evaluates_behind env vs (n ∷ reverse new) f ≡ evaluates_behind env vs (reverse old) f
next_gathered env vs f old new n e = ap (λ (ns : List ℕ). evaluates_behind env vs ns f) (sym (ap (λ (ns : List ℕ). reverse ns) e ∙ reverse-append new (n ∷ [])))

pub all_gathered : (env : Env) (vs : List Value) (f : List Value → RuleTree) (old : List ℕ) → old ≡ [] → f vs ≡ evaluates_behind env vs (reverse old) f
all_gathered env vs f old e = ap (λ (ns : List ℕ). evaluates_behind env vs (reverse ns) f) (sym e)
