-- Worked examples of operators and expressions, computed by the checker: each is run in a state with one text and no handler, where a node stands for its clause and an operation for nothing.
use Rattle.std.specs.Prelude.{◌≡◌, [], ◌∷◌, codes, pos, Some, None, true, false, ℕ, List, Option}
use Rattle.std.proofs.Common.{refl}
use Rattle.rp_base.specs.declared.exceptions.Beyond.{Beyond}
use Rattle.rp_base.specs.declared.exceptions.Beyond.TheVariants as beyond
use Rattle.rp_base.specs.declared.exceptions.ExcKind.TheVariants as kind
use Rattle.rp_base.specs.declared.operators.BinaryOp.TheVariants as op
use Rattle.rp_base.specs.declared.operators.CmpOp.TheVariants as cmp
use Rattle.rp_base.specs.declared.plain.Plain.TheVariants as plain
use Rattle.rp_base.specs.declared.value.Value.{Value}
use Rattle.rp_base.specs.declared.value.Value.TheVariants as value
use Rattle.py_ast.specs.declared.builtin.Builtin.TheVariants as builtin
use Rattle.py_ast.specs.declared.expression.Comparison.TheVariants as comparison
use Rattle.py_ast.specs.declared.expression.Expression.{Expression}
use Rattle.py_ast.specs.declared.expression.Expression.TheVariants as expression
use Rattle.py_ast.specs.declared.node.Node.{Node}
use Rattle.py_ast.specs.declared.node.Node.TheVariants as node
use Rattle.py_ast.specs.declared.program.Program.{Program}
use Rattle.py_store.specs.declared.cell.Cell.{Cell}
use Rattle.py_store.specs.declared.cell.Cell.TheVariants as cell
use Rattle.object_operations.specs.declared.operation.Operation.{Operation}
use Rattle.side_trees.specs.Trees.{Ended, Return, Done, Stopped, run}
use Rattle.language_rules.specs.Comparing.{plain_equals, equals_step}
use Rattle.language_rules.specs.Codes.{Env, Code, Node as NodeCode, Give, Completion, Gives, Raises}
use Rattle.language_rules.specs.Computing.{rules_computing}
use Rattle.language_rules.specs.States.{State}
use Rattle.language_rules.specs.Texts.{node_at}
use Rattle.language_rules.specs.Going.{RuleTree, nowhere, looks, text, boolean, raised}
use Rattle.language_rules.specs.Operators.{binary_rule, augmented_rule}
use Rattle.language_rules.specs.Expressions.{expression_rule}

abbrev nodes_of : List Expression → List Node
nodes_of [] = []
nodes_of (e ∷ es) = node.Expression e ∷ nodes_of es

abbrev program_of : List Expression → Program
program_of es = record { nodes = nodes_of es; lines = []; root = 0; functions = []; handler_names = codes "e" ∷ []; is_expression = true }

abbrev start : List Expression → List Cell → State
start es cells = record { cells = cells; printed = 0; texts = program_of es ∷ []; handled = record { text = 0; scope = 1; name = Some (codes "e"); raised = raised kind.ValueError (plain.Text (codes "no") ∷ []); bound = true } ∷ []; classes = []; printing = []; modules = []; reads_script = λ t. None; reads_expression = λ t. None }

abbrev top : Env
top = record { text = 0; function = None; scope = 1 }

abbrev clause : Env → Option Node → RuleTree
clause env (Some (node.Expression e)) = expression_rule env e
clause env _ = nowhere

abbrev expand : Code → RuleTree
expand (NodeCode env n) = looks (λ s. clause env (node_at s env n))
expand (Give a) = Return a
expand _ = nowhere

abbrev EndedRule : Type 0
EndedRule = Ended Code State Operation Completion Beyond (List ℕ) (List ℕ)

-- how a tree ends with many units, in a state with these expressions and these cells
abbrev ends : List Expression → List Cell → RuleTree → EndedRule
ends es cells t = run expand (λ d w. d) 100 t (start es cells) []

-- the value, the state, and the units that are left
abbrev comes_to : List Expression → List Cell → Value → ℕ → List Cell → EndedRule
comes_to es cells v left later = Done (Gives v) (start es later) left []

abbrev evaluate : ℕ → RuleTree
evaluate n = expand (NodeCode top n)

abbrev int : ℕ → Expression
int n = expression.Constant (plain.Int (pos n))

abbrev number : ℕ → Value
number n = value.Plain (plain.Int (pos n))

-- 1 < 2 < 2 < 3 gives False, and the last operand is not evaluated
abbrev chain : List Expression
chain = int 1 ∷ int 2 ∷ int 2 ∷ int 3 ∷ expression.Compare 0 (record { comparison = comparison.Order cmp.Lt; line = 1; right = 1 } ∷ record { comparison = comparison.Order cmp.Lt; line = 1; right = 2 } ∷ record { comparison = comparison.Order cmp.Lt; line = 1; right = 3 } ∷ []) ∷ []

pub chain_stops : ends chain [] (evaluate 4) ≡ comes_to chain [] (boolean false) 97 []
unfolding rules_computing
chain_stops = refl

-- 0 or "" or 2
abbrev choice : List Expression
choice = int 0 ∷ expression.Constant (plain.Text []) ∷ int 2 ∷ expression.Or (0 ∷ 1 ∷ 2 ∷ []) ∷ expression.And (2 ∷ 1 ∷ 0 ∷ []) ∷ expression.Not 0 ∷ expression.Conditional 1 2 0 ∷ []

pub last_of_or : ends choice [] (evaluate 3) ≡ comes_to choice [] (number 2) 97 []
unfolding rules_computing
last_of_or = refl

-- 2 and "" and 0
pub first_false_of_and : ends choice [] (evaluate 4) ≡ comes_to choice [] (text []) 98 []
unfolding rules_computing
first_false_of_and = refl

-- not 0
pub not_zero : ends choice [] (evaluate 5) ≡ comes_to choice [] (boolean true) 99 []
unfolding rules_computing
not_zero = refl

-- "" if 2 else 0
pub first_branch : ends choice [] (evaluate 6) ≡ comes_to choice [] (text []) 98 []
unfolding rules_computing
first_branch = refl

-- True in (0, 1), True not in (0, 1), None is None, 0 is not None
abbrev tests : List Expression
tests =
    expression.Constant (plain.Bool true) ∷ int 0 ∷ int 1 ∷ expression.Tuple (1 ∷ 2 ∷ []) ∷ expression.Constant plain.None ∷
    expression.Compare 0 (record { comparison = comparison.In; line = 1; right = 3 } ∷ []) ∷
    expression.Compare 0 (record { comparison = comparison.NotIn; line = 1; right = 3 } ∷ []) ∷
    expression.Compare 4 (record { comparison = comparison.Is; line = 1; right = 4 } ∷ []) ∷
    expression.Compare 1 (record { comparison = comparison.IsNot; line = 1; right = 4 } ∷ []) ∷
    []

pub one_within : ends tests [] (evaluate 5) ≡ comes_to tests [] (boolean true) 96 []
unfolding rules_computing
one_within = refl

pub one_not_within : ends tests [] (evaluate 6) ≡ comes_to tests [] (boolean false) 96 []
unfolding rules_computing
one_not_within = refl

pub none_is_none : ends tests [] (evaluate 7) ≡ comes_to tests [] (boolean true) 98 []
unfolding rules_computing
none_is_none = refl

pub zero_is_not_none : ends tests [] (evaluate 8) ≡ comes_to tests [] (boolean true) 98 []
unfolding rules_computing
zero_is_not_none = refl

-- {1: 2, True: 3}: the first spelling stays, with the last value; {[]: 1} has a key that is not plain; ([],)
abbrev displays : List Expression
displays = int 1 ∷ int 2 ∷ expression.Constant (plain.Bool true) ∷ int 3 ∷ expression.Dict (0 ∷ 1 ∷ 2 ∷ 3 ∷ []) ∷ expression.List [] ∷ expression.Dict (5 ∷ 0 ∷ []) ∷ expression.Tuple (5 ∷ []) ∷ expression.Lambda 7 ∷ []

pub keys_keep_their_spelling : ends displays [] (evaluate 4) ≡ comes_to displays [] (value.Own 1) 96 (cell.Dict ((plain.Int (pos 1), number 3) ∷ []) 0 ∷ [])
unfolding rules_computing
keys_keep_their_spelling = refl

pub keys_are_plain : ends displays [] (evaluate 6) ≡ Stopped beyond.Key (start displays (cell.List [] ∷ [])) 98 []
unfolding rules_computing
keys_are_plain = refl

pub tuple_of_a_list : ends displays [] (evaluate 7) ≡ comes_to displays [] (value.Tuple (value.Own 1 ∷ [])) 99 (cell.List [] ∷ [])
unfolding rules_computing
tuple_of_a_list = refl

pub new_function : ends displays [] (evaluate 8) ≡ comes_to displays [] (value.Own 1) 100 (cell.Function 0 7 1 ∷ [])
unfolding rules_computing
new_function = refl

-- e.args, for one unit behind its own
abbrev handler : List Expression
handler = expression.Name (codes "e") ∷ expression.Attribute 0 (codes "args") ∷ expression.Builtin builtin.Str ∷ expression.Call 2 (0 ∷ []) ∷ []

pub arguments_of_a_handler : ends handler [] (evaluate 1) ≡ comes_to handler [] (value.Plain (plain.Tuple (plain.Text (codes "no") ∷ []))) 99 []
unfolding rules_computing
arguments_of_a_handler = refl

pub text_of_a_handler : ends handler [] (evaluate 3) ≡ comes_to handler [] (text (codes "no")) 99 []
unfolding rules_computing
text_of_a_handler = refl

-- ---- operators; cell 1 is a list, 2 a dict, 3 a view, 4 a class, 5 a function

abbrev objects : List Cell
objects = cell.List [] ∷ cell.Dict [] 0 ∷ cell.Range (pos 0) (pos 1) (pos 1) ∷ cell.Class (codes "C") None [] ∷ cell.Function 0 0 1 ∷ []

abbrev proxy : List ℕ → Value
proxy name = value.Proxy (record { name = name; class_no = 0; inst_no = 9 })

abbrev view : Value
view = proxy (codes "builtins.view")

abbrev beyond_operator : RuleTree → Type 0
beyond_operator t = ends [] objects t ≡ Stopped beyond.Operator (start [] objects) 100 []

abbrev refused : RuleTree → Type 0
refused t = ends [] objects t ≡ Done (Raises (raised kind.TypeError (plain.Text (codes "unsupported operand") ∷ []))) (start [] objects) 100 []

-- {} | {}, {} | []
pub dicts : beyond_operator (binary_rule op.Or (value.Own 2) (value.Own 2))
unfolding rules_computing
dicts = refl

pub dict_and_list : refused (binary_rule op.Or (value.Own 2) (value.Own 1))
unfolding rules_computing
dict_and_list = refl

-- 2 * [], True * [], "" * []
pub int_times_list : beyond_operator (binary_rule op.Mul (number 2) (value.Own 1))
unfolding rules_computing
int_times_list = refl

pub bool_times_list : beyond_operator (binary_rule op.Mul (boolean true) (value.Own 1))
unfolding rules_computing
bool_times_list = refl

pub text_times_list : refused (binary_rule op.Mul (text []) (value.Own 1))
unfolding rules_computing
text_times_list = refl

-- "" - view, () & view, 1 & view, [] & view, view | 1, f & view
pub text_less_view : beyond_operator (binary_rule op.Sub (text []) view)
unfolding rules_computing
text_less_view = refl

pub tuple_and_view : beyond_operator (binary_rule op.And (value.Plain (plain.Tuple [])) view)
unfolding rules_computing
tuple_and_view = refl

pub int_and_view : refused (binary_rule op.And (number 1) view)
unfolding rules_computing
int_and_view = refl

pub list_and_view : beyond_operator (binary_rule op.And (value.Own 1) view)
unfolding rules_computing
list_and_view = refl

pub view_or_int : beyond_operator (binary_rule op.Or view (number 1))
unfolding rules_computing
view_or_int = refl

pub function_and_view : refused (binary_rule op.And (value.Own 5) view)
unfolding rules_computing
function_and_view = refl

-- None | C, C | 1
pub none_or_class : beyond_operator (binary_rule op.Or (value.Plain plain.None) (value.Own 4))
unfolding rules_computing
none_or_class = refl

pub class_or_int : beyond_operator (binary_rule op.Or (value.Own 4) (number 1))
unfolding rules_computing
class_or_int = refl

-- "%" % [], ("",) % []
pub format : beyond_operator (binary_rule op.Mod (text (codes "%")) (value.Own 1))
unfolding rules_computing
format = refl

pub tuple_modulo_list : refused (binary_rule op.Mod (value.Plain (plain.Tuple [])) (value.Own 1))
unfolding rules_computing
tuple_modulo_list = refl

-- [] ** 2, 2 ** []
pub power_of_list : refused (binary_rule op.Pow (value.Own 1) (number 2))
unfolding rules_computing
power_of_list = refl

-- x *= 2, x *= "" of a list; x |= [] and x |= 1 of a dict
pub list_times : beyond_operator (augmented_rule op.Mul (value.Own 1) (number 2))
unfolding rules_computing
list_times = refl

pub list_times_text : refused (augmented_rule op.Mul (value.Own 1) (text []))
unfolding rules_computing
list_times_text = refl

pub dict_update : beyond_operator (augmented_rule op.Or (value.Own 2) (value.Own 1))
unfolding rules_computing
dict_update = refl

pub dict_update_by_int : refused (augmented_rule op.Or (value.Own 2) (number 1))
unfolding rules_computing
dict_update_by_int = refl

-- (f,) + (1,), (f,) * 2, 0 * (f,)
abbrev with_function : Value
with_function = value.Tuple (value.Own 5 ∷ [])

pub tuples_added : binary_rule op.Add with_function (value.Plain (plain.Tuple (plain.Int (pos 1) ∷ []))) ≡ Return (Gives (value.Tuple (value.Own 5 ∷ number 1 ∷ [])))
unfolding rules_computing
tuples_added = refl

pub tuple_twice : binary_rule op.Mul with_function (number 2) ≡ Return (Gives (value.Tuple (value.Own 5 ∷ value.Own 5 ∷ [])))
unfolding rules_computing
tuple_twice = refl

pub no_tuple : binary_rule op.Mul (number 0) with_function ≡ Return (Gives (value.Plain (plain.Tuple [])))
unfolding rules_computing
no_tuple = refl
