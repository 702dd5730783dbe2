-- The clauses of expressions: what each node gives, behind its unit (Python Language Reference, "Expressions").
use Rattle.std.specs.Prelude.{ℕ, List, [], ◌∷◌, Option, Some, None, if◌then◌else◌}
use Rattle.rp_base.specs.declared.value.Value.TheVariants as value
use Rattle.rp_base.specs.Values.{tuple_of}
use Rattle.py_ast.specs.declared.builtin.Builtin.{Builtin}
use Rattle.py_ast.specs.declared.builtin.Builtin.TheVariants as builtin
use Rattle.py_ast.specs.declared.expression.Expression.{Expression}
use Rattle.py_ast.specs.declared.expression.Expression.TheVariants as expression
use Rattle.py_ast.specs.declared.node.Node.{Node}
use Rattle.py_ast.specs.declared.node.Node.TheVariants as node
use Rattle.py_store.specs.declared.cell.Cell.TheVariants as cell
use Rattle.object_operations.specs.declared.operation.Operation.TheVariants as operation
use Rattle.side_trees.specs.Trees.{Spend}
use Rattle.language_rules.specs.Answers.{tuple_answers, gives, asked}
use Rattle.language_rules.specs.Builtins.{builtin_rule}
use Rattle.language_rules.specs.Chains.{or_rule, and_rule, not_rule, conditional_rule, chain_rule}
use Rattle.language_rules.specs.Codes.{Env, Give}
use Rattle.language_rules.specs.Displays.{entries_with, new_list, new_dict}
use Rattle.language_rules.specs.Going.{RuleTree, nowhere, done, looks, gives_new, on_value, evaluates, evaluates_all}
use Rattle.language_rules.specs.Handlers.{is_handler_name, handled_str, handled_repr, handled_args}
use Rattle.language_rules.specs.Names.{reads_name}
use Rattle.language_rules.specs.Operators.{unary_rule, binary_rule}
use Rattle.language_rules.specs.PlainItems.{item_of}
use Rattle.language_rules.specs.States.{State}
use Rattle.language_rules.specs.Texts.{node_at}

-- ---- names of handlers (Python Language Reference, "The try statement"): they stand for an exception, which is no value

-- the name, where the node is the name of a handler
abbrev pub handler_name : State → Env → Option Node → Option (List ℕ)
handler_name s env (Some (node.Expression (expression.Name word))) = if is_handler_name s env word then Some word else None
handler_name s env _ = None

-- the unit of such a name, which is a node as any other is
abbrev pub behind_name : RuleTree → RuleTree
behind_name t = Spend (Give done) (on_value (λ v. t))

-- ---- attributes and calls

-- `e.args` of a handler's name, else what the receiver is asked
abbrev pub attribute_rule : Env → ℕ → List ℕ → Option (List ℕ) → RuleTree
attribute_rule env receiver word (Some name) = behind_name (handled_args env name)
attribute_rule env receiver word None = evaluates env receiver (λ v. asked (operation.GetAttr v word))

-- the handler's name that is the only argument
abbrev pub handler_argument : State → Env → List ℕ → Option (List ℕ)
handler_argument s env (n ∷ []) = handler_name s env (node_at s env n)
handler_argument s env _ = None

-- a builtin function: `str(e)` and `repr(e)` of a handler's name, else the arguments and then the function
abbrev pub builtin_call : Env → Builtin → List ℕ → Option (List ℕ) → RuleTree
builtin_call env builtin.Str arguments (Some name) = behind_name (handled_str env name)
builtin_call env builtin.Repr arguments (Some name) = behind_name (handled_repr env name)
builtin_call env function arguments _ = evaluates_all env arguments (builtin_rule function)

-- A call. The name of a builtin function is no node; any other callee comes before the arguments.
abbrev pub call_rule : State → Env → ℕ → List ℕ → Option Node → RuleTree
call_rule s env callee arguments (Some (node.Expression (expression.Builtin function))) = builtin_call env function arguments (handler_argument s env arguments)
call_rule s env callee arguments _ = evaluates env callee (λ f. evaluates_all env arguments (λ vs. asked (operation.Call f vs)))

-- ---- the clauses

abbrev pub expression_rule : Env → Expression → RuleTree
-- a name ("Identifiers (Names)"), and a constant ("Literals")
expression_rule env (expression.Name word) = reads_name env word gives
expression_rule env (expression.Builtin function) = nowhere
expression_rule env (expression.Constant p) = gives (value.Plain p)
-- displays ("Parenthesized forms", "List displays", "Dictionary displays")
expression_rule env (expression.Tuple items) = evaluates_all env items (λ vs. tuple_answers (tuple_of vs))
expression_rule env (expression.List items) = evaluates_all env items new_list
expression_rule env (expression.Dict items) = evaluates_all env items (λ vs. new_dict (entries_with [] vs))
-- a function without a name ("Lambdas")
expression_rule env (expression.Lambda function) = gives_new (cell.Function env.text function env.scope)
-- what may leave operands out
expression_rule env (expression.Conditional first test last) = conditional_rule env first test last
expression_rule env (expression.Or operands) = or_rule env operands
expression_rule env (expression.And operands) = and_rule env operands
expression_rule env (expression.Compare first links) = chain_rule env first links
expression_rule env (expression.Not operand) = not_rule env operand
-- operators
expression_rule env (expression.Unary o operand) = evaluates env operand (λ v. unary_rule o v)
expression_rule env (expression.Binary o left right) = evaluates env left (λ a. evaluates env right (λ b. binary_rule o a b))
-- "Primaries": attributes, items and calls
expression_rule env (expression.Attribute receiver word) = looks (λ s. attribute_rule env receiver word (handler_name s env (node_at s env receiver)))
expression_rule env (expression.Item receiver key) = evaluates env receiver (λ v. evaluates env key (λ k. item_of v k))
expression_rule env (expression.Call callee arguments) = looks (λ s. call_rule s env callee arguments (node_at s env callee))
