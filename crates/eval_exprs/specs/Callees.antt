-- What a text says of a callee, of an argument, and of the receiver of an attribute.
use Rattle.std.specs.Prelude.{ℕ, List, [], ◌∷◌, Option, Some, None, if◌then◌else◌}
use Rattle.py_ast.specs.declared.builtin.Builtin.{Builtin}
use Rattle.py_ast.specs.declared.builtin.Builtin.TheVariants as builtin
use Rattle.py_ast.specs.declared.expression.Expression.TheVariants as expression
use Rattle.py_ast.specs.declared.node.Node.{Node}
use Rattle.py_ast.specs.declared.node.Node.TheVariants as node
use Rattle.py_ast.specs.declared.program.Program.{Program}
use Rattle.object_operations.specs.declared.operation.Operation.TheVariants as operation
use Rattle.language_rules.specs.Answers.{asked}
use Rattle.language_rules.specs.Codes.{Env}
use Rattle.language_rules.specs.Going.{RuleTree, evaluates, evaluates_all}
use Rattle.language_rules.specs.Texts.{handler_names_of, has_name, node_of}
use Rattle.eval_frames.specs.declared.handler_frame.HandlerReading.{HandlerReading}
use Rattle.eval_frames.specs.declared.handler_frame.HandlerReading.TheVariants as reading

-- the builtin function that this node names
abbrev pub builtin_named : Option Node → Option Builtin
builtin_named (Some (node.Expression (expression.Builtin f))) = Some f
builtin_named _ = None

-- the name that this node is, where it is one of these names of handlers
abbrev pub handler_named : List (List ℕ) → Option Node → Option (List ℕ)
handler_named names (Some (node.Expression (expression.Name word))) = if has_name word names then Some word else None
handler_named names _ = None

-- the name of a handler that the node of this number in this text is
abbrev pub handler_in : Option Program → ℕ → Option (List ℕ)
handler_in p n = handler_named (handler_names_of p) (node_of p n)

-- the name of a handler that is the only argument
abbrev pub only_handler : Option Program → List ℕ → Option (List ℕ)
only_handler p (n ∷ []) = handler_in p n
only_handler p _ = None

-- what a builtin function asks of an exception by the name of its handler
abbrev pub reading_for : Builtin → Option HandlerReading
reading_for builtin.Str = Some reading.Str
reading_for builtin.Repr = Some reading.Repr
reading_for _ = None

-- a callee that is no builtin function, and then its arguments
abbrev pub callee_rule : Env → ℕ → List ℕ → RuleTree
callee_rule env callee arguments = evaluates env callee (λ f. evaluates_all env arguments (λ vs. asked (operation.Call f vs)))
