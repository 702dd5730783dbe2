-- What a node of a text does, behind its unit.
use Rattle.std.specs.Prelude.{ℕ, Option, Some}
use Rattle.py_ast.specs.declared.node.Node.{Node}
use Rattle.py_ast.specs.declared.node.Node.TheVariants as node
use Rattle.language_rules.specs.Codes.{Env}
use Rattle.language_rules.specs.Going.{RuleTree, nowhere, looks}
use Rattle.language_rules.specs.Texts.{node_at, on_statement}
use Rattle.language_rules.specs.Expressions.{expression_rule}
use Rattle.language_rules.specs.Statements.{statement_rule}
use Rattle.language_rules.specs.Classes.{member_rule}

-- a target is no node of its own
abbrev pub rule_of : Env → Option Node → RuleTree
rule_of env (Some (node.Expression e)) = expression_rule env e
rule_of env (Some (node.Statement s)) = statement_rule env s
rule_of env _ = nowhere

-- an expression or a statement
abbrev pub node_rule : Env → ℕ → RuleTree
node_rule env number = looks (λ s. rule_of env (node_at s env number))

-- a statement of a class body
abbrev pub member_node_rule : Env → ℕ → RuleTree
member_node_rule env number = on_statement env number (member_rule env)
