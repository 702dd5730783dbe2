-- Trees that become targets: their nodes are rewritten where they stand.
use Rattle.std.specs.Prelude.{ℕ, List, [], ◌∷◌, codes, slice_get, slice_set, Option, Some, None}
use Rattle.py_ast.specs.Builtins.{builtin_name}
use Rattle.py_ast.specs.declared.expression.Expression.{Expression}
use Rattle.py_ast.specs.declared.expression.Expression.TheVariants as expression
use Rattle.py_ast.specs.declared.node.Node.{Node}
use Rattle.py_ast.specs.declared.node.Node.TheVariants as node
use Rattle.py_ast.specs.declared.statement.Statement.TheVariants as statement
use Rattle.py_ast.specs.declared.target.Target.{Target}
use Rattle.py_ast.specs.declared.target.Target.TheVariants as target
use Rattle.rp_base.specs.declared.operators.BinaryOp.{BinaryOp}
use Rattle.rp_base.specs.declared.plain.Plain.TheVariants as plain
use Rattle.py_parser.specs.declared.builder.Building.{Building}
use Rattle.py_parser.specs.declared.parts.Form.{Form}
use Rattle.py_parser.specs.declared.parts.Form.TheVariants as form
use Rattle.py_parser.specs.declared.parts.Tree.{Tree}
use Rattle.py_parser.specs.Building.{stuck, statement_tree}

-- a builtin's name and `NotImplemented` are bound as any other name
abbrev pub place_of : Expression → Option Target
place_of (expression.Name word) = Some (target.Name word)
place_of (expression.Builtin f) = Some (target.Name (builtin_name f))
place_of (expression.Constant plain.NotImpl) = Some (target.Name (codes "NotImplemented"))
place_of (expression.Attribute receiver word) = Some (target.Attribute receiver word)
place_of (expression.Item receiver key) = Some (target.Item receiver key)
place_of _ = None

abbrev pub placed : ℕ → Option Target → List Node → List Node
placed number (Some t) nodes = slice_set nodes number (node.Target t)
placed number None nodes = nodes

abbrev pub placed_at : ℕ → Option Node → List Node → List Node
placed_at number (Some (node.Expression e)) nodes = placed number (place_of e) nodes
placed_at number _ nodes = nodes

-- the name, attribute or item of this number becomes a target
abbrev pub with_place : ℕ → List Node → List Node
with_place number nodes = placed_at number (slice_get nodes number) nodes

abbrev pub with_places : List ℕ → List Node → List Node
with_places [] nodes = nodes
with_places (number ∷ numbers) nodes = with_places numbers (with_place number nodes)

abbrev pub tuple_at : ℕ → Option Node → List Node → List Node
tuple_at number (Some (node.Expression (expression.Tuple numbers))) nodes = slice_set (with_places numbers nodes) number (node.Target (target.Tuple numbers))
tuple_at number _ nodes = nodes

abbrev pub aimed : Form → ℕ → List Node → List Node
aimed form.Place number nodes = with_place number nodes
aimed form.Places number nodes = tuple_at number (slice_get nodes number) nodes
aimed form.Value number nodes = nodes

-- the tree is a target
abbrev pub aim : Tree → Building → Building
aim tree b = record b { nodes = aimed tree.form tree.number b.nodes }

abbrev pub assign : List Tree → Building → Building
assign (value ∷ target ∷ trees) b =
    statement_tree (statement.Assign target.number value.number) target.line (aim target (record b { trees = trees }))
assign _ b = stuck b

abbrev pub augment : List Tree → List BinaryOp → Building → Building
augment (value ∷ target ∷ trees) (op ∷ signs) b =
    statement_tree (statement.Augmented target.number op value.number) target.line (aim target (record b { trees = trees; signs = signs }))
augment _ _ b = stuck b

abbrev pub delete : List Tree → List ℕ → Building → Building
delete (target ∷ trees) (at ∷ marks) b = statement_tree (statement.Delete target.number) at (aim target (record b { trees = trees; marks = marks }))
delete _ _ b = stuck b

abbrev pub loop_over : List Tree → List (Option ℕ) → List ℕ → Building → Building
loop_over (source ∷ target ∷ trees) (Some body ∷ suites) (at ∷ marks) b =
    statement_tree (statement.For target.number source.number body) at (aim target (record b { trees = trees; suites = suites; marks = marks }))
loop_over _ _ _ b = stuck b
