-- The expressions that acts make of the parts that wait. Lists of parts have the last one first.
use Rattle.std.specs.Prelude.{ℕ, ℤ, List, [], ◌∷◌, codes, Option, Some, None, if◌then◌else◌}
use Rattle.std.specs.Str.{bytes_eq}
use Rattle.py_ast.specs.Builtins.{builtin_of}
use Rattle.py_ast.specs.declared.builtin.Builtin.{Builtin}
use Rattle.py_ast.specs.declared.expression.Expression.{Expression}
use Rattle.py_ast.specs.declared.expression.Expression.TheVariants as expression
use Rattle.py_ast.specs.declared.expression.Link.{Link}
use Rattle.py_ast.specs.declared.node.Node.TheVariants as node
use Rattle.rp_base.specs.declared.operators.BinaryOp.{BinaryOp}
use Rattle.rp_base.specs.declared.operators.UnaryOp.{UnaryOp}
use Rattle.rp_base.specs.declared.plain.Plain.{Plain}
use Rattle.rp_base.specs.declared.plain.Plain.TheVariants as plain
use Rattle.py_literals.specs.IntValues.{int_literal_value}
use Rattle.py_literals.specs.Values.{bytes_literal_value, text_literal_value}
use Rattle.py_parser.specs.declared.builder.Building.{Building}
use Rattle.py_parser.specs.declared.parts.Gathering.{Gathering}
use Rattle.py_parser.specs.declared.parts.Tree.{Tree}
use Rattle.py_parser.specs.Building.{stuck, with_tree, value_tree, place_tree}

-- a builtin's name, `NotImplemented`, or any other name
abbrev pub named : Option Builtin → List ℕ → Expression
named (Some function) word = expression.Builtin function
named None word = if bytes_eq word (codes "NotImplemented") then expression.Constant plain.NotImpl else expression.Name word

abbrev pub name_tree : Building → Building
name_tree b = place_tree (named (builtin_of b.word) b.word) b.line b.line b

abbrev pub constant : Plain → Building → Building
constant v b = value_tree (expression.Constant v) b.line b

abbrev pub of_int : Option ℤ → Building → Building
of_int (Some n) b = constant (plain.Int n) b
of_int None b = stuck b

abbrev pub int : Building → Building
int b = of_int (int_literal_value b.word) b

abbrev pub of_text : Option (List ℕ) → Building → Building
of_text (Some t) b = constant (plain.Text t) b
of_text None b = stuck b

abbrev pub text : Building → Building
text b = of_text (text_literal_value b.word) b

abbrev pub of_bytes : Option (List ℕ) → Building → Building
of_bytes (Some t) b = constant (plain.Bytes t) b
of_bytes None b = stuck b

abbrev pub byte_string : Building → Building
byte_string b = of_bytes (bytes_literal_value b.word) b

-- the last token is the attribute's name, and the node stands on its line
abbrev pub attribute : List Tree → Building → Building
attribute (receiver ∷ trees) b = place_tree (expression.Attribute receiver.number b.word) b.line receiver.line (record b { trees = trees })
attribute [] b = stuck b

abbrev pub item : List Tree → Building → Building
item (key ∷ receiver ∷ trees) b = place_tree (expression.Item receiver.number key.number) receiver.line receiver.line (record b { trees = trees })
item _ b = stuck b

abbrev pub call : List Tree → List Gathering → Building → Building
call (callee ∷ trees) (arguments ∷ lists) b =
    value_tree (expression.Call callee.number arguments.numbers) callee.line (record b { trees = trees; lists = lists })
call _ _ b = stuck b

abbrev pub conditional : List Tree → Building → Building
conditional (last ∷ test ∷ first ∷ trees) b =
    value_tree (expression.Conditional first.number test.number last.number) first.line (record b { trees = trees })
conditional _ b = stuck b

abbrev pub inverse : List Tree → List ℕ → Building → Building
inverse (operand ∷ trees) (at ∷ marks) b = value_tree (expression.Not operand.number) at (record b { trees = trees; marks = marks })
inverse _ _ b = stuck b

abbrev pub binary : List Tree → List BinaryOp → Building → Building
binary (right ∷ left ∷ trees) (op ∷ signs) b =
    value_tree (expression.Binary op left.number right.number) left.line (record b { trees = trees; signs = signs })
binary _ _ b = stuck b

abbrev pub unary : List Tree → List UnaryOp → List ℕ → Building → Building
unary (operand ∷ trees) (op ∷ signs) (at ∷ marks) b =
    value_tree (expression.Unary op operand.number) at (record b { trees = trees; unary_signs = signs; marks = marks })
unary _ _ _ b = stuck b

abbrev pub compare : List Tree → List (List Link) → Building → Building
compare (first ∷ trees) (links ∷ others) b = value_tree (expression.Compare first.number links) first.line (record b { trees = trees; links = others })
compare _ _ b = stuck b

-- what a list becomes: a chain of `or` or `and`, or a display
abbrev pub listed : (List ℕ → Expression) → List Gathering → Building → Building
listed make (list ∷ lists) b = value_tree (make list.numbers) list.line (record b { lists = lists })
listed make [] b = stuck b

-- a tuple without parentheses: of places, it may be a target
abbrev pub tuple : List Gathering → Building → Building
tuple (list ∷ lists) b = with_tree (node.Expression (expression.Tuple list.numbers)) list.line list.line list.form (record b { lists = lists })
tuple [] b = stuck b

abbrev pub empty_tuple : Building → Building
empty_tuple b = value_tree (expression.Tuple []) b.line b
