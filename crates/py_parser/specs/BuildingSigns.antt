-- What operators and signs of comparison mean.
use Rattle.std.specs.Prelude.{ℕ, List, [], ◌∷◌, codes, Option, Some, None, if◌then◌else◌}
use Rattle.std.specs.Str.{bytes_eq}
use Rattle.py_ast.specs.declared.expression.Comparison.{Comparison}
use Rattle.py_ast.specs.declared.expression.Comparison.TheVariants as comparison
use Rattle.rp_base.specs.declared.operators.BinaryOp.{BinaryOp}
use Rattle.rp_base.specs.declared.operators.BinaryOp.TheVariants as binary
use Rattle.rp_base.specs.declared.operators.CmpOp.TheVariants as order
use Rattle.rp_base.specs.declared.operators.UnaryOp.{UnaryOp}
use Rattle.rp_base.specs.declared.operators.UnaryOp.TheVariants as unary
use Rattle.py_parser.specs.declared.builder.Building.{Building}
use Rattle.py_parser.specs.declared.parts.Sign.{Sign}
use Rattle.py_parser.specs.Building.{stuck}

abbrev pub beside : {A : Type 0} → List ℕ → List (List ℕ × A) → Option A
beside word [] = None
beside word (entry ∷ entries) = if bytes_eq word entry.0 then Some entry.1 else beside word entries

abbrev pub binary_signs : List (List ℕ × BinaryOp)
binary_signs =
    (codes "+", binary.Add) ∷ (codes "-", binary.Sub) ∷ (codes "*", binary.Mul) ∷ (codes "/", binary.Div) ∷
    (codes "//", binary.FloorDiv) ∷ (codes "%", binary.Mod) ∷ (codes "**", binary.Pow) ∷ (codes "<<", binary.Shl) ∷
    (codes ">>", binary.Shr) ∷ (codes "&", binary.And) ∷ (codes "|", binary.Or) ∷ (codes "^", binary.Xor) ∷
    (codes "+=", binary.Add) ∷ (codes "-=", binary.Sub) ∷ (codes "*=", binary.Mul) ∷
    (codes "//=", binary.FloorDiv) ∷ (codes "%=", binary.Mod) ∷ (codes "**=", binary.Pow) ∷ (codes "<<=", binary.Shl) ∷
    (codes ">>=", binary.Shr) ∷ (codes "&=", binary.And) ∷ (codes "|=", binary.Or) ∷ (codes "^=", binary.Xor) ∷ []

abbrev pub unary_signs : List (List ℕ × UnaryOp)
unary_signs = (codes "-", unary.Neg) ∷ (codes "+", unary.Pos) ∷ (codes "~", unary.Invert) ∷ []

-- `not` stands for `not in`, and `is not` begins as `is`
abbrev pub comparison_signs : List (List ℕ × Comparison)
comparison_signs =
    (codes "==", comparison.Order order.Eq) ∷ (codes "!=", comparison.Order order.Ne) ∷ (codes "<", comparison.Order order.Lt) ∷
    (codes "<=", comparison.Order order.Le) ∷ (codes ">", comparison.Order order.Gt) ∷ (codes ">=", comparison.Order order.Ge) ∷
    (codes "in", comparison.In) ∷ (codes "not", comparison.NotIn) ∷ (codes "is", comparison.Is) ∷ []

abbrev pub with_binary_sign : Option BinaryOp → Building → Building
with_binary_sign (Some op) b = record b { signs = op ∷ b.signs }
with_binary_sign None b = stuck b

abbrev pub binary_sign : Building → Building
binary_sign b = with_binary_sign (beside b.word binary_signs) b

abbrev pub with_unary_sign : Option UnaryOp → Building → Building
with_unary_sign (Some op) b = record b { unary_signs = op ∷ b.unary_signs; marks = b.line ∷ b.marks }
with_unary_sign None b = stuck b

abbrev pub unary_sign : Building → Building
unary_sign b = with_unary_sign (beside b.word unary_signs) b

abbrev pub with_comparison : Option Comparison → Building → Building
with_comparison (Some c) b = record b { comparisons = record { comparison = c; line = b.line } ∷ b.comparisons }
with_comparison None b = stuck b

abbrev pub comparison_sign : Building → Building
comparison_sign b = with_comparison (beside b.word comparison_signs) b

-- the `not` behind an `is`
abbrev pub negate : List Sign → Building → Building
negate (sign ∷ signs) b = record b { comparisons = record { comparison = comparison.IsNot; line = sign.line } ∷ signs }
negate [] b = stuck b
