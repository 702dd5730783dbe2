-- The grammar as a table: the ways in which each word is written, and the words that may be empty.
-- A word that is further in stands one level deeper. Lists that the grammar repeats, and parts that may be missing, are words of their own.
use Rattle.std.specs.Prelude.{List, [], ◌∷◌, Option, Some, None}
use Rattle.py_grammar.specs.declared.act.Act.{Act}
use Rattle.py_grammar.specs.declared.act.Act.TheVariants as a
use Rattle.py_grammar.specs.declared.symbol.Guard.TheVariants as g
use Rattle.py_grammar.specs.declared.symbol.Start.{Start}
use Rattle.py_grammar.specs.declared.symbol.Start.TheVariants as starts
use Rattle.py_grammar.specs.declared.symbol.Symbol.{Symbol}
use Rattle.py_grammar.specs.declared.symbol.Symbol.TheVariants.{Terminal as Tk, Word as Nt, Act as Do}
use Rattle.py_grammar.specs.declared.terminal.Terminal.TheVariants as t
use Rattle.py_grammar.specs.declared.word.Word.{Word}
use Rattle.py_grammar.specs.declared.word.Word.TheVariants as w
use Rattle.py_grammar.specs.Ways.{Way, way, guarded}

unfoldable pub ways : Word → List Way
-- ---- statements
ways w.Statements = way (Nt w.Statement 0 ∷ Do a.Add ∷ Nt w.Statements 0 ∷ []) ∷ []
ways w.Statement =
    way (Nt w.Simple 0 ∷ Tk t.Newline ∷ [])
    ∷ way (Tk t.If ∷ Do a.Mark ∷ Nt w.Expr 0 ∷ Tk t.Colon ∷ Nt w.Suite 1 ∷ Nt w.IfTail 0 ∷ Do a.MakeIf ∷ [])
    ∷ way (Tk t.While ∷ Do a.Mark ∷ Nt w.Expr 0 ∷ Tk t.Colon ∷ Nt w.Suite 1 ∷ Do a.MakeWhile ∷ [])
    ∷ way (Tk t.For ∷ Do a.Mark ∷ Nt w.Targets 0 ∷ Tk t.In ∷ Nt w.Exprs 0 ∷ Tk t.Colon ∷ Nt w.Suite 1 ∷ Do a.MakeFor ∷ [])
    ∷ way (Tk t.Try ∷ Do a.Mark ∷ Tk t.Colon ∷ Nt w.Suite 1 ∷ Do a.Begin ∷ Nt w.TryTail 1 ∷ Do a.MakeTry ∷ [])
    ∷ way (Tk t.Def ∷ Do a.Mark ∷ Tk t.Name ∷ Do a.Name ∷ Tk t.OpenParenthesis ∷ Do a.BeginNames ∷ Nt w.Parameters 0 ∷ Tk t.CloseParenthesis ∷ Do a.BeginDef ∷ Tk t.Colon ∷ Nt w.Suite 1 ∷ Do a.MakeDef ∷ [])
    ∷ way (Tk t.Class ∷ Do a.Mark ∷ Tk t.Name ∷ Do a.Name ∷ Nt w.Base 0 ∷ Tk t.Colon ∷ Nt w.Suite 1 ∷ Do a.MakeClass ∷ []) ∷ []
ways w.IfTail =
    way (Tk t.Elif ∷ Do a.Mark ∷ Nt w.Expr 0 ∷ Tk t.Colon ∷ Nt w.Suite 1 ∷ Nt w.IfTail 0 ∷ Do a.MakeElif ∷ [])
    ∷ way (Tk t.Else ∷ Tk t.Colon ∷ Nt w.Suite 1 ∷ []) ∷ []
ways w.TryTail = way (Nt w.Final 0 ∷ []) ∷ way (Nt w.Handler 0 ∷ Nt w.HandlersTail 0 ∷ Nt w.FinalTail 0 ∷ []) ∷ []
ways w.Handler = way (Tk t.Except ∷ Do a.Mark ∷ Do a.BeginNames ∷ Nt w.Caught 0 ∷ Tk t.Colon ∷ Nt w.Suite 0 ∷ Do a.MakeHandler ∷ Do a.Add ∷ []) ∷ []
ways w.HandlersTail = way (Nt w.Handler 0 ∷ Nt w.HandlersTail 0 ∷ []) ∷ []
ways w.Caught =
    way (Tk t.Name ∷ Do a.AddName ∷ Nt w.AsName 0 ∷ [])
    ∷ way (Tk t.OpenParenthesis ∷ Tk t.Name ∷ Do a.AddName ∷ Nt w.NamesTail 0 ∷ Tk t.CloseParenthesis ∷ Nt w.AsName 0 ∷ []) ∷ []
ways w.AsName = way (Tk t.As ∷ Tk t.Name ∷ Do a.Name ∷ []) ∷ []
ways w.Final = way (Tk t.Finally ∷ Tk t.Colon ∷ Nt w.Suite 0 ∷ []) ∷ []
ways w.FinalTail = way (Nt w.Final 0 ∷ []) ∷ []
ways w.Parameters = guarded g.FewerParameters (Tk t.Name ∷ Do a.AddName ∷ Nt w.ParametersTail 0 ∷ []) ∷ []
ways w.ParametersTail = way (Tk t.Comma ∷ Nt w.Parameters 0 ∷ []) ∷ []
ways w.Base = way (Tk t.OpenParenthesis ∷ Tk t.Name ∷ Do a.Name ∷ Tk t.CloseParenthesis ∷ []) ∷ []
ways w.Suite =
    way (Do a.Begin ∷ Nt w.Simple 0 ∷ Do a.Add ∷ Tk t.Newline ∷ Do a.MakeSuite ∷ [])
    ∷ way (Tk t.Newline ∷ Do a.Begin ∷ Tk t.Indent ∷ Nt w.Statement 0 ∷ Do a.Add ∷ Nt w.Statements 0 ∷ Tk t.Dedent ∷ Do a.MakeSuite ∷ []) ∷ []
ways w.Simple =
    way (Tk t.Pass ∷ Do a.MakePass ∷ [])
    ∷ way (Tk t.Break ∷ Do a.MakeBreak ∷ [])
    ∷ way (Tk t.Continue ∷ Do a.MakeContinue ∷ [])
    ∷ way (Tk t.Return ∷ Do a.Mark ∷ Nt w.ReturnTail 0 ∷ [])
    ∷ way (Tk t.Raise ∷ Do a.Mark ∷ Nt w.RaiseTail 0 ∷ [])
    ∷ way (Tk t.Global ∷ Do a.Mark ∷ Do a.BeginNames ∷ Tk t.Name ∷ Do a.AddName ∷ Nt w.NamesTail 0 ∷ Do a.MakeGlobal ∷ [])
    ∷ way (Tk t.Nonlocal ∷ Do a.Mark ∷ Do a.BeginNames ∷ Tk t.Name ∷ Do a.AddName ∷ Nt w.NamesTail 0 ∷ Do a.MakeNonlocal ∷ [])
    ∷ way (Tk t.Del ∷ Do a.Mark ∷ Nt w.Place 0 ∷ Do a.MakeDel ∷ [])
    ∷ way (Nt w.Exprs 0 ∷ Nt w.SimpleTail 0 ∷ []) ∷ []
ways w.SimpleTail =
    guarded g.Targets (Tk t.Assign ∷ Nt w.Exprs 0 ∷ Do a.MakeAssign ∷ [])
    ∷ guarded g.Place (Tk t.Augmented ∷ Do a.BinarySign ∷ Nt w.Exprs 0 ∷ Do a.MakeAugmented ∷ []) ∷ []
ways w.ReturnTail = way (Nt w.Exprs 0 ∷ Do a.MakeReturn ∷ []) ∷ []
ways w.RaiseTail = way (Tk t.Name ∷ Do a.Name ∷ Nt w.RaiseArguments 0 ∷ []) ∷ []
ways w.RaiseArguments = way (Tk t.OpenParenthesis ∷ Do a.Begin ∷ Nt w.Arguments 1 ∷ Tk t.CloseParenthesis ∷ Do a.MakeRaise ∷ []) ∷ []
ways w.NamesTail = way (Tk t.Comma ∷ Tk t.Name ∷ Do a.AddName ∷ Nt w.NamesTail 0 ∷ []) ∷ []
-- ---- targets of `for` and `del`
ways w.Targets = way (Nt w.Target 0 ∷ Nt w.TargetsTail 0 ∷ []) ∷ []
ways w.TargetsTail = way (Tk t.Comma ∷ Do a.BeginWith ∷ Nt w.TargetItems 0 ∷ Do a.MakeTuple ∷ []) ∷ []
ways w.TargetItems = way (Nt w.Target 0 ∷ Do a.Add ∷ Nt w.TargetItemsTail 0 ∷ []) ∷ []
ways w.TargetItemsTail = way (Tk t.Comma ∷ Nt w.TargetItems 0 ∷ []) ∷ []
ways w.Target = way (Tk t.Name ∷ Do a.MakeName ∷ Nt w.TargetTail 0 ∷ []) ∷ way (Nt w.Other 0 ∷ Nt w.PlaceTail 0 ∷ []) ∷ []
ways w.TargetTail =
    way (Tk t.Dot ∷ Tk t.Name ∷ Do a.MakeAttribute ∷ Nt w.TargetTail 0 ∷ [])
    ∷ way (Tk t.OpenBracket ∷ Nt w.Exprs 1 ∷ Tk t.CloseBracket ∷ Do a.MakeItem ∷ Nt w.TargetTail 0 ∷ [])
    ∷ way (Tk t.OpenParenthesis ∷ Do a.Begin ∷ Nt w.Arguments 1 ∷ Tk t.CloseParenthesis ∷ Do a.MakeCall ∷ Nt w.PlaceTail 0 ∷ []) ∷ []
ways w.Place = way (Nt w.Atom 0 ∷ Nt w.PlaceTail 0 ∷ []) ∷ []
ways w.PlaceTail =
    way (Tk t.Dot ∷ Tk t.Name ∷ Do a.MakeAttribute ∷ Nt w.TargetTail 0 ∷ [])
    ∷ way (Tk t.OpenBracket ∷ Nt w.Exprs 1 ∷ Tk t.CloseBracket ∷ Do a.MakeItem ∷ Nt w.TargetTail 0 ∷ [])
    ∷ way (Tk t.OpenParenthesis ∷ Do a.Begin ∷ Nt w.Arguments 1 ∷ Tk t.CloseParenthesis ∷ Do a.MakeCall ∷ Nt w.PlaceTail 0 ∷ []) ∷ []
-- ---- expressions
ways w.Exprs = way (Nt w.Expr 0 ∷ Nt w.ExprsTail 0 ∷ []) ∷ []
ways w.ExprsTail = way (Tk t.Comma ∷ Do a.BeginWith ∷ Nt w.Items 0 ∷ Do a.MakeTuple ∷ []) ∷ []
ways w.Items = way (Nt w.Expr 0 ∷ Do a.Add ∷ Nt w.ItemsTail 0 ∷ []) ∷ []
ways w.ItemsTail = way (Tk t.Comma ∷ Nt w.Items 0 ∷ []) ∷ []
ways w.Expr =
    way (Nt w.Either 0 ∷ Nt w.ExprTail 0 ∷ [])
    ∷ way (Tk t.Lambda ∷ Do a.Mark ∷ Do a.BeginNames ∷ Nt w.LambdaNames 0 ∷ Do a.BeginLambda ∷ Tk t.Colon ∷ Nt w.Expr 1 ∷ Do a.MakeLambda ∷ []) ∷ []
ways w.ExprTail = way (Tk t.If ∷ Nt w.Either 0 ∷ Tk t.Else ∷ Nt w.Expr 1 ∷ Do a.MakeConditional ∷ []) ∷ []
ways w.LambdaNames = guarded g.FewerParameters (Tk t.Name ∷ Do a.AddName ∷ Nt w.LambdaTail 0 ∷ []) ∷ []
ways w.LambdaTail = guarded g.FewerParameters (Tk t.Comma ∷ Tk t.Name ∷ Do a.AddName ∷ Nt w.LambdaTail 0 ∷ []) ∷ []
ways w.Either = way (Nt w.Both 0 ∷ Nt w.EitherTail 0 ∷ []) ∷ []
ways w.EitherTail = way (Tk t.Or ∷ Do a.BeginWith ∷ Nt w.Both 0 ∷ Do a.Add ∷ Nt w.EitherMore 0 ∷ Do a.MakeOr ∷ []) ∷ []
ways w.EitherMore = way (Tk t.Or ∷ Nt w.Both 0 ∷ Do a.Add ∷ Nt w.EitherMore 0 ∷ []) ∷ []
ways w.Both = way (Nt w.Inverse 0 ∷ Nt w.BothTail 0 ∷ []) ∷ []
ways w.BothTail = way (Tk t.And ∷ Do a.BeginWith ∷ Nt w.Inverse 0 ∷ Do a.Add ∷ Nt w.BothMore 0 ∷ Do a.MakeAnd ∷ []) ∷ []
ways w.BothMore = way (Tk t.And ∷ Nt w.Inverse 0 ∷ Do a.Add ∷ Nt w.BothMore 0 ∷ []) ∷ []
ways w.Inverse = way (Nt w.Compare 0 ∷ []) ∷ way (Tk t.Not ∷ Do a.Mark ∷ Nt w.Inverse 1 ∷ Do a.MakeNot ∷ []) ∷ []
ways w.Compare = way (Nt w.Bits 0 ∷ Nt w.CompareTail 0 ∷ []) ∷ []
ways w.CompareTail = way (Do a.BeginLinks ∷ Nt w.Link 0 ∷ Nt w.CompareMore 0 ∷ Do a.MakeCompare ∷ []) ∷ []
ways w.CompareMore = way (Nt w.Link 0 ∷ Nt w.CompareMore 0 ∷ []) ∷ []
ways w.Link =
    way (Tk t.Comparison ∷ Do a.ComparisonSign ∷ Nt w.Bits 0 ∷ Do a.AddLink ∷ [])
    ∷ way (Tk t.In ∷ Do a.ComparisonSign ∷ Nt w.Bits 0 ∷ Do a.AddLink ∷ [])
    ∷ way (Tk t.Not ∷ Do a.ComparisonSign ∷ Tk t.In ∷ Nt w.Bits 0 ∷ Do a.AddLink ∷ [])
    ∷ way (Tk t.Is ∷ Do a.ComparisonSign ∷ Nt w.IsRight 0 ∷ Do a.AddLink ∷ []) ∷ []
ways w.IsRight = way (Nt w.Bits 0 ∷ []) ∷ way (Tk t.Not ∷ Do a.Negate ∷ Nt w.Bits 0 ∷ []) ∷ []
-- ---- operators, the loosest first; they group from the left
ways w.Bits = way (Nt w.Differences 0 ∷ Nt w.BitsTail 0 ∷ []) ∷ []
ways w.BitsTail = way (Tk t.Bar ∷ Do a.BinarySign ∷ Nt w.Differences 0 ∷ Do a.MakeBinary ∷ Nt w.BitsTail 0 ∷ []) ∷ []
ways w.Differences = way (Nt w.Commons 0 ∷ Nt w.DifferencesTail 0 ∷ []) ∷ []
ways w.DifferencesTail = way (Tk t.Caret ∷ Do a.BinarySign ∷ Nt w.Commons 0 ∷ Do a.MakeBinary ∷ Nt w.DifferencesTail 0 ∷ []) ∷ []
ways w.Commons = way (Nt w.Shifts 0 ∷ Nt w.CommonsTail 0 ∷ []) ∷ []
ways w.CommonsTail = way (Tk t.Ampersand ∷ Do a.BinarySign ∷ Nt w.Shifts 0 ∷ Do a.MakeBinary ∷ Nt w.CommonsTail 0 ∷ []) ∷ []
ways w.Shifts = way (Nt w.Sums 0 ∷ Nt w.ShiftsTail 0 ∷ []) ∷ []
ways w.ShiftsTail = way (Tk t.Shift ∷ Do a.BinarySign ∷ Nt w.Sums 0 ∷ Do a.MakeBinary ∷ Nt w.ShiftsTail 0 ∷ []) ∷ []
ways w.Sums = way (Nt w.Products 0 ∷ Nt w.SumsTail 0 ∷ []) ∷ []
ways w.SumsTail =
    way (Tk t.Plus ∷ Do a.BinarySign ∷ Nt w.Products 0 ∷ Do a.MakeBinary ∷ Nt w.SumsTail 0 ∷ [])
    ∷ way (Tk t.Minus ∷ Do a.BinarySign ∷ Nt w.Products 0 ∷ Do a.MakeBinary ∷ Nt w.SumsTail 0 ∷ []) ∷ []
ways w.Products = way (Nt w.Unary 0 ∷ Nt w.ProductsTail 0 ∷ []) ∷ []
ways w.ProductsTail =
    way (Tk t.Star ∷ Do a.BinarySign ∷ Nt w.Unary 0 ∷ Do a.MakeBinary ∷ Nt w.ProductsTail 0 ∷ [])
    ∷ way (Tk t.Divide ∷ Do a.BinarySign ∷ Nt w.Unary 0 ∷ Do a.MakeBinary ∷ Nt w.ProductsTail 0 ∷ []) ∷ []
ways w.Unary =
    way (Nt w.Power 0 ∷ [])
    ∷ way (Tk t.Minus ∷ Do a.UnarySign ∷ Nt w.Unary 1 ∷ Do a.MakeUnary ∷ [])
    ∷ way (Tk t.Plus ∷ Do a.UnarySign ∷ Nt w.Unary 1 ∷ Do a.MakeUnary ∷ [])
    ∷ way (Tk t.Tilde ∷ Do a.UnarySign ∷ Nt w.Unary 1 ∷ Do a.MakeUnary ∷ []) ∷ []
ways w.Power = way (Nt w.Postfix 0 ∷ Nt w.PowerTail 0 ∷ []) ∷ []
ways w.PowerTail = way (Tk t.DoubleStar ∷ Do a.BinarySign ∷ Nt w.Unary 1 ∷ Do a.MakeBinary ∷ []) ∷ []
-- ---- atoms
ways w.Postfix = way (Nt w.Atom 0 ∷ Nt w.PostfixTail 0 ∷ []) ∷ []
ways w.PostfixTail =
    way (Tk t.Dot ∷ Tk t.Name ∷ Do a.MakeAttribute ∷ Nt w.PostfixTail 0 ∷ [])
    ∷ way (Tk t.OpenBracket ∷ Nt w.Exprs 1 ∷ Tk t.CloseBracket ∷ Do a.MakeItem ∷ Nt w.PostfixTail 0 ∷ [])
    ∷ way (Tk t.OpenParenthesis ∷ Do a.Begin ∷ Nt w.Arguments 1 ∷ Tk t.CloseParenthesis ∷ Do a.MakeCall ∷ Nt w.PostfixTail 0 ∷ []) ∷ []
ways w.Arguments = guarded g.FewerArguments (Nt w.Expr 0 ∷ Do a.Add ∷ Nt w.ArgumentsTail 0 ∷ []) ∷ []
ways w.ArgumentsTail = way (Tk t.Comma ∷ Nt w.Arguments 0 ∷ []) ∷ []
ways w.Atom = way (Tk t.Name ∷ Do a.MakeName ∷ []) ∷ way (Nt w.Other 0 ∷ []) ∷ []
ways w.Other =
    way (Tk t.None ∷ Do a.MakeNone ∷ [])
    ∷ way (Tk t.True ∷ Do a.MakeTrue ∷ [])
    ∷ way (Tk t.False ∷ Do a.MakeFalse ∷ [])
    ∷ way (Tk t.Ellipsis ∷ Do a.MakeEllipsis ∷ [])
    ∷ way (Tk t.Int ∷ Do a.MakeInt ∷ [])
    ∷ way (Tk t.Text ∷ Do a.MakeText ∷ [])
    ∷ way (Tk t.Bytes ∷ Do a.MakeBytes ∷ [])
    ∷ way (Tk t.OpenParenthesis ∷ Do a.Mark ∷ Nt w.Inside 1 ∷ Tk t.CloseParenthesis ∷ Do a.MakeWithin ∷ [])
    ∷ way (Tk t.OpenBracket ∷ Do a.Begin ∷ Nt w.Items 1 ∷ Tk t.CloseBracket ∷ Do a.MakeList ∷ [])
    ∷ way (Tk t.OpenBrace ∷ Do a.Begin ∷ Nt w.Pairs 1 ∷ Tk t.CloseBrace ∷ Do a.MakeDict ∷ []) ∷ []
ways w.Inside = way (Nt w.Exprs 0 ∷ []) ∷ []
ways w.Pairs = way (Nt w.Expr 0 ∷ Do a.Add ∷ Tk t.Colon ∷ Nt w.Expr 0 ∷ Do a.Add ∷ Nt w.PairsTail 0 ∷ []) ∷ []
ways w.PairsTail = way (Tk t.Comma ∷ Nt w.Pairs 0 ∷ []) ∷ []
ways w.LineEnd = way (Tk t.Newline ∷ []) ∷ []

-- what is built where a word is empty; the others are not
unfoldable pub empty : Word → Option Act
empty w.Statements = Some a.Nothing
empty w.IfTail = Some a.NoSuite
empty w.HandlersTail = Some a.Nothing
empty w.Caught = Some a.NoName
empty w.AsName = Some a.NoName
empty w.FinalTail = Some a.NoSuite
empty w.Parameters = Some a.Nothing
empty w.ParametersTail = Some a.Nothing
empty w.Base = Some a.NoName
empty w.SimpleTail = Some a.MakeExpression
empty w.ReturnTail = Some a.MakeReturnNone
empty w.RaiseTail = Some a.MakeReraise
empty w.RaiseArguments = Some a.MakeRaiseName
empty w.NamesTail = Some a.Nothing
empty w.TargetsTail = Some a.Nothing
empty w.TargetItems = Some a.Nothing
empty w.TargetItemsTail = Some a.Nothing
empty w.TargetTail = Some a.Nothing
empty w.ExprsTail = Some a.Nothing
empty w.Items = Some a.Nothing
empty w.ItemsTail = Some a.Nothing
empty w.ExprTail = Some a.Nothing
empty w.LambdaNames = Some a.Nothing
empty w.LambdaTail = Some a.Nothing
empty w.EitherTail = Some a.Nothing
empty w.EitherMore = Some a.Nothing
empty w.BothTail = Some a.Nothing
empty w.BothMore = Some a.Nothing
empty w.CompareTail = Some a.Nothing
empty w.CompareMore = Some a.Nothing
empty w.BitsTail = Some a.Nothing
empty w.DifferencesTail = Some a.Nothing
empty w.CommonsTail = Some a.Nothing
empty w.ShiftsTail = Some a.Nothing
empty w.SumsTail = Some a.Nothing
empty w.ProductsTail = Some a.Nothing
empty w.PowerTail = Some a.Nothing
empty w.PostfixTail = Some a.Nothing
empty w.Arguments = Some a.Nothing
empty w.ArgumentsTail = Some a.Nothing
empty w.Inside = Some a.MakeEmptyTuple
empty w.Pairs = Some a.Nothing
empty w.PairsTail = Some a.Nothing
empty w.LineEnd = Some a.Nothing
empty _ = None

-- what stands at the start of a text
abbrev pub opening : Start → List Symbol
opening starts.Script = Do a.Begin ∷ Nt w.Statements 0 ∷ Do a.MakeSuite ∷ []
opening starts.Expression = Nt w.Expr 0 ∷ Nt w.LineEnd 0 ∷ []
