-- The terminals by number, and the test whether two are the same.
use Rattle.std.specs.Prelude.{ℕ, Bool, ◌==◌}
use Rattle.py_grammar.specs.declared.terminal.Terminal.{Terminal}
use Rattle.py_grammar.specs.declared.terminal.Terminal.TheVariants as t

abbrev pub number : Terminal → ℕ
number t.Name = 0
number t.Int = 1
number t.Text = 2
number t.Bytes = 3
number t.Newline = 4
number t.Indent = 5
number t.Dedent = 6
number t.End = 7
number t.None = 8
number t.True = 9
number t.False = 10
number t.And = 11
number t.As = 12
number t.Break = 13
number t.Class = 14
number t.Continue = 15
number t.Def = 16
number t.Del = 17
number t.Elif = 18
number t.Else = 19
number t.Except = 20
number t.Finally = 21
number t.For = 22
number t.Global = 23
number t.If = 24
number t.In = 25
number t.Is = 26
number t.Lambda = 27
number t.Nonlocal = 28
number t.Not = 29
number t.Or = 30
number t.Pass = 31
number t.Raise = 32
number t.Return = 33
number t.Try = 34
number t.While = 35
number t.LeftOutWord = 36
number t.Assign = 37
number t.Augmented = 38
number t.Comparison = 39
number t.Bar = 40
number t.Caret = 41
number t.Ampersand = 42
number t.Shift = 43
number t.Plus = 44
number t.Minus = 45
number t.Star = 46
number t.Divide = 47
number t.Tilde = 48
number t.DoubleStar = 49
number t.Dot = 50
number t.Comma = 51
number t.Colon = 52
number t.Ellipsis = 53
number t.OpenParenthesis = 54
number t.CloseParenthesis = 55
number t.OpenBracket = 56
number t.CloseBracket = 57
number t.OpenBrace = 58
number t.CloseBrace = 59
number t.LeftOutSign = 60

abbrev pub same : Terminal → Terminal → Bool
same k l = number k == number l
