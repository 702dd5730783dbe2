-- Two terminals are the same where the test says so.
use Rattle.std.proofs.Common.{◌≡◌, ◌∙◌, sym, refl, ap, ap₂, eqb, true, eqb-true, eq-eqb}
use denote.Enum.Bare.{sameb, tag_one}
use denote.Enum.Declared.{tag_of}
use Rattle.py_grammar.specs.contracts.terminal.Terminal as code
use Rattle.py_grammar.specs.declared.terminal.Terminal.{Terminal}
use Rattle.py_grammar.specs.declared.terminal.Terminal.TheVariants as t
use Rattle.py_grammar.specs.Terminals.{number, same}

numbered : (k : Terminal) → tag_of code.the_type k ≡ number k
numbered t.Name = refl
numbered t.Int = refl
numbered t.Text = refl
numbered t.Bytes = refl
numbered t.Newline = refl
numbered t.Indent = refl
numbered t.Dedent = refl
numbered t.End = refl
numbered t.None = refl
numbered t.True = refl
numbered t.False = refl
numbered t.And = refl
numbered t.As = refl
numbered t.Break = refl
numbered t.Class = refl
numbered t.Continue = refl
numbered t.Def = refl
numbered t.Del = refl
numbered t.Elif = refl
numbered t.Else = refl
numbered t.Except = refl
numbered t.Finally = refl
numbered t.For = refl
numbered t.Global = refl
numbered t.If = refl
numbered t.In = refl
numbered t.Is = refl
numbered t.Lambda = refl
numbered t.Nonlocal = refl
numbered t.Not = refl
numbered t.Or = refl
numbered t.Pass = refl
numbered t.Raise = refl
numbered t.Return = refl
numbered t.Try = refl
numbered t.While = refl
numbered t.LeftOutWord = refl
numbered t.Assign = refl
numbered t.Augmented = refl
numbered t.Comparison = refl
numbered t.Bar = refl
numbered t.Caret = refl
numbered t.Ampersand = refl
numbered t.Shift = refl
numbered t.Plus = refl
numbered t.Minus = refl
numbered t.Star = refl
numbered t.Divide = refl
numbered t.Tilde = refl
numbered t.DoubleStar = refl
numbered t.Dot = refl
numbered t.Comma = refl
numbered t.Colon = refl
numbered t.Ellipsis = refl
numbered t.OpenParenthesis = refl
numbered t.CloseParenthesis = refl
numbered t.OpenBracket = refl
numbered t.CloseBracket = refl
numbered t.OpenBrace = refl
numbered t.CloseBrace = refl
numbered t.LeftOutSign = refl

pub same-is : (k l : Terminal) → same k l ≡ true → k ≡ l
same-is k l h = tag_one code.the_type tt k l (numbered k ∙ eqb-true (number k) (number l) h ∙ sym (numbered l))

pub is-same : (k l : Terminal) → k ≡ l → same k l ≡ true
is-same k l h = eq-eqb (number k) (number l) (ap number h)

-- the test of the code is the test of the definition
pub same-code : (k l : Terminal) → sameb code.the_type k l ≡ same k l
same-code k l = ap₂ eqb (numbered k) (numbered l)
