-- The answers of operations on plain values: a value, an exception, or an end beyond the subset.
use Rattle.std.specs.Prelude.{◌≡◌, ℕ, ℤ, List, [], ◌∷◌, codes, Result, Ok, Err}
use Rattle.std.specs.Bool.{⊤}
use Rattle.rp_base.specs.declared.exceptions.Beyond.TheVariants as beyond
use Rattle.rp_base.specs.declared.exceptions.ExcKind.{ExcKind}
use Rattle.rp_base.specs.declared.exceptions.ExcKind.TheVariants as kind
use Rattle.rp_base.specs.declared.plain.Plain.{Plain}
use Rattle.rp_base.specs.declared.plain.Plain.TheVariants as plain
use Rattle.py_ints.specs.declared.arithmetic.IntEnd.{IntEnd}
use Rattle.py_ints.specs.declared.arithmetic.IntEnd.TheVariants as int_end
use Rattle.py_plain.specs.declared.ends.PlainEnd.{PlainEnd}
use Rattle.py_plain.specs.declared.ends.PlainEnd.TheVariants as end

-- the exception of this kind with one argument, a text
abbrev pub raised : ExcKind → List ℕ → PlainEnd
raised k text = end.Raise (record { kind = k; args = plain.Text text ∷ [] })

-- no operator takes these operands; no order stands between these values
abbrev pub unsupported : PlainEnd
unsupported = raised kind.TypeError (codes "unsupported operand")

abbrev pub no_order : PlainEnd
no_order = raised kind.TypeError (codes "no order")

-- how an operation on ints ends that gives no int
abbrev pub end_of_ints : IntEnd → PlainEnd
end_of_ints int_end.BeyondInt = end.Beyond beyond.Int
end_of_ints int_end.BeyondFloat = end.Beyond beyond.Float
end_of_ints int_end.DivZero = raised kind.ZeroDivisionError (codes "division by zero")
end_of_ints int_end.NegShift = raised kind.ValueError (codes "negative shift count")

abbrev pub int_answer : Result ℤ IntEnd → Result Plain PlainEnd
int_answer (Ok n) = Ok (plain.Int n)
int_answer (Err e) = Err (end_of_ints e)

-- the end that is wanted; an exception takes memory, which may run out
abbrev pub IsRaise : PlainEnd → Type 0
IsRaise (end.Raise r) = ⊤
IsRaise _ = ⊥

abbrev pub EndsAs : PlainEnd → PlainEnd → Type 0
EndsAs wanted end.NoMemory = IsRaise wanted
EndsAs wanted e = e ≡ wanted

-- the answer that is wanted, where only an exception takes memory
abbrev pub Answers : {A : Type 0} → Result A PlainEnd → Result A PlainEnd → Type 0
Answers (Ok x) answer = answer ≡ Ok x
Answers (Err wanted) (Ok x) = ⊥
Answers (Err wanted) (Err e) = EndsAs wanted e

-- the answer that is wanted, where memory may run out
abbrev pub OrNoMemory : {A : Type 0} → Result A PlainEnd → Result A PlainEnd → Type 0
OrNoMemory wanted (Err end.NoMemory) = ⊤
OrNoMemory wanted answer = answer ≡ wanted
