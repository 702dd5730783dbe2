-- What a function on values answers that no object has to be asked for.
use Rattle.std.specs.Prelude.{◌≡◌, Bool, true, false, Option, Some, None, Result, Ok, Err}
use Rattle.std.specs.Bool.{⊤}
use Rattle.rp_base.specs.declared.ends.OpEnd.{OpEnd}
use Rattle.rp_base.specs.declared.ends.OpEnd.TheVariants as op_end
use Rattle.rp_base.specs.declared.plain.Plain.{Plain}
use Rattle.py_plain.specs.declared.ends.PlainEnd.{PlainEnd}
use Rattle.py_plain.specs.declared.ends.PlainEnd.TheVariants as plain_end
use Rattle.rp_base.specs.declared.value.Value.TheVariants as value
use Rattle.rp_base.specs.declared.value.Value.{Value}
use Rattle.language_rules.specs.Codes.{Raises, Step, Ends, Leaves}
use Rattle.language_rules.specs.AtOnce.{ComputesUnlessAsked}
use Rattle.language_rules.specs.Going.{RuleTree, boolean}
use Rattle.language_rules.specs.Truth.{tells}

-- whether a value is a plain one
abbrev pub is_plain : Value → Bool
is_plain (value.Plain p) = true
is_plain _ = false

-- there is no answer only where there may be an object to ask
abbrev pub AsksOnly : {A : Type 0} → Bool → Result (Option A) OpEnd → Type 0
AsksOnly may_ask (Ok None) = may_ask ≡ true
AsksOnly may_ask _ = ⊤

-- The step is nothing but this end: a bool, an exception, or a way out of the subset. Without an answer an object has to be asked first. Want of memory tells nothing.
abbrev pub TellsUnlessAsked : Step → Result (Option Bool) OpEnd → Type 0
TellsUnlessAsked t (Ok (Some b)) = t ≡ tells b
TellsUnlessAsked t (Ok None) = ⊤
TellsUnlessAsked t (Err (op_end.Raise r)) = t ≡ Ends (Raises r)
TellsUnlessAsked t (Err (op_end.Beyond b)) = t ≡ Leaves b
TellsUnlessAsked t (Err op_end.NoMemory) = ⊤

-- the end that an operation on plain values comes to
abbrev pub end_given : PlainEnd → OpEnd
end_given (plain_end.Raise r) = op_end.Raise r
end_given (plain_end.Beyond b) = op_end.Beyond b
end_given plain_end.NoMemory = op_end.NoMemory

-- the answer of an operation on plain values
abbrev pub answer_given : Result Plain PlainEnd → Result (Option Value) OpEnd
answer_given (Ok p) = Ok (Some (value.Plain p))
answer_given (Err e) = Err (end_given e)

-- a bool as a value
abbrev pub bool_given : Result (Option Bool) OpEnd → Result (Option Value) OpEnd
bool_given (Ok (Some b)) = Ok (Some (boolean b))
bool_given (Ok None) = Ok None
bool_given (Err e) = Err e

-- The computation is nothing but this end: a bool, an exception, or a way out of the subset. Without an answer an object has to be asked first. Want of memory tells nothing.
abbrev pub TestsUnlessAsked : RuleTree → Result (Option Bool) OpEnd → Type 0
TestsUnlessAsked t answer = ComputesUnlessAsked t (bool_given answer)
