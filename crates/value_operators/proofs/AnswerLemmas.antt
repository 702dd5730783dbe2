-- Answers of operations on plain values, as the rules have them.
use Rattle.std.proofs.Common.{◌≡◌, Result, Ok, Err, refl, sym, ap, subst}
use Rattle.rp_base.specs.declared.plain.Plain.{Plain}
use Rattle.rp_base.specs.declared.ends.OpEnd.{OpEnd}
use Rattle.py_plain.specs.Answers.{Answers, OrNoMemory}
use Rattle.py_plain.specs.declared.ends.PlainEnd.{PlainEnd}
use Rattle.py_plain.specs.declared.ends.PlainEnd.TheVariants as plain_end
use Rattle.language_rules.specs.Answers.{answers}
use Rattle.language_rules.specs.AtOnce.{ComputesUnlessAsked}
use Rattle.value_operators.specs.Answering.{answer_given, end_given}

-- where memory may run out
pub computed : (wanted answer : Result Plain PlainEnd) → OrNoMemory wanted answer → ComputesUnlessAsked (answers wanted) (answer_given answer)
computed wanted (Ok p) h = subst (λ (w : Result Plain PlainEnd). ComputesUnlessAsked (answers w) (answer_given (Ok p))) h refl
computed wanted (Err (plain_end.Raise r)) h = subst (λ (w : Result Plain PlainEnd). ComputesUnlessAsked (answers w) (answer_given (Err (plain_end.Raise r)))) h refl
computed wanted (Err (plain_end.Beyond b)) h = subst (λ (w : Result Plain PlainEnd). ComputesUnlessAsked (answers w) (answer_given (Err (plain_end.Beyond b)))) h refl
computed wanted (Err plain_end.NoMemory) h = tt

-- where only an exception takes memory
pub or_no_memory : {A : Type 0} (wanted answer : Result A PlainEnd) → Answers wanted answer → OrNoMemory wanted answer
or_no_memory (Ok x) (Ok y) h = h
or_no_memory (Ok x) (Err plain_end.NoMemory) h = tt
or_no_memory (Ok x) (Err (plain_end.Raise r)) h = h
or_no_memory (Ok x) (Err (plain_end.Beyond b)) h = h
or_no_memory (Err wanted) (Ok x) h = absurd h
or_no_memory (Err wanted) (Err plain_end.NoMemory) h = tt
or_no_memory (Err wanted) (Err (plain_end.Raise r)) h = ap Err h
or_no_memory (Err wanted) (Err (plain_end.Beyond b)) h = ap Err h

-- an end that is handed on
pub ended : (wanted answer : Result Plain PlainEnd) (e : PlainEnd) (r : OpEnd) → answer ≡ Err e → r ≡ end_given e → OrNoMemory wanted answer → ComputesUnlessAsked (answers wanted) (Err r)
ended wanted answer e r h k o = subst (λ (x : OpEnd). ComputesUnlessAsked (answers wanted) (Err x)) (sym k) (computed wanted (Err e) (subst (λ (x : Result Plain PlainEnd). OrNoMemory wanted x) h o))
