-- What is told of an exception by the name that its handler gives it.
use Rattle.std.specs.Prelude.{◌≡◌, ◌+◌, ℕ, nat_lt, true, false, List, [], ◌∷◌, ◌++◌, codes, length, map, Result, Ok, Err}
use Rattle.std.specs.Bool.{⊤}
use Rattle.rp_base.specs.declared.exceptions.Beyond.TheVariants as beyond
use Rattle.rp_base.specs.Names.{exception_name}
use Rattle.rp_base.specs.declared.exceptions.ExcKind.{ExcKind}
use Rattle.rp_base.specs.declared.exceptions.Raised.{Raised}
use Rattle.rp_base.specs.declared.plain.Plain.{Plain}
use Rattle.rp_base.specs.declared.plain.Plain.TheVariants as plain
use Rattle.rp_base.specs.declared.value.Value.TheVariants as value
use Rattle.rp_base.specs.Values.{heaviest_value, tuple_of}
use Rattle.py_plain.specs.Arithmetic.{limited}
use Rattle.py_plain.specs.declared.ends.PlainEnd.{PlainEnd}
use Rattle.py_plain.specs.declared.ends.PlainEnd.TheVariants as end
use Rattle.py_plain.specs.Printing.{repr_of}
use Rattle.eval_frames.specs.declared.handler_frame.HandlerReading.{HandlerReading}
use Rattle.eval_frames.specs.declared.handler_frame.HandlerReading.TheVariants as reading
use Rattle.language_rules.specs.Answers.{answers, tuple_answers}
use Rattle.language_rules.specs.Exceptions.{exception_repr, exception_str}
use Rattle.language_rules.specs.Going.{RuleTree}

abbrev pub tells : HandlerReading → Raised → RuleTree
tells reading.Str r = answers (limited (plain.Text (exception_str r.kind r.args)))
tells reading.Repr r = answers (limited (plain.Text (exception_repr r.kind r.args)))
tells reading.Args r = tuple_answers (tuple_of (map value.Plain r.args))

-- the repr of an exception by the number of its arguments: no comma follows a single one, and others are printed as their tuple is
abbrev pub printed_repr : ExcKind → List Plain → List ℕ
printed_repr k (p ∷ []) = ((exception_name k ++ codes "(") ++ repr_of p) ++ codes ")"
printed_repr k ps = exception_name k ++ repr_of (plain.Tuple ps)

-- This text, where a value may be so heavy; else the size that it passes. Want of memory tells nothing.
abbrev pub TextComes : List ℕ → Result (List ℕ) PlainEnd → Type 0
TextComes t (Ok made) = (made ≡ t) × (nat_lt heaviest_value (1 + length t) ≡ false)
TextComes t (Err (end.Raise r)) = ⊥
TextComes t (Err (end.Beyond b)) = (b ≡ beyond.Size) × (nat_lt heaviest_value (1 + length t) ≡ true)
TextComes t (Err end.NoMemory) = ⊤
