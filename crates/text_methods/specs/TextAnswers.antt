-- What a method of a text answers.
use Rattle.std.specs.Prelude.{◌≡◌, ◌<◌, ◌≤◌, ℕ, Bool, true, false, List, [], ◌∷◌, Result, Ok, Err, String}
use Rattle.std.specs.Bool.{⊤}
use Rattle.rp_base.specs.declared.ends.OpEnd.{OpEnd}
use Rattle.rp_base.specs.declared.ends.OpEnd.TheVariants as op_end
use Rattle.rp_base.specs.declared.value.Value.{Value}
use Rattle.rp_base.specs.Values.{heaviest_value}
use Rattle.object_operations.specs.declared.method.BuiltinMethod.{BuiltinMethod}
use Rattle.object_operations.specs.declared.method.BuiltinMethod.TheVariants as method
use Rattle.py_store.specs.declared.cell.Cell.TheVariants as cell
use Rattle.py_strs.specs.declared.ends.StrEnd.{StrEnd}
use Rattle.py_strs.specs.declared.ends.StrEnd.TheVariants as str_end
use Rattle.py_strs.specs.Joining.{characters, text_weight}
use Rattle.side_trees.specs.Trees.{Return, Stop}
use Rattle.language_rules.specs.Codes.{Gives, Raises}
use Rattle.language_rules.specs.Going.{RuleTree, gives_new}
use Rattle.text_methods.specs.declared.answers.TextAnswer.{TextAnswer}
use Rattle.text_methods.specs.declared.answers.TextAnswer.TheVariants as text_answer

-- The computation is nothing but a value, a new list of these items, an exception, or a way out of the subset. Of an argument that has to be gone over first nothing is told here; want of memory tells nothing.
abbrev pub Answers : RuleTree → Result TextAnswer OpEnd → Type 0
Answers t (Ok (text_answer.Value v)) = t ≡ Return (Gives v)
Answers t (Ok (text_answer.List vs)) = t ≡ gives_new (cell.List vs)
Answers t (Ok text_answer.Drain) = ⊤
Answers t (Err (op_end.Raise r)) = t ≡ Return (Raises r)
Answers t (Err (op_end.Beyond b)) = t ≡ Stop b
Answers t (Err op_end.NoMemory) = ⊤

-- whether the answer is that an argument has to be gone over
abbrev pub is_drain : Result TextAnswer OpEnd → Bool
is_drain (Ok text_answer.Drain) = true
is_drain _ = false

-- whether the method is `join` with one argument
abbrev pub joins_one : BuiltinMethod → List Value → Bool
joins_one method.Join (v ∷ []) = true
joins_one m vs = false

-- The computation is nothing but a new list of these items, or another end.
abbrev pub Lists : RuleTree → Result (List Value) OpEnd → Type 0
Lists t (Ok vs) = t ≡ gives_new (cell.List vs)
Lists t (Err (op_end.Raise r)) = t ≡ Return (Raises r)
Lists t (Err (op_end.Beyond b)) = t ≡ Stop b
Lists t (Err op_end.NoMemory) = ⊤

-- why a text of these characters is not made: it would weigh more than a value may, or there is no memory
abbrev pub NotMade : List ℕ → StrEnd → Type 0
NotMade cs str_end.Size = heaviest_value < text_weight cs
NotMade cs str_end.EmptySep = ⊥
NotMade cs str_end.NoMemory = ⊤

-- A text of these characters is made, or is not.
abbrev pub Makes : {A : Type 0} → List ℕ → Result (String A) StrEnd → Type 0
Makes cs (Ok t) = (characters t ≡ cs) × (text_weight cs ≤ heaviest_value)
Makes cs (Err e) = NotMade cs e
