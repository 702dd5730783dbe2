-- The methods of texts (Python Library Reference, "String Methods").
use Rattle.std.specs.Prelude.{ℕ, List, [], ◌∷◌, map, codes, Option, Some, None, option_map, chars, encode_utf8_all}
use Rattle.rp_base.specs.declared.exceptions.Beyond.TheVariants as beyond
use Rattle.rp_base.specs.declared.exceptions.ExcKind.TheVariants as kind
use Rattle.rp_base.specs.declared.plain.Plain.TheVariants as plain
use Rattle.rp_base.specs.declared.value.Value.{Value}
use Rattle.rp_base.specs.declared.value.Value.TheVariants as value
use Rattle.py_plain.specs.Arithmetic.{limited}
use Rattle.py_strs.specs.Joining.{joined}
use Rattle.object_operations.specs.declared.method.BuiltinMethod.{BuiltinMethod}
use Rattle.object_operations.specs.declared.method.BuiltinMethod.TheVariants as method
use Rattle.side_trees.specs.Trees.{Stop}
use Rattle.language_rules.specs.Answers.{answers, gives}
use Rattle.language_rules.specs.Displays.{new_list}
use Rattle.language_rules.specs.Draining.{drains}
use Rattle.language_rules.specs.Going.{RuleTree, boolean, text, fails, type_error}
use Rattle.language_rules.specs.TextFunctions.{begins_with, ends_in, find, pieces, words, stripped, replaced}

-- arguments of another number or kind
abbrev pub other_arguments : RuleTree
other_arguments = Stop beyond.Arguments

-- the text of these characters
abbrev pub text_of : List ℕ → Value
text_of cs = text (encode_utf8_all cs)

-- a text that is made, where it is within the limit
abbrev pub made_text : List ℕ → RuleTree
made_text cs = answers (limited (plain.Text (encode_utf8_all cs)))

-- a new list of the texts of these characters
abbrev pub list_of_texts : List (List ℕ) → RuleTree
list_of_texts pieces = new_list (map text_of pieces)

-- `split` at a separator
abbrev pub split_rule : List ℕ → List ℕ → RuleTree
split_rule cs [] = fails kind.ValueError (codes "empty separator")
split_rule cs (c ∷ sep) = list_of_texts (pieces (c ∷ sep) cs)

-- `replace`, whose first argument is not empty
abbrev pub replace_rule : List ℕ → List ℕ → List ℕ → RuleTree
replace_rule cs [] new = other_arguments
replace_rule cs (c ∷ old) new = made_text (replaced cs (c ∷ old) new)

-- the characters of these values, where all are texts
abbrev pub all_characters : List Value → Option (List (List ℕ))
all_characters [] = Some []
all_characters (value.Plain (plain.Text t) ∷ vs) = option_map (λ ts. chars t ∷ ts) (all_characters vs)
all_characters _ = None

-- the items of `join` in a row, with the text between two of them
abbrev pub join_rule : List ℕ → Option (List (List ℕ)) → RuleTree
join_rule cs None = type_error (codes "text expected")
join_rule cs (Some parts) = made_text (joined cs parts)

-- A method of a text with these characters. `join` first drains its argument.
abbrev pub characters_method : List ℕ → BuiltinMethod → List Value → RuleTree
characters_method cs method.EndsWith (value.Plain (plain.Text t) ∷ []) = gives (boolean (ends_in cs (chars t)))
characters_method cs method.Find (value.Plain (plain.Text t) ∷ []) = gives (value.Plain (plain.Int (find cs (chars t))))
characters_method cs method.Join (v ∷ []) = drains v (λ vs. join_rule cs (all_characters vs))
characters_method cs method.Replace (value.Plain (plain.Text t) ∷ value.Plain (plain.Text u) ∷ []) = replace_rule cs (chars t) (chars u)
characters_method cs method.Split [] = list_of_texts (words cs)
characters_method cs method.Split (value.Plain (plain.Text t) ∷ []) = split_rule cs (chars t)
characters_method cs method.StartsWith (value.Plain (plain.Text t) ∷ []) = gives (boolean (begins_with cs (chars t)))
characters_method cs method.Strip [] = gives (text_of (stripped cs))
characters_method cs m vs = other_arguments

-- the method of a text
abbrev pub text_method : List ℕ → BuiltinMethod → List Value → RuleTree
text_method t m vs = characters_method (chars t) m vs
