-- Worked examples of functions and methods of texts, computed by the checker.
use Rattle.std.specs.Prelude.{◌≡◌, [], ◌∷◌, codes, pos, negsuc, Some, None, true}
use Rattle.std.proofs.Common.{refl}
use Rattle.rp_base.specs.declared.exceptions.Beyond.TheVariants as beyond
use Rattle.rp_base.specs.declared.exceptions.ExcKind.TheVariants as kind
use Rattle.rp_base.specs.declared.plain.Plain.TheVariants as plain
use Rattle.rp_base.specs.declared.value.Value.TheVariants as value
use Rattle.py_store.specs.declared.cell.Cell.TheVariants as cell
use Rattle.object_operations.specs.declared.method.BuiltinMethod.TheVariants as method
use Rattle.py_plain.specs.Computing.{plain_computing}
use Rattle.side_trees.specs.Trees.{Return, Stop}
use Rattle.language_rules.specs.Codes.{Gives}
use Rattle.language_rules.specs.Going.{text, boolean, gives_new, fails, type_error}
use Rattle.language_rules.specs.TextFunctions.{find, pieces, words, stripped, replaced, place_among}
use Rattle.language_rules.specs.TextMethods.{text_method}

-- "abab".find("ba"), "abab".find(""), "ab".find("abc")
pub found : find (codes "abab") (codes "ba") ≡ pos 1
found = refl

pub empty_found : find (codes "abab") [] ≡ pos 0
empty_found = refl

pub not_found : find (codes "ab") (codes "abc") ≡ negsuc 0
not_found = refl

-- "a,b,".split(","), "".split(","), "aaaa a".split("aa")
pub split_at_commas : pieces (codes ",") (codes "a,b,") ≡ codes "a" ∷ codes "b" ∷ [] ∷ []
split_at_commas = refl

pub split_of_nothing : pieces (codes ",") [] ≡ [] ∷ []
split_of_nothing = refl

pub split_from_the_left : pieces (codes "aa") (codes "aaaaa b") ≡ [] ∷ [] ∷ codes "a b" ∷ []
split_from_the_left = refl

-- " a  bc ".split(), "  ".split()
pub words_of_a_text : words (codes " a  bc ") ≡ codes "a" ∷ codes "bc" ∷ []
words_of_a_text = refl

pub no_words : words (codes "  ") ≡ []
no_words = refl

-- "\t a b ".strip(), "  ".strip()
pub strip_both : stripped (9 ∷ codes " a b ") ≡ codes "a b"
strip_both = refl

pub strip_all : stripped (codes "  ") ≡ []
strip_all = refl

-- "aaa".replace("aa", "b")
pub replace_from_the_left : replaced (codes "aaa") (codes "aa") (codes "b") ≡ codes "ba"
replace_from_the_left = refl

-- of three items, -1 is the last, and there is no -4
pub last_place : place_among 3 (negsuc 0) ≡ Some 2
last_place = refl

pub no_place : place_among 3 (negsuc 3) ≡ None
no_place = refl

-- "aéb".find("b") counts characters
pub find_counts_characters : text_method (97 ∷ 195 ∷ 169 ∷ 98 ∷ []) method.Find (text (codes "b") ∷ []) ≡ Return (Gives (value.Plain (plain.Int (pos 2))))
unfolding plain_computing
find_counts_characters = refl

-- "é é".split("é") gives a new list
pub split_makes_a_list : text_method (195 ∷ 169 ∷ 32 ∷ 195 ∷ 169 ∷ []) method.Split (text (195 ∷ 169 ∷ []) ∷ []) ≡ gives_new (cell.List (text [] ∷ text (codes " ") ∷ text [] ∷ []))
unfolding plain_computing
split_makes_a_list = refl

pub empty_separator : text_method (codes "a") method.Split (text [] ∷ []) ≡ fails kind.ValueError (codes "empty separator")
unfolding plain_computing
empty_separator = refl

-- "-".join("abc"), and of a tuple with an int
pub join_characters : text_method (codes "-") method.Join (text (codes "abc") ∷ []) ≡ Return (Gives (text (codes "a-b-c")))
unfolding plain_computing
join_characters = refl

pub join_an_int : text_method (codes "-") method.Join (value.Plain (plain.Tuple (plain.Text (codes "a") ∷ plain.Int (pos 1) ∷ [])) ∷ []) ≡ type_error (codes "text expected")
unfolding plain_computing
join_an_int = refl

-- "a".replace("", "b"), "a".startswith(1), "a".strip("a")
pub replace_nothing : text_method (codes "a") method.Replace (text [] ∷ text (codes "b") ∷ []) ≡ Stop beyond.Arguments
unfolding plain_computing
replace_nothing = refl

pub begin_with_an_int : text_method (codes "a") method.StartsWith (value.Plain (plain.Int (pos 1)) ∷ []) ≡ Stop beyond.Arguments
unfolding plain_computing
begin_with_an_int = refl

pub strip_something : text_method (codes "a") method.Strip (text (codes "a") ∷ []) ≡ Stop beyond.Arguments
unfolding plain_computing
strip_something = refl

pub ends_in_it : text_method (codes "ab") method.EndsWith (text (codes "b") ∷ []) ≡ Return (Gives (boolean true))
unfolding plain_computing
ends_in_it = refl
