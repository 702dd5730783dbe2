-- Names that the language has of its own, and names of Python that are left out.
use Rattle.std.specs.Prelude.{ℕ, Bool, false, not, ◌&&◌, ◌||◌, ◌==◌, nat_lt, List, [], ◌∷◌, codes, if◌then◌else◌}
use Rattle.std.specs.Int.{is_in_range}
use Rattle.std.specs.List.{starts_with, ends_with}
use Rattle.std.specs.Option.{is_some}
use Rattle.std.specs.Str.{bytes_eq}
use Rattle.py_ast.specs.Builtins.{builtin_of}
use Rattle.py_mentions.specs.Rules.{names_exception}

abbrev pub is_one_of : List (List ℕ) → List ℕ → Bool
is_one_of [] t = false
is_one_of (word ∷ words) t = bytes_eq t word || is_one_of words t

-- ---- names that may not be bound

unfoldable pub is_builtin : List ℕ → Bool
is_builtin t = is_some (builtin_of t)

-- the name of a builtin function or of an exception class, or NotImplemented
unfoldable pub is_reserved : List ℕ → Bool
is_reserved t = is_builtin t || names_exception t || bytes_eq t (codes "NotImplemented")

-- ---- names that may not occur

abbrev pub left_out : List (List ℕ)
left_out =
    codes "aiter" ∷ codes "all" ∷ codes "anext" ∷ codes "any" ∷ codes "ascii" ∷ codes "bin" ∷ codes "breakpoint" ∷ codes "bytearray" ∷ codes "bytes" ∷ codes "callable" ∷ codes "classmethod" ∷ codes "compile" ∷ codes "complex" ∷ codes "copyright" ∷ codes "credits" ∷ codes "delattr" ∷ codes "dir" ∷ codes "divmod"
    ∷ codes "enumerate" ∷ codes "eval" ∷ codes "exec" ∷ codes "exit" ∷ codes "filter" ∷ codes "float" ∷ codes "format" ∷ codes "frozenset" ∷ codes "getattr" ∷ codes "globals" ∷ codes "hasattr" ∷ codes "hash" ∷ codes "help" ∷ codes "hex" ∷ codes "id" ∷ codes "input" ∷ codes "isinstance" ∷ codes "issubclass"
    ∷ codes "iter" ∷ codes "license" ∷ codes "locals" ∷ codes "map" ∷ codes "memoryview" ∷ codes "next" ∷ codes "object" ∷ codes "oct" ∷ codes "open" ∷ codes "pow" ∷ codes "property" ∷ codes "quit" ∷ codes "reversed" ∷ codes "round" ∷ codes "set" ∷ codes "setattr" ∷ codes "slice" ∷ codes "staticmethod"
    ∷ codes "super" ∷ codes "type" ∷ codes "vars" ∷ codes "zip" ∷ codes "Ellipsis" ∷ []

abbrev pub endings : List (List ℕ)
endings = codes "Error" ∷ codes "Warning" ∷ codes "Exit" ∷ codes "Interrupt" ∷ codes "Exception" ∷ codes "Group" ∷ codes "Iteration" ∷ []

abbrev pub has_ending : List (List ℕ) → List ℕ → Bool
has_ending [] t = false
has_ending (word ∷ words) t = ends_with (λ a b. a == b) t word || has_ending words t

abbrev pub begins_with_capital : List ℕ → Bool
begins_with_capital [] = false
begins_with_capital (c ∷ cs) = is_in_range 65 90 c

-- spelled as the name of an exception class, which no class of the language has
unfoldable pub is_other_exception : List ℕ → Bool
is_other_exception t = begins_with_capital t && has_ending endings t && not (names_exception t)

unfoldable pub is_listed : List ℕ → Bool
is_listed t = is_one_of left_out t

-- a name of Python that is left out
abbrev pub is_left_out : List ℕ → Bool
is_left_out t = is_listed t || is_other_exception t

-- ---- special names

abbrev pub is_private : List ℕ → Bool
is_private t = starts_with (λ a b. a == b) t (codes "__")

-- methods for comparisons and for arithmetic
abbrev pub operators : List (List ℕ)
operators = codes "__eq__" ∷ codes "__lt__" ∷ codes "__le__" ∷ codes "__gt__" ∷ codes "__ge__" ∷ codes "__add__" ∷ codes "__sub__" ∷ codes "__mul__" ∷ codes "__floordiv__" ∷ codes "__mod__" ∷ []

abbrev pub of_receiver : List (List ℕ)
of_receiver = codes "__str__" ∷ codes "__repr__" ∷ codes "__len__" ∷ codes "__bool__" ∷ codes "__neg__" ∷ codes "__iter__" ∷ codes "__next__" ∷ []

abbrev pub of_key : List (List ℕ)
of_key = codes "__getitem__" ∷ codes "__delitem__" ∷ codes "__contains__" ∷ []

unfoldable pub is_operator : List ℕ → Bool
is_operator t = is_one_of operators t

unfoldable pub takes_key : List ℕ → Bool
takes_key t = is_operator t || is_one_of of_key t

-- the special methods, with how many parameters each has, the receiver among them
unfoldable pub is_special : List ℕ → ℕ → Bool
is_special t count =
    if bytes_eq t (codes "__init__") then nat_lt 0 count
    else if bytes_eq t (codes "__setitem__") then count == 3
    else if takes_key t then count == 2
    else (count == 1) && is_one_of of_receiver t
