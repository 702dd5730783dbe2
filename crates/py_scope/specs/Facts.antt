-- What the mentions of a script say of a name in a function, of a name, and of a class.
use Rattle.std.specs.Prelude.{ℕ, Bool, true, not, ◌&&◌, List, Option, Some, None}
use Rattle.std.specs.List.{list_any}
use Rattle.std.specs.Str.{bytes_eq}
use Rattle.py_mentions.specs.declared.mention.Form.{Form}
use Rattle.py_mentions.specs.declared.mention.Mention.{Mention}
use Rattle.py_scope.specs.Words.{is_operator}
use Rattle.py_scope.specs.Forms.{binds, is_caught, is_global, is_class, is_base, is_method, is_number, is_below}

-- ---- a name in a function

abbrev pub in_function : (Form → Bool) → ℕ → List ℕ → Mention → Bool
in_function p f n m = (is_number f m.function && bytes_eq m.name n) && p m.form

-- the function f itself mentions the name in a form of this kind
unfoldable pub mentioned : (Form → Bool) → List Mention → ℕ → List ℕ → Bool
mentioned p ms f n = list_any (in_function p f n) ms

-- ---- a name

abbrev pub anywhere : (Form → Bool) → List ℕ → Mention → Bool
anywhere p n m = bytes_eq m.name n && p m.form

-- the script mentions the name in a form of this kind
unfoldable pub occurs : (Form → Bool) → List Mention → List ℕ → Bool
occurs p ms n = list_any (anywhere p n) ms

-- it comes after `as`
abbrev pub is_handled : List Mention → List ℕ → Bool
is_handled = occurs is_caught

abbrev pub is_earlier : ℕ → List ℕ → Mention → Bool
is_earlier k n m = (bytes_eq m.name n && is_class m.form) && is_below k m.class

-- a class statement before the one of number k has the name
unfoldable pub earlier_class : List Mention → ℕ → List ℕ → Bool
earlier_class ms k n = list_any (is_earlier k n) ms

-- a name that is bound there is one of the script's own: at the top, or where a `global` says so
abbrev pub in_script : List Mention → Option ℕ → List ℕ → Bool
in_script ms None n = true
in_script ms (Some f) n = mentioned is_global ms f n

abbrev pub rebinds : List Mention → List ℕ → Mention → Bool
rebinds ms n m = bytes_eq m.name n && ((binds m.form && not (is_class m.form)) && in_script ms m.function n)

-- the name is bound as the script's own otherwise than by a class statement
unfoldable pub is_rebound : List Mention → List Mention → List ℕ → Bool
is_rebound ms some n = list_any (rebinds ms n) some

-- ---- a class

abbrev pub in_class : (Form → Bool) → ℕ → Mention → Bool
in_class p k m = is_number k m.class && p m.form

unfoldable pub has_base : List Mention → ℕ → Bool
has_base ms k = list_any (in_class is_base k) ms

abbrev pub is_operator_of : ℕ → Mention → Bool
is_operator_of k m = is_number k m.class && (is_method m.form && is_operator m.name)

-- the class defines a method for comparisons or for arithmetic
unfoldable pub has_operator : List Mention → ℕ → Bool
has_operator ms k = list_any (is_operator_of k) ms
