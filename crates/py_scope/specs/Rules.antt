-- The rules on names, and the lines at which mentions break them.
use Rattle.std.specs.Prelude.{ℕ, Bool, true, false, ◌&&◌, ◌||◌, not, List, [], ◌∷◌, ◌++◌, Option, Some, None}
use Rattle.rp_base.specs.declared.rules.Rule.{Rule}
use Rattle.rp_base.specs.declared.rules.Rule.TheVariants as rule
use Rattle.rp_base.specs.declared.rules.Refused.{Refused}
use Rattle.py_ast.specs.declared.program.FunctionInfo.{FunctionInfo}
use Rattle.py_mentions.specs.declared.mention.Form.{Form}
use Rattle.py_mentions.specs.declared.mention.Form.TheVariants as form
use Rattle.py_mentions.specs.Rules.{names_exception}
use Rattle.py_mentions.specs.declared.mention.Mention.{Mention}
use Rattle.py_scope.specs.Words.{is_reserved, is_left_out, is_private, is_special}
use Rattle.py_scope.specs.Forms.{is_parameter, is_caught, names_anew, is_global, is_nonlocal, uses, is_class, is_base, is_attribute, is_raised}
use Rattle.py_scope.specs.Facts.{mentioned, occurs, is_handled, earlier_class, is_rebound, has_base, has_operator}
use Rattle.py_scope.specs.Scopes.{parent_of, around, is_kept}

-- S1: a name of the language is given another meaning, or a name that is left out occurs, other than behind a dot
unfoldable pub misnames : Mention → Bool
misnames m = (names_anew m.form && is_reserved m.name) || (not (is_attribute m.form) && is_left_out m.name)

-- S2: what is raised is neither an exception class nor a handler's name
unfoldable pub raises_other : List Mention → Mention → Bool
raises_other ms m = is_raised m.form && (not (names_exception m.name) && not (is_handled ms m.name))

abbrev pub is_special_method : Form → List ℕ → Bool
is_special_method (form.Method count) t = is_special t count
is_special_method _ t = false

-- S4: a name begins with two underscores, and is not that of a special method with its number of parameters
unfoldable pub is_too_private : Mention → Bool
is_too_private m = is_private m.name && not (is_special_method m.form m.name)

-- S6: a handler's name occurs elsewhere than after `as` and where its handler uses it
unfoldable pub leaks : List Mention → Mention → Bool
leaks ms m = is_handled ms m.name && (not (is_caught m.form) && not m.is_guarded)

abbrev pub is_base_before : List Mention → Option ℕ → List ℕ → Bool
is_base_before ms None n = false
is_base_before ms (Some k) n = earlier_class ms k n

abbrev pub derives_operators : List Mention → Option ℕ → List ℕ → Bool
derives_operators ms None n = false
derives_operators ms (Some k) n = has_operator ms k && (has_base ms k || occurs is_base ms n)

-- S8: a base is no earlier class or is bound otherwise, or a class with a method for comparisons or arithmetic has a base
-- or is named as one
unfoldable pub misderives : List Mention → Mention → Bool
misderives ms m =
    (is_base m.form && (not (is_base_before ms m.class m.name) || is_rebound ms ms m.name))
    || (is_class m.form && derives_operators ms m.class m.name)

-- at the top of the script; of a parameter, behind a use, of both kinds, or with no function around that has the name
abbrev pub is_bad_declaration : List Mention → List FunctionInfo → List Mention → Mention → Option ℕ → Bool
is_bad_declaration ms fs before m None = true
is_bad_declaration ms fs before m (Some f) =
    (mentioned is_parameter ms f m.name || mentioned uses before f m.name)
    || ((mentioned is_global ms f m.name && mentioned is_nonlocal ms f m.name) || (is_nonlocal m.form && not (is_kept ms (around fs (parent_of fs f)) m.name)))

-- S11: a `global` or a `nonlocal` stands where it may not stand
unfoldable pub misdeclares : List Mention → List FunctionInfo → List Mention → Mention → Bool
misdeclares ms fs before m = (is_global m.form || is_nonlocal m.form) && is_bad_declaration ms fs before m m.function

-- ---- all rules

abbrev pub refused_if : Bool → ℕ → Rule → List Refused
refused_if false l r = []
refused_if true l r = record { line = l; rule = r } ∷ []

-- the rules on names that a mention breaks, where these come before it
unfoldable pub breaks : List Mention → List FunctionInfo → List Mention → Mention → List Refused
breaks ms fs before m =
    refused_if (misnames m) m.line rule.S1 ++ (refused_if (raises_other ms m) m.line rule.S2 ++ (refused_if (is_too_private m) m.line rule.S4
    ++ (refused_if (leaks ms m) m.line rule.S6 ++ (refused_if (misderives ms m) m.line rule.S8 ++ refused_if (misdeclares ms fs before m) m.line rule.S11))))

unfoldable pub breaks_from : List Mention → List FunctionInfo → List Mention → List Mention → List Refused
breaks_from ms fs before [] = []
breaks_from ms fs before (m ∷ rest) = breaks ms fs before m ++ breaks_from ms fs (before ++ m ∷ []) rest

-- the places at which a script with these mentions breaks the rules on names
abbrev pub broken_names : List Mention → List FunctionInfo → List Refused
broken_names ms fs = breaks_from ms fs [] ms
