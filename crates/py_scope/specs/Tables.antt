-- The tables in which the code keeps what mentions say.
use Rattle.std.specs.Prelude.{◌≡◌, ℕ, Bool, false, ◌&&◌, ◌||◌, ◌==◌, not, min, List, Option, Some, None, if◌then◌else◌}
use Rattle.std.specs.Str.{bytes_eq}
use Rattle.std.specs.Option.{unwrap_or}
use Rattle.std.specs.HashMap.{HashMap, get_by}
use denote.Ref.{Bor}
use Rattle.py_mentions.specs.declared.mention.Form.{Form}
use Rattle.py_mentions.specs.declared.mention.Mention.{Mention}
use Rattle.py_scope.specs.declared.locals.LocalFacts.{LocalFacts}
use Rattle.py_scope.specs.declared.names.NameFacts.{NameFacts}
use Rattle.py_scope.specs.declared.classes.ClassFacts.{ClassFacts}
use Rattle.py_scope.specs.declared.facts.Facts.{Facts}
use Rattle.py_scope.specs.Words.{is_operator}
use Rattle.py_scope.specs.Forms.{is_parameter, binds, is_caught, is_global, is_nonlocal, uses, is_class, is_base, is_method, is_number, is_below}
use Rattle.py_scope.specs.Facts.{mentioned, occurs, is_rebound, earlier_class, has_base, has_operator}

-- ---- names in functions

abbrev pub LocalMap : Type 0 → Type 0
LocalMap S = HashMap (ℕ × Bor (List ℕ)) LocalFacts S

abbrev pub no_local : LocalFacts
no_local = record { is_parameter = false; is_bound = false; is_global = false; is_nonlocal = false; is_used = false }

-- one mention more of a name in a function
abbrev pub local_with : Form → LocalFacts → LocalFacts
local_with f l = record {
  is_parameter = l.is_parameter || is_parameter f;
  is_bound = l.is_bound || binds f;
  is_global = l.is_global || is_global f;
  is_nonlocal = l.is_nonlocal || is_nonlocal f;
  is_used = l.is_used || uses f;
}

abbrev pub of_local : ℕ → List ℕ → ℕ × Bor (List ℕ) → Bool
of_local f n k = (f == k.0) && bytes_eq n k.1.now

abbrev pub local_in : {S : Type 0} → LocalMap S → ℕ → List ℕ → LocalFacts
local_in t f n = unwrap_or (get_by (of_local f n) t) no_local

abbrev pub local_noted : Mention → ℕ → List ℕ → LocalFacts → LocalFacts
local_noted m f n l = if is_number f m.function && bytes_eq m.name n then local_with m.form l else l

-- what the mentions say of a name in a function
abbrev pub local_facts : List Mention → ℕ → List ℕ → LocalFacts
local_facts ms f n = record {
  is_parameter = mentioned is_parameter ms f n;
  is_bound = mentioned binds ms f n;
  is_global = mentioned is_global ms f n;
  is_nonlocal = mentioned is_nonlocal ms f n;
  is_used = mentioned uses ms f n;
}

abbrev pub KnowsLocals : {S : Type 0} → List Mention → LocalMap S → Type 0
KnowsLocals ms t = (f : ℕ) → (n : List ℕ) → local_in t f n ≡ local_facts ms f n

-- ---- names

abbrev pub NameMap : Type 0 → Type 0
NameMap S = HashMap (Bor (List ℕ)) NameFacts S

abbrev pub no_name : NameFacts
no_name = record { is_handled = false; is_base = false; is_rebound = false; first_class = None }

-- the lesser of two numbers that may be missing
abbrev pub lesser : Option ℕ → Option ℕ → Option ℕ
lesser None b = b
lesser a None = a
lesser (Some a) (Some b) = Some (min a b)

abbrev pub class_number : Mention → Option ℕ
class_number m = if is_class m.form then m.class else None

-- one mention more of a name, which is bound there as the script's own or not
abbrev pub name_with : Mention → Bool → NameFacts → NameFacts
name_with m own l = record {
  is_handled = l.is_handled || is_caught m.form;
  is_base = l.is_base || is_base m.form;
  is_rebound = l.is_rebound || ((binds m.form && not (is_class m.form)) && own);
  first_class = lesser l.first_class (class_number m);
}

abbrev pub of_name : List ℕ → Bor (List ℕ) → Bool
of_name n k = bytes_eq n k.now

abbrev pub name_in : {S : Type 0} → NameMap S → List ℕ → NameFacts
name_in t n = unwrap_or (get_by (of_name n) t) no_name

abbrev pub name_noted : Mention → Bool → List ℕ → NameFacts → NameFacts
name_noted m own n l = if bytes_eq m.name n then name_with m own l else l

-- what some of the mentions of a script say of a name
pub record IsOfName (ms some : List Mention) (n : List ℕ) (l : NameFacts) : Type 0 where
  pub handled : l.is_handled ≡ occurs is_caught some n
  pub base : l.is_base ≡ occurs is_base some n
  pub rebound : l.is_rebound ≡ is_rebound ms some n
  pub classes : (k : ℕ) → is_below k l.first_class ≡ earlier_class some k n

abbrev pub KnowsNames : {S : Type 0} → List Mention → List Mention → NameMap S → Type 0
KnowsNames ms some t = (n : List ℕ) → IsOfName ms some n (name_in t n)

-- ---- classes

abbrev pub ClassMap : Type 0 → Type 0
ClassMap S = HashMap ℕ ClassFacts S

abbrev pub no_class : ClassFacts
no_class = record { has_base = false; has_operator = false }

abbrev pub class_with : Mention → ClassFacts → ClassFacts
class_with m l = record { has_base = l.has_base || is_base m.form; has_operator = l.has_operator || (is_method m.form && is_operator m.name) }

abbrev pub class_in : {S : Type 0} → ClassMap S → ℕ → ClassFacts
class_in t k = unwrap_or (get_by (λ j. k == j) t) no_class

abbrev pub class_noted : Mention → ℕ → ClassFacts → ClassFacts
class_noted m k l = if is_number k m.class then class_with m l else l

abbrev pub class_facts : List Mention → ℕ → ClassFacts
class_facts ms k = record { has_base = has_base ms k; has_operator = has_operator ms k }

abbrev pub KnowsClasses : {S : Type 0} → List Mention → ClassMap S → Type 0
KnowsClasses ms t = (k : ℕ) → class_in t k ≡ class_facts ms k

-- ---- all tables

abbrev pub Knows : Facts → Type 0
Knows f = KnowsLocals f.mentions.now f.locals.map × KnowsNames f.mentions.now f.mentions.now f.names.map × KnowsClasses f.mentions.now f.classes.map
