-- One more mention in a table of what is known.
use Rattle.std.proofs.Common.{◌≡◌, ◌∙◌, sym, ap, refl, ℕ, Bool, true, false, not, ◌&&◌, ◌||◌, ◌==◌, cond, min, nat_lt, List, [], take, length, get_or, ◌<◌, ◌+◌, Option, Some, None, Bor, subst, arith}
use Rattle.std.specs.Prelude.{if◌then◌else◌}
use Rattle.std.specs.List.{list_any}
use Rattle.std.specs.Option.{unwrap_or}
use Rattle.std.specs.HashMap.{HashMap, get_by}
use Rattle.std.specs.Map.{lookup}
use Rattle.std.specs.Str.{bytes_eq}
use Rattle.std.specs.Cmp.Lexicographic.{bytes_decides}
use Rattle.std.proofs.lemmas.Bool.{eqb-true}
use Rattle.std.proofs.lemmas.Grind.{common_steps}
use Rattle.std.proofs.lemmas.List.Folds.{list_any_more}
use Rattle.py_mentions.specs.declared.mention.Mention.{Mention}
use Rattle.py_scope.specs.declared.locals.LocalFacts.{LocalFacts}
use Rattle.py_scope.specs.declared.names.NameFacts.{NameFacts}
use Rattle.py_scope.specs.declared.classes.ClassFacts.{ClassFacts}
use Rattle.py_scope.specs.Words.{is_operator}
use Rattle.py_scope.specs.Forms.{is_parameter, binds, is_caught, is_global, is_nonlocal, uses, is_class, is_base, is_method, is_number, is_below}
use Rattle.py_scope.specs.Facts.{in_function, mentioned, anywhere, occurs, rebinds, is_rebound, is_earlier, earlier_class, in_class, has_base, is_operator_of, has_operator, in_script}
use Rattle.py_scope.specs.Tables.{LocalMap, no_local, local_with, of_local, local_in, local_noted, local_facts, NameMap, no_name, lesser, class_number, name_with, of_name, name_in, name_noted, IsOfName, ClassMap, no_class, class_with, class_in, class_noted, class_facts}

both : (b c : Bool) → b && c ≡ true → (b ≡ true) × (c ≡ true)
both true true e = (refl, refl)
both true false e = cc
both false c e = cc

-- what is found of q, after the value at k was changed
module _ {K X S : Type 0} (d : X) (old new : HashMap K X S) (test : K → Bool) (w : X) where
  changed : (here : Bool) (f : X → X) → (here ≡ true → w ≡ f (unwrap_or (get_by test old) d)) → get_by test new ≡ cond here (Some w) (get_by test old)
      → unwrap_or (get_by test new) d ≡ (if here then f (unwrap_or (get_by test old) d) else unwrap_or (get_by test old) d)
  changed true f is now = ap (λ o. unwrap_or o d) now ∙ is refl
  changed false f is now = ap (λ o. unwrap_or o d) now

module _ {S : Type 0} (old new : LocalMap S) (g : ℕ) (m : Mention) (w : LocalFacts) (f : ℕ) (n : List ℕ) where
  pub local_step : m.function ≡ Some g → w ≡ local_with m.form (local_in old g m.name) → get_by (of_local f n) new ≡ cond ((g == f) && bytes_eq m.name n) (Some w) (get_by (of_local f n) old)
      → local_in new f n ≡ local_noted m f n (local_in old f n)
  local_step at is now =
      changed no_local old new (of_local f n) w ((g == f) && bytes_eq m.name n) (local_with m.form) same now
      ∙ ap (λ o. if is_number f o && bytes_eq m.name n then local_with m.form (local_in old f n) else local_in old f n) (sym at)
    where
      same : (g == f) && bytes_eq m.name n ≡ true → w ≡ local_with m.form (local_in old f n)
      same e =
          let parts = both (g == f) (bytes_eq m.name n) e in
          let same_function : g ≡ f = eqb-true g f parts.0 in
          let same_name : m.name ≡ n = (bytes_decides m.name n).0 parts.1 in
          is ∙ (λ i. local_with m.form (local_in old (same_function i) (same_name i)))

module _ {S : Type 0} (old new : NameMap S) (m : Mention) (own : Bool) (w : NameFacts) (n : List ℕ) where
  pub name_step : w ≡ name_with m own (name_in old m.name) → get_by (of_name n) new ≡ cond (bytes_eq m.name n) (Some w) (get_by (of_name n) old)
      → name_in new n ≡ name_noted m own n (name_in old n)
  name_step is now = changed no_name old new (of_name n) w (bytes_eq m.name n) (name_with m own) same now
    where
      same : bytes_eq m.name n ≡ true → w ≡ name_with m own (name_in old n)
      same e =
          let same_name : m.name ≡ n = (bytes_decides m.name n).0 e in
          is ∙ (λ i. name_with m own (name_in old (same_name i)))

module _ {S : Type 0} (old new : ClassMap S) (j : ℕ) (m : Mention) (w : ClassFacts) (k : ℕ) where
  pub class_step : m.class ≡ Some j → w ≡ class_with m (class_in old j) → get_by (λ i. k == i) new ≡ cond (j == k) (Some w) (get_by (λ i. k == i) old)
      → class_in new k ≡ class_noted m k (class_in old k)
  class_step at is now =
      changed no_class old new (λ i. k == i) w (j == k) (class_with m) same now
      ∙ ap (λ o. if is_number k o then class_with m (class_in old k) else class_in old k) (sym at)
    where
      same : j == k ≡ true → w ≡ class_with m (class_in old k)
      same e =
          let same_class : j ≡ k = eqb-true j k e in
          is ∙ (λ i. class_with m (class_in old (same_class i)))

-- ---- one mention more in the list

unmet : (x t : Bool) → x ≡ x || (false && t)
unmet true t = refl
unmet false t = refl

lt_min : (k a b : ℕ) → nat_lt (min a b) k ≡ nat_lt a k || nat_lt b k
lt_min k a b = grind (arith, common_steps)

below_lesser : (k : ℕ) (a b : Option ℕ) → is_below k (lesser a b) ≡ is_below k a || is_below k b
below_lesser k None b = refl
below_lesser k (Some a) None = grind arith
below_lesser k (Some a) (Some b) = lt_min k a b

below_class : (k : ℕ) (m : Mention) → is_below k (class_number m) ≡ is_class m.form && is_below k m.class
below_class k m = by (is_class m.form)
  where
    by : (b : Bool) → is_below k (if b then m.class else None) ≡ b && is_below k m.class
    by true = refl
    by false = refl

module _ (ms : List Mention) (i : ℕ) (m d : Mention) (within : i < length ms) (at : get_or ms i d ≡ m) where
  more : (p : Mention → Bool) → list_any p (take (i + 1) ms) ≡ list_any p (take i ms) || p m
  more p = list_any_more p ms i d within ∙ ap (λ x. list_any p (take i ms) || p x) at

  pub local_more : (f : ℕ) (n : List ℕ) → local_facts (take (i + 1) ms) f n ≡ local_noted m f n (local_facts (take i ms) f n)
  unfolding mentioned
  local_more f n =
      (λ j. record {
        is_parameter = more (in_function is_parameter f n) j;
        is_bound = more (in_function binds f n) j;
        is_global = more (in_function is_global f n) j;
        is_nonlocal = more (in_function is_nonlocal f n) j;
        is_used = more (in_function uses f n) j;
      }) ∙ by (is_number f m.function && bytes_eq m.name n) (local_facts (take i ms) f n)
    where
      by : (here : Bool) (l : LocalFacts) → record {
        is_parameter = l.is_parameter || (here && is_parameter m.form);
        is_bound = l.is_bound || (here && binds m.form);
        is_global = l.is_global || (here && is_global m.form);
        is_nonlocal = l.is_nonlocal || (here && is_nonlocal m.form);
        is_used = l.is_used || (here && uses m.form);
      } ≡ (if here then local_with m.form l else l)
      by true l = refl
      by false l = λ j. record {
        is_parameter = sym (unmet l.is_parameter (is_parameter m.form)) j;
        is_bound = sym (unmet l.is_bound (binds m.form)) j;
        is_global = sym (unmet l.is_global (is_global m.form)) j;
        is_nonlocal = sym (unmet l.is_nonlocal (is_nonlocal m.form)) j;
        is_used = sym (unmet l.is_used (uses m.form)) j;
      }

  pub class_more : (k : ℕ) → class_facts (take (i + 1) ms) k ≡ class_noted m k (class_facts (take i ms) k)
  unfolding has_base has_operator
  class_more k =
      (λ j. record { has_base = more (in_class is_base k) j; has_operator = more (is_operator_of k) j }) ∙ by (is_number k m.class) (class_facts (take i ms) k)
    where
      by : (here : Bool) (l : ClassFacts) → record { has_base = l.has_base || (here && is_base m.form); has_operator = l.has_operator || (here && (is_method m.form && is_operator m.name)) } ≡ (if here then class_with m l else l)
      by true l = refl
      by false l = λ j. record { has_base = sym (unmet l.has_base (is_base m.form)) j; has_operator = sym (unmet l.has_operator (is_method m.form && is_operator m.name)) j }

  pub name_more : (all : List Mention) (n : List ℕ) (l : NameFacts) (own : Bool) → own ≡ in_script all m.function m.name → IsOfName all (take i ms) n l → IsOfName all (take (i + 1) ms) n (name_noted m own n l)
  unfolding occurs is_rebound earlier_class
  name_more all n l own is h = by (bytes_eq m.name n) refl
    where
      by : (here : Bool) → bytes_eq m.name n ≡ here → IsOfName all (take (i + 1) ms) n (if here then name_with m own l else l)
      by true e =
          let same : m.name ≡ n = (bytes_decides m.name n).0 e in
          let own_here : own ≡ in_script all m.function n = is ∙ ap (in_script all m.function) same in
          record {
            handled = ap (λ x. x || is_caught m.form) h.handled ∙ ap (λ b. list_any (anywhere is_caught n) (take i ms) || (b && is_caught m.form)) (sym e) ∙ sym (more (anywhere is_caught n));
            base = ap (λ x. x || is_base m.form) h.base ∙ ap (λ b. list_any (anywhere is_base n) (take i ms) || (b && is_base m.form)) (sym e) ∙ sym (more (anywhere is_base n));
            rebound = (λ j. h.rebound j || ((binds m.form && not (is_class m.form)) && own_here j))
                ∙ ap (λ b. list_any (rebinds all n) (take i ms) || (b && ((binds m.form && not (is_class m.form)) && in_script all m.function n))) (sym e) ∙ sym (more (rebinds all n));
            classes = λ k. below_lesser k l.first_class (class_number m) ∙ (λ j. h.classes k j || below_class k m j)
                ∙ ap (λ b. list_any (is_earlier k n) (take i ms) || ((b && is_class m.form) && is_below k m.class)) (sym e) ∙ sym (more (is_earlier k n));
          }
      by false e = record {
        handled = h.handled ∙ unmet _ (is_caught m.form) ∙ ap (λ b. list_any (anywhere is_caught n) (take i ms) || (b && is_caught m.form)) (sym e) ∙ sym (more (anywhere is_caught n));
        base = h.base ∙ unmet _ (is_base m.form) ∙ ap (λ b. list_any (anywhere is_base n) (take i ms) || (b && is_base m.form)) (sym e) ∙ sym (more (anywhere is_base n));
        rebound = h.rebound ∙ unmet _ ((binds m.form && not (is_class m.form)) && in_script all m.function n)
            ∙ ap (λ b. list_any (rebinds all n) (take i ms) || (b && ((binds m.form && not (is_class m.form)) && in_script all m.function n))) (sym e) ∙ sym (more (rebinds all n));
        classes = λ k. h.classes k ∙ unmet _ (is_below k m.class)
            ∙ ap (λ b. list_any (is_earlier k n) (take i ms) || ((b && is_class m.form) && is_below k m.class)) (sym e) ∙ sym (more (is_earlier k n));
      }

-- ---- nothing is noted yet

pub local_start : {S : Type 0} (t : LocalMap S) → t.entries ≡ [] → (f : ℕ) (n : List ℕ) → local_in t f n ≡ local_facts [] f n
unfolding mentioned
local_start t e f n = ap (λ (es : List ((ℕ × Bor (List ℕ)) × LocalFacts)). unwrap_or (lookup (of_local f n) es) no_local) e

pub name_start : {S : Type 0} (t : NameMap S) → t.entries ≡ [] → (all : List Mention) (n : List ℕ) → IsOfName all [] n (name_in t n)
unfolding occurs is_rebound earlier_class
name_start t e all n =
    let none : name_in t n ≡ no_name = ap (λ (es : List (Bor (List ℕ) × NameFacts)). unwrap_or (lookup (of_name n) es) no_name) e in
    subst (IsOfName all [] n) (sym none) (record { handled = refl; base = refl; rebound = refl; classes = λ k. refl })

pub class_start : {S : Type 0} (t : ClassMap S) → t.entries ≡ [] → (k : ℕ) → class_in t k ≡ class_facts [] k
unfolding has_base has_operator
class_start t e k = ap (λ (es : List (ℕ × ClassFacts)). unwrap_or (lookup (λ j. k == j) es) no_class) e
