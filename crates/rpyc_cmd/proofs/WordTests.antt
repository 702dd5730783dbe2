-- Tests of words, and what a reading that goes by them gives.
use Rattle.std.proofs.Common.{◌≡◌, ℕ, List, [], ◌∷◌, Bool, true, false, ap, sym, ◌∙◌, refl, subst, cond, Result, Ok, Err}
use Rattle.std.specs.Bool.{IsTrue}
use Rattle.std.specs.Str.{bytes_eq}
use Rattle.std.proofs.lemmas.Slice.Eq.{bytes_eq-Decides}
use Rattle.rpyc_cmd.specs.Words.{is_file_name, Asked, no_more}

abbrev pub Read : Type 0
Read = Result Asked ℕ

-- a test that decides whether the reading goes on
pub goes_on : (t : Bool) (more : Read) (n : ℕ) (p : Asked) → cond t more (Err n) ≡ Ok p → (t ≡ true) × (more ≡ Ok p)
goes_on true more n p h = (refl, h)
goes_on false more n p h = cc

pub stops_or_later : {G : Type 0} (t : Bool) (more : Read) (n at : ℕ) → (t ≡ true → more ≡ Err at → G) → (t ≡ false → n ≡ at → G) → cond t more (Err n) ≡ Err at → G
stops_or_later true more n at later here h = later refl h
stops_or_later false more n at later here h = here refl (cc)

-- a test that decides between two readings
pub either : {G : Type 0} (t : Bool) (more less : Read) (r : Read) → (t ≡ true → more ≡ r → G) → (t ≡ false → less ≡ r → G) → cond t more less ≡ r → G
either true more less r here later h = here refl h
either false more less r here later h = later refl h

pub no_more_gives : (x : Asked) (at : ℕ) (words : List (List ℕ)) (p : Asked) → no_more x at words ≡ Ok p → (words ≡ []) × (x ≡ p)
no_more_gives x at [] p h = let e : x ≡ p = cc in (refl, e)
no_more_gives x at (w ∷ words) p h = cc

-- a word that is this one
pub same_word : (word wanted : List ℕ) (P : List ℕ → Type 0) → bytes_eq word wanted ≡ true → P wanted → P word
same_word word wanted P same h = subst P (sym ((bytes_eq-Decides word wanted).0 same)) h

-- What no command line is.
pub not_this : (word wanted : List ℕ) (words others : List (List ℕ)) → bytes_eq word wanted ≡ false → word ∷ words ≡ wanted ∷ others → ⊥
not_this word wanted words others other e =
    let first : word ≡ wanted = cc in
    let same : bytes_eq word wanted ≡ true = (bytes_eq-Decides word wanted).1 first in cc

pub bad_name : (x a : List ℕ) → x ≡ a → is_file_name x ≡ false → IsTrue (is_file_name a) → ⊥
bad_name x a e other good = let bad : is_file_name a ≡ false = sym (ap is_file_name e) ∙ other in let well : is_file_name a ≡ true = good in cc
