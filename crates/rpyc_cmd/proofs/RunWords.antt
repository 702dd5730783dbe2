-- What is read of the words behind `run` is what they spell, and a refusal says where they stop.
use Rattle.std.proofs.Common.{◌≡◌, ◌<◌, ◌^◌, ℕ, List, [], ◌∷◌, Bool, true, false, arith, ap, sym, ◌∙◌, refl, subst, codes, cond, Option, Some, None, Result, Ok, Err}
use Rattle.std.specs.Bool.{IsTrue}
use Rattle.std.specs.Fmt.{decimal}
use Rattle.std.specs.Prelude.{nat_lt}
use Rattle.std.specs.Str.{bytes_eq}
use Rattle.std.specs.Str.Parse.{digits_value, ParsesUnsigned}
use Rattle.std.proofs.lemmas.Bool.{le-ltb, ltb-false}
use Rattle.std.proofs.lemmas.Fmt.{decimal_digit, decimal_is_IsNumeral, parse-decimal}
use Rattle.std.proofs.lemmas.Slice.Eq.{bytes_eq-Decides}
use Rattle.rpyc_cmd.proofs.WordTests.{bad_name, goes_on, no_more_gives, not_this, same_word, stops_or_later}
use Rattle.rpyc_cmd.specs.Words.{is_file_name, usual_fuel, most_fuel, IsFuel, IsRun, NamesFuel, Asked, PairOf, DumpOf, RunOf, Spells, Begins, IsRefusedAt, fuel_within, fuel_of, named_fuel, run_fuel, run_options, run_words}

abbrev pub pair_word : List ℕ
pair_word = codes "pair"

abbrev pub dump_word : List ℕ
dump_word = codes "dump"

abbrev pub run_word : List ℕ
run_word = codes "run"

abbrev fuel_flag : List ℕ
fuel_flag = codes "--fuel"

-- ---- numbers of units

chosen : (above same : Bool) (fuel n : ℕ) → cond above None (cond same (Some fuel) None) ≡ Some n → (above ≡ false) × (same ≡ true) × (fuel ≡ n)
chosen true same fuel n h = cc
chosen false true fuel n h = let e : fuel ≡ n = cc in (refl, refl, e)
chosen false false fuel n h = cc

picked : (above same : Bool) (n : ℕ) → above ≡ false → same ≡ true → cond above None (cond same (Some n) None) ≡ Some n
picked true same n a s = cc
picked false true n a s = refl
picked false false n a s = cc

within_gives : (word : List ℕ) (fuel n : ℕ) → fuel_within word fuel ≡ Some n → (fuel ≡ n) × IsFuel word n
within_gives word fuel n h =
    let parts = chosen (nat_lt most_fuel fuel) (bytes_eq (decimal fuel) word) fuel n h in
    (parts.2, subst (IsFuel word) parts.2 (record { written = sym ((bytes_eq-Decides (decimal fuel) word).0 parts.1); within = ltb-false most_fuel fuel parts.0 }))

within_finds : (word : List ℕ) (n : ℕ) → IsFuel word n → fuel_within word n ≡ Some n
within_finds word n f = picked (nat_lt most_fuel n) (bytes_eq (decimal n) word) n (le-ltb most_fuel n f.within) ((bytes_eq-Decides (decimal n) word).1 (sym f.written))

fuel_finds : (word : List ℕ) (n : ℕ) → IsFuel word n → fuel_of word ≡ Some n
fuel_finds word n f =
    let within = f.within in
    let small : n < 2 ^ 64 = omega (arith, within) in
    let value : digits_value 10 word ≡ n = ap (digits_value 10) f.written ∙ (decimal_is_IsNumeral n small).1 in
    subst (λ k. fuel_within word k ≡ Some n) (sym value) (within_finds word n f)

fuel_gives : (word : List ℕ) (n : ℕ) → fuel_of word ≡ Some n → IsFuel word n
fuel_gives word n h = (within_gives word (digits_value 10 word) n h).1

-- such a word is read as its number
fuel_is_read : {E : Type 0} (word : List ℕ) (n : ℕ) (r : Result ℕ E) → IsFuel word n → ParsesUnsigned 64 10 word r → r ≡ Ok n
fuel_is_read word n r f parses =
    let within = f.within in
    let small : n < 2 ^ 64 = omega (arith, within) in parse-decimal 64 n word r small small f.written parses

same_answer : {E : Type 0} (word : List ℕ) (fuel : ℕ) (r : Result ℕ E) (a b : Option ℕ) → fuel_within word fuel ≡ a → fuel_of word ≡ b → r ≡ Ok fuel → ParsesUnsigned 64 10 word r → a ≡ b
same_answer word fuel r (Some n) b e f is parses = let parts = within_gives word fuel n e in let there = fuel_finds word n parts.1 in cc
same_answer word fuel r None (Some n) e f is parses =
    let good = fuel_gives word n f in
    let read = fuel_is_read word n r good parses in
    let same : fuel ≡ n = cc in
    let found : fuel_within word fuel ≡ Some n = subst (λ k. fuel_within word k ≡ Some n) (sym same) (within_finds word n good) in cc
same_answer word fuel r None None e f is parses = refl

pub same_fuel : {E : Type 0} (word : List ℕ) (fuel : ℕ) (r : Result ℕ E) → r ≡ Ok fuel → ParsesUnsigned 64 10 word r → fuel_within word fuel ≡ fuel_of word
same_fuel word fuel r is parses = same_answer word fuel r (fuel_within word fuel) (fuel_of word) refl refl is parses

none : {E : Type 0} (word : List ℕ) (e : E) (r : Result ℕ E) (b : Option ℕ) → fuel_of word ≡ b → r ≡ Err e → ParsesUnsigned 64 10 word r → None ≡ b
none word e r None f is parses = refl
none word e r (Some n) f is parses = let read = fuel_is_read word n r (fuel_gives word n f) parses in cc

pub no_fuel : {E : Type 0} (word : List ℕ) (e : E) (r : Result ℕ E) → r ≡ Err e → ParsesUnsigned 64 10 word r → None ≡ fuel_of word
no_fuel word e r is parses = none word e r (fuel_of word) refl is parses

-- ---- what is read

full_run : (file : List ℕ) (options : List (List ℕ)) (fuel : ℕ) → IsTrue (is_file_name file) → NamesFuel options fuel → IsRun (run_word ∷ file ∷ options) file fuel
full_run file options fuel good fuelled = record { options = options; spelled = refl; named = good; fuelled = fuelled }

named_fuel_gives : (x word : List ℕ) (words : List (List ℕ)) (found : Option ℕ) (p : Asked) → fuel_of word ≡ found → IsTrue (is_file_name x) → named_fuel x words found ≡ Ok p
    → Spells (run_word ∷ x ∷ fuel_flag ∷ word ∷ words) p
named_fuel_gives x word words None p e good h = cc
named_fuel_gives x word words (Some fuel) p e good h =
    let last = no_more_gives (RunOf x fuel) 4 words p h in
    subst (Spells (run_word ∷ x ∷ fuel_flag ∷ word ∷ words)) last.1
    (let F : List (List ℕ) → Type 0 = λ ws. IsRun (run_word ∷ x ∷ fuel_flag ∷ word ∷ ws) x fuel in
    subst F (sym last.0) (full_run x (fuel_flag ∷ word ∷ []) fuel good (refl, fuel_gives word fuel e)))

run_fuel_gives : (x : List ℕ) (words : List (List ℕ)) (p : Asked) → IsTrue (is_file_name x) → run_fuel x words ≡ Ok p → Spells (run_word ∷ x ∷ fuel_flag ∷ words) p
run_fuel_gives x [] p good h = cc
run_fuel_gives x (word ∷ words) p good h = named_fuel_gives x word words (fuel_of word) p refl good h

run_options_gives : (x : List ℕ) (words : List (List ℕ)) (p : Asked) → IsTrue (is_file_name x) → run_options x words ≡ Ok p → Spells (run_word ∷ x ∷ words) p
run_options_gives x [] p good h = let e : RunOf x usual_fuel ≡ p = cc in subst (Spells (run_word ∷ x ∷ [])) e (full_run x [] usual_fuel good refl)
run_options_gives x (flag ∷ words) p good h =
    let parts = goes_on (bytes_eq flag fuel_flag) (run_fuel x words) 2 p h in
    same_word flag fuel_flag (λ w. Spells (run_word ∷ x ∷ w ∷ words) p) parts.0 (run_fuel_gives x words p good parts.1)

pub run_words_gives : (words : List (List ℕ)) (p : Asked) → run_words words ≡ Ok p → Spells (run_word ∷ words) p
run_words_gives [] p h = cc
run_words_gives (x ∷ words) p h = let parts = goes_on (is_file_name x) (run_options x words) 1 p h in run_options_gives x words p parts.0 parts.1

-- ---- fronts of command lines

begins_run : Begins (run_word ∷ [])
begins_run = (codes "a" ∷ [], RunOf (codes "a") usual_fuel, full_run (codes "a") [] usual_fuel refl refl)

begins_run_file : (x : List ℕ) → IsTrue (is_file_name x) → Begins (run_word ∷ x ∷ [])
begins_run_file x good = ([], RunOf x usual_fuel, full_run x [] usual_fuel good refl)

begins_flag : (x : List ℕ) → IsTrue (is_file_name x) → Begins (run_word ∷ x ∷ fuel_flag ∷ [])
begins_flag x good = (codes "0" ∷ [], RunOf x 0, full_run x (fuel_flag ∷ codes "0" ∷ []) 0 good (refl, record { written = sym (decimal_digit 0 (omega arith)); within = omega arith }))

begins_fuel : (x word : List ℕ) (fuel : ℕ) → IsTrue (is_file_name x) → IsFuel word fuel → Begins (run_word ∷ x ∷ fuel_flag ∷ word ∷ [])
begins_fuel x word fuel good f = ([], RunOf x fuel, full_run x (fuel_flag ∷ word ∷ []) fuel good (refl, f))

-- ---- what no command line is

-- a file's name and what names the units
abbrev Follows : List (List ℕ) → Type 0
Follows words = (file : List ℕ) × (options : List (List ℕ)) × (fuel : ℕ) × (words ≡ file ∷ options) × IsTrue (is_file_name file) × NamesFuel options fuel

follows : (words : List (List ℕ)) (p : Asked) → Spells (run_word ∷ words) p → Follows words
follows words (PairOf a b) p = absurd (not_this run_word pair_word words (a ∷ b ∷ []) refl p.spelled)
follows words (DumpOf file) p = absurd (not_this run_word dump_word words (file ∷ []) refl p.spelled)
follows words (RunOf file fuel) p = let e = p.spelled in let same : words ≡ file ∷ p.options = cc in (file, p.options, fuel, same, p.named, p.fuelled)

no_name : Follows [] → ⊥
no_name h = let e = h.3 in cc

other_name : (x : List ℕ) (words : List (List ℕ)) → is_file_name x ≡ false → Follows (x ∷ words) → ⊥
other_name x words other h = let e = h.3 in let same : x ≡ h.0 = cc in bad_name x h.0 same other h.4

behind : (x : List ℕ) (words : List (List ℕ)) → Follows (x ∷ words) → (fuel : ℕ) × NamesFuel words fuel
behind x words h = let e = h.3 in let same : h.1 ≡ words = cc in (h.2, subst (λ ws. NamesFuel ws h.2) same h.5)

other_flag : (flag : List ℕ) (words : List (List ℕ)) (fuel : ℕ) → bytes_eq flag fuel_flag ≡ false → NamesFuel (flag ∷ words) fuel → ⊥
other_flag flag [] fuel other h = h
other_flag flag (word ∷ []) fuel other h = let same : bytes_eq flag fuel_flag ≡ true = (bytes_eq-Decides flag fuel_flag).1 h.0 in cc
other_flag flag (word ∷ more ∷ words) fuel other h = h

other_fuel : (flag word : List ℕ) (words : List (List ℕ)) (fuel : ℕ) → fuel_of word ≡ None → NamesFuel (flag ∷ word ∷ words) fuel → ⊥
other_fuel flag word [] fuel other h = let found = fuel_finds word fuel h.1 in cc
other_fuel flag word (more ∷ words) fuel other h = h

-- ---- refusals

refused_no_file : IsRefusedAt (run_word ∷ []) 1
refused_no_file = record { within = omega arith; begins = begins_run; stops = λ more _. absurd (omega (arith, more)); lacks = λ p h. no_name (follows [] p h) }

refused_file : (x : List ℕ) (words : List (List ℕ)) → is_file_name x ≡ false → IsRefusedAt (run_word ∷ x ∷ words) 1
refused_file x words other = record {
  within = omega arith;
  begins = begins_run;
  stops = λ _ more. other_name x more.0 other (follows (x ∷ more.0) more.1 more.2);
  lacks = λ p h. other_name x words other (follows (x ∷ words) p h);
}

refused_flag : (x flag : List ℕ) (words : List (List ℕ)) → is_file_name x ≡ true → bytes_eq flag fuel_flag ≡ false → IsRefusedAt (run_word ∷ x ∷ flag ∷ words) 2
refused_flag x flag words good other = record {
  within = omega arith;
  begins = begins_run_file x good;
  stops = λ _ more. let h = behind x (flag ∷ more.0) (follows (x ∷ flag ∷ more.0) more.1 more.2) in other_flag flag more.0 h.0 other h.1;
  lacks = λ p l. let h = behind x (flag ∷ words) (follows (x ∷ flag ∷ words) p l) in other_flag flag words h.0 other h.1;
}

refused_no_fuel : (x : List ℕ) → is_file_name x ≡ true → IsRefusedAt (run_word ∷ x ∷ fuel_flag ∷ []) 3
refused_no_fuel x good = record {
  within = omega arith;
  begins = begins_flag x good;
  stops = λ more _. absurd (omega (arith, more));
  lacks = λ p l. let h = behind x (fuel_flag ∷ []) (follows (x ∷ fuel_flag ∷ []) p l) in h.1;
}

refused_fuel : (x word : List ℕ) (words : List (List ℕ)) → is_file_name x ≡ true → fuel_of word ≡ None → IsRefusedAt (run_word ∷ x ∷ fuel_flag ∷ word ∷ words) 3
refused_fuel x word words good other = record {
  within = omega arith;
  begins = begins_flag x good;
  stops = λ _ more. let h = behind x (fuel_flag ∷ word ∷ more.0) (follows (x ∷ fuel_flag ∷ word ∷ more.0) more.1 more.2) in other_fuel fuel_flag word more.0 h.0 other h.1;
  lacks = λ p l. let h = behind x (fuel_flag ∷ word ∷ words) (follows (x ∷ fuel_flag ∷ word ∷ words) p l) in other_fuel fuel_flag word words h.0 other h.1;
}

refused_more : (x word third : List ℕ) (words : List (List ℕ)) (fuel : ℕ) → is_file_name x ≡ true → IsFuel word fuel → IsRefusedAt (run_word ∷ x ∷ fuel_flag ∷ word ∷ third ∷ words) 4
refused_more x word third words fuel good f = record {
  within = omega arith;
  begins = begins_fuel x word fuel good f;
  stops = λ _ more. let h = behind x (fuel_flag ∷ word ∷ third ∷ more.0) (follows (x ∷ fuel_flag ∷ word ∷ third ∷ more.0) more.1 more.2) in h.1;
  lacks = λ p l. let h = behind x (fuel_flag ∷ word ∷ third ∷ words) (follows (x ∷ fuel_flag ∷ word ∷ third ∷ words) p l) in h.1;
}

named_fuel_refuses : (x word : List ℕ) (words : List (List ℕ)) (found : Option ℕ) (at : ℕ) → fuel_of word ≡ found → is_file_name x ≡ true → named_fuel x words found ≡ Err at
    → IsRefusedAt (run_word ∷ x ∷ fuel_flag ∷ word ∷ words) at
named_fuel_refuses x word words None at e good h = let same : 3 ≡ at = cc in subst (IsRefusedAt (run_word ∷ x ∷ fuel_flag ∷ word ∷ words)) same (refused_fuel x word words good e)
named_fuel_refuses x word [] (Some fuel) at e good h = cc
named_fuel_refuses x word (third ∷ words) (Some fuel) at e good h =
    let same : 4 ≡ at = cc in
    subst (IsRefusedAt (run_word ∷ x ∷ fuel_flag ∷ word ∷ third ∷ words)) same (refused_more x word third words fuel good (fuel_gives word fuel e))

run_fuel_refuses : (x : List ℕ) (words : List (List ℕ)) (at : ℕ) → is_file_name x ≡ true → run_fuel x words ≡ Err at → IsRefusedAt (run_word ∷ x ∷ fuel_flag ∷ words) at
run_fuel_refuses x [] at good h = let same : 3 ≡ at = cc in subst (IsRefusedAt (run_word ∷ x ∷ fuel_flag ∷ [])) same (refused_no_fuel x good)
run_fuel_refuses x (word ∷ words) at good h = named_fuel_refuses x word words (fuel_of word) at refl good h

run_options_refuses : (x : List ℕ) (words : List (List ℕ)) (at : ℕ) → is_file_name x ≡ true → run_options x words ≡ Err at → IsRefusedAt (run_word ∷ x ∷ words) at
run_options_refuses x [] at good h = cc
run_options_refuses x (flag ∷ words) at good h =
    stops_or_later (bytes_eq flag fuel_flag) (run_fuel x words) 2 at
    (λ same more. same_word flag fuel_flag (λ w. IsRefusedAt (run_word ∷ x ∷ w ∷ words) at) same (run_fuel_refuses x words at good more))
    (λ other e. subst (IsRefusedAt (run_word ∷ x ∷ flag ∷ words)) e (refused_flag x flag words good other)) h

pub run_words_refuses : (words : List (List ℕ)) (at : ℕ) → run_words words ≡ Err at → IsRefusedAt (run_word ∷ words) at
run_words_refuses [] at h = let same : 1 ≡ at = cc in subst (IsRefusedAt (run_word ∷ [])) same refused_no_file
run_words_refuses (x ∷ words) at h =
    stops_or_later (is_file_name x) (run_options x words) 1 at
    (λ good more. run_options_refuses x words at good more)
    (λ other e. subst (IsRefusedAt (run_word ∷ x ∷ words)) e (refused_file x words other)) h
