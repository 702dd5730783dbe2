-- What is read of the words of a command line is what they spell, and a refusal says where they stop.
use Rattle.std.proofs.Common.{◌≡◌, ℕ, List, [], ◌∷◌, true, false, arith, refl, subst, sym, codes, cond, Ok, Err}
use Rattle.std.specs.Bool.{IsTrue}
use Rattle.std.specs.Str.{bytes_eq}
use Rattle.rpyc_cmd.proofs.RunWords.{pair_word, dump_word, run_word, run_words_gives, run_words_refuses}
use Rattle.rpyc_cmd.proofs.WordTests.{bad_name, either, goes_on, no_more_gives, not_this, same_word, stops_or_later}
use Rattle.rpyc_cmd.specs.Words.{is_file_name, IsPair, IsDump, Asked, PairOf, DumpOf, RunOf, Spells, Begins, IsRefusedAt, no_more, second_name, file_names, file_name, run_words, other_command, command_of}

full_pair : (a b : List ℕ) → IsTrue (is_file_name a) → IsTrue (is_file_name b) → IsPair (pair_word ∷ a ∷ b ∷ []) a b
full_pair a b good_a good_b = record { spelled = refl; named_a = good_a; named_b = good_b }

full_dump : (file : List ℕ) → IsTrue (is_file_name file) → IsDump (dump_word ∷ file ∷ []) file
full_dump file good = record { spelled = refl; named = good }

second_name_gives : (x : List ℕ) (words : List (List ℕ)) (p : Asked) → IsTrue (is_file_name x) → second_name x words ≡ Ok p → Spells (pair_word ∷ x ∷ words) p
second_name_gives x [] p good h = cc
second_name_gives x (y ∷ words) p good h =
    let parts = goes_on (is_file_name y) (no_more (PairOf x y) 3 words) 2 p h in
    let last = no_more_gives (PairOf x y) 3 words p parts.1 in
    subst (Spells (pair_word ∷ x ∷ y ∷ words)) last.1
    (let F : List (List ℕ) → Type 0 = λ ws. IsPair (pair_word ∷ x ∷ y ∷ ws) x y in subst F (sym last.0) (full_pair x y good parts.0))

file_names_gives : (words : List (List ℕ)) (p : Asked) → file_names words ≡ Ok p → Spells (pair_word ∷ words) p
file_names_gives [] p h = cc
file_names_gives (x ∷ words) p h = let parts = goes_on (is_file_name x) (second_name x words) 1 p h in second_name_gives x words p parts.0 parts.1

file_name_gives : (words : List (List ℕ)) (p : Asked) → file_name words ≡ Ok p → Spells (dump_word ∷ words) p
file_name_gives [] p h = cc
file_name_gives (x ∷ words) p h =
    let parts = goes_on (is_file_name x) (no_more (DumpOf x) 2 words) 1 p h in
    let last = no_more_gives (DumpOf x) 2 words p parts.1 in
    subst (Spells (dump_word ∷ x ∷ words)) last.1
    (let F : List (List ℕ) → Type 0 = λ ws. IsDump (dump_word ∷ x ∷ ws) x in subst F (sym last.0) (full_dump x parts.0))

-- a word that is neither `pair` nor `dump`
other_gives : (word : List ℕ) (words : List (List ℕ)) (p : Asked) → other_command word words ≡ Ok p → Spells (word ∷ words) p
other_gives word words p h =
    let parts = goes_on (bytes_eq word run_word) (run_words words) 0 p h in
    same_word word run_word (λ w. Spells (w ∷ words) p) parts.0 (run_words_gives words p parts.1)

no_pair_gives : (word : List ℕ) (words : List (List ℕ)) (p : Asked) → cond (bytes_eq word dump_word) (file_name words) (other_command word words) ≡ Ok p → Spells (word ∷ words) p
no_pair_gives word words p h =
    either (bytes_eq word dump_word) (file_name words) (other_command word words) (Ok p)
    (λ same more. same_word word dump_word (λ w. Spells (w ∷ words) p) same (file_name_gives words p more))
    (λ other more. other_gives word words p more) h

pub command_gives : (words : List (List ℕ)) (p : Asked) → command_of words ≡ Ok p → Spells words p
command_gives [] p h = cc
command_gives (word ∷ words) p h =
    either (bytes_eq word pair_word) (file_names words) (cond (bytes_eq word dump_word) (file_name words) (other_command word words)) (Ok p)
    (λ same more. same_word word pair_word (λ w. Spells (w ∷ words) p) same (file_names_gives words p more))
    (λ other more. no_pair_gives word words p more) h

-- Fronts of command lines.

begins_empty : Begins []
begins_empty = (dump_word ∷ codes "a" ∷ [], DumpOf (codes "a"), full_dump (codes "a") refl)

begins_pair : Begins (pair_word ∷ [])
begins_pair = (codes "a" ∷ codes "b" ∷ [], PairOf (codes "a") (codes "b"), full_pair (codes "a") (codes "b") refl refl)

begins_dump : Begins (dump_word ∷ [])
begins_dump = (codes "a" ∷ [], DumpOf (codes "a"), full_dump (codes "a") refl)

begins_name : (a : List ℕ) → IsTrue (is_file_name a) → Begins (pair_word ∷ a ∷ [])
begins_name a good = (codes "b" ∷ [], PairOf a (codes "b"), full_pair a (codes "b") good refl)

begins_names : (a b : List ℕ) → IsTrue (is_file_name a) → IsTrue (is_file_name b) → Begins (pair_word ∷ a ∷ b ∷ [])
begins_names a b good_a good_b = ([], PairOf a b, full_pair a b good_a good_b)

begins_file : (file : List ℕ) → IsTrue (is_file_name file) → Begins (dump_word ∷ file ∷ [])
begins_file file good = ([], DumpOf file, full_dump file good)

-- What no command line is.
no_command : (word : List ℕ) (rest : List (List ℕ)) (p : Asked) → bytes_eq word pair_word ≡ false → bytes_eq word dump_word ≡ false → bytes_eq word run_word ≡ false → Spells (word ∷ rest) p → ⊥
no_command word rest (PairOf a b) no_pair no_dump no_run p = not_this word pair_word rest (a ∷ b ∷ []) no_pair p.spelled
no_command word rest (DumpOf file) no_pair no_dump no_run p = not_this word dump_word rest (file ∷ []) no_dump p.spelled
no_command word rest (RunOf file fuel) no_pair no_dump no_run p = not_this word run_word rest (file ∷ p.options) no_run p.spelled

other_a : (x : List ℕ) (rest : List (List ℕ)) (p : Asked) → is_file_name x ≡ false → Spells (pair_word ∷ x ∷ rest) p → ⊥
other_a x rest (PairOf a b) other p = let e : x ≡ a = let e = p.spelled in cc in bad_name x a e other p.named_a
other_a x rest (DumpOf file) other p = not_this pair_word dump_word (x ∷ rest) (file ∷ []) refl p.spelled
other_a x rest (RunOf file fuel) other p = not_this pair_word run_word (x ∷ rest) (file ∷ p.options) refl p.spelled

other_b : (x y : List ℕ) (rest : List (List ℕ)) (p : Asked) → is_file_name y ≡ false → Spells (pair_word ∷ x ∷ y ∷ rest) p → ⊥
other_b x y rest (PairOf a b) other p = let e : y ≡ b = let e = p.spelled in cc in bad_name y b e other p.named_b
other_b x y rest (DumpOf file) other p = not_this pair_word dump_word (x ∷ y ∷ rest) (file ∷ []) refl p.spelled
other_b x y rest (RunOf file fuel) other p = not_this pair_word run_word (x ∷ y ∷ rest) (file ∷ p.options) refl p.spelled

other_file : (x : List ℕ) (rest : List (List ℕ)) (p : Asked) → is_file_name x ≡ false → Spells (dump_word ∷ x ∷ rest) p → ⊥
other_file x rest (PairOf a b) other p = not_this dump_word pair_word (x ∷ rest) (a ∷ b ∷ []) refl p.spelled
other_file x rest (DumpOf file) other p = let e : x ≡ file = let e = p.spelled in cc in bad_name x file e other p.named
other_file x rest (RunOf file fuel) other p = not_this dump_word run_word (x ∷ rest) (file ∷ p.options) refl p.spelled

pair_alone : (p : Asked) → Spells (pair_word ∷ []) p → ⊥
pair_alone (PairOf a b) p = let e = p.spelled in cc
pair_alone (DumpOf file) p = let e = p.spelled in cc
pair_alone (RunOf file fuel) p = let e = p.spelled in cc

dump_alone : (p : Asked) → Spells (dump_word ∷ []) p → ⊥
dump_alone (PairOf a b) p = let e = p.spelled in cc
dump_alone (DumpOf file) p = let e = p.spelled in cc
dump_alone (RunOf file fuel) p = let e = p.spelled in cc

nothing : (p : Asked) → Spells [] p → ⊥
nothing (PairOf a b) p = let e = p.spelled in cc
nothing (DumpOf file) p = let e = p.spelled in cc
nothing (RunOf file fuel) p = let e = p.spelled in cc

one_name : (x : List ℕ) (p : Asked) → Spells (pair_word ∷ x ∷ []) p → ⊥
one_name x (PairOf a b) p = let e = p.spelled in cc
one_name x (DumpOf file) p = not_this pair_word dump_word (x ∷ []) (file ∷ []) refl p.spelled
one_name x (RunOf file fuel) p = not_this pair_word run_word (x ∷ []) (file ∷ p.options) refl p.spelled

three_names : (x y z : List ℕ) (rest : List (List ℕ)) (p : Asked) → Spells (pair_word ∷ x ∷ y ∷ z ∷ rest) p → ⊥
three_names x y z rest (PairOf a b) p = let e = p.spelled in cc
three_names x y z rest (DumpOf file) p = let e = p.spelled in cc
three_names x y z rest (RunOf file fuel) p = not_this pair_word run_word (x ∷ y ∷ z ∷ rest) (file ∷ p.options) refl p.spelled

two_files : (x y : List ℕ) (rest : List (List ℕ)) (p : Asked) → Spells (dump_word ∷ x ∷ y ∷ rest) p → ⊥
two_files x y rest (PairOf a b) p = not_this dump_word pair_word (x ∷ y ∷ rest) (a ∷ b ∷ []) refl p.spelled
two_files x y rest (DumpOf file) p = let e = p.spelled in cc
two_files x y rest (RunOf file fuel) p = not_this dump_word run_word (x ∷ y ∷ rest) (file ∷ p.options) refl p.spelled

-- Each refusal: all words before the place begin a command line, and with the word at it, or with none, they do not.
refused_empty : IsRefusedAt [] 0
refused_empty = record { within = omega arith; begins = begins_empty; stops = λ more _. absurd (omega (arith, more)); lacks = nothing }

refused_command : (word : List ℕ) (words : List (List ℕ)) → bytes_eq word pair_word ≡ false → bytes_eq word dump_word ≡ false → bytes_eq word run_word ≡ false → IsRefusedAt (word ∷ words) 0
refused_command word words no_pair no_dump no_run = record {
  within = omega arith;
  begins = begins_empty;
  stops = λ _ more. no_command word more.0 more.1 no_pair no_dump no_run more.2;
  lacks = λ p h. no_command word words p no_pair no_dump no_run h;
}

refused_no_a : IsRefusedAt (pair_word ∷ []) 1
refused_no_a = record { within = omega arith; begins = begins_pair; stops = λ more _. absurd (omega (arith, more)); lacks = pair_alone }

refused_a : (x : List ℕ) (words : List (List ℕ)) → is_file_name x ≡ false → IsRefusedAt (pair_word ∷ x ∷ words) 1
refused_a x words other = record { within = omega arith; begins = begins_pair; stops = λ _ more. other_a x more.0 more.1 other more.2; lacks = λ p h. other_a x words p other h }

refused_no_b : (x : List ℕ) → is_file_name x ≡ true → IsRefusedAt (pair_word ∷ x ∷ []) 2
refused_no_b x good = record { within = omega arith; begins = begins_name x good; stops = λ more _. absurd (omega (arith, more)); lacks = one_name x }

refused_b : (x y : List ℕ) (words : List (List ℕ)) → is_file_name x ≡ true → is_file_name y ≡ false → IsRefusedAt (pair_word ∷ x ∷ y ∷ words) 2
refused_b x y words good other = record { within = omega arith; begins = begins_name x good; stops = λ _ more. other_b x y more.0 more.1 other more.2; lacks = λ p h. other_b x y words p other h }

refused_third : (x y z : List ℕ) (words : List (List ℕ)) → is_file_name x ≡ true → is_file_name y ≡ true → IsRefusedAt (pair_word ∷ x ∷ y ∷ z ∷ words) 3
refused_third x y z words good_x good_y = record {
  within = omega arith;
  begins = begins_names x y good_x good_y;
  stops = λ _ more. three_names x y z more.0 more.1 more.2;
  lacks = λ p h. three_names x y z words p h;
}

refused_no_file : IsRefusedAt (dump_word ∷ []) 1
refused_no_file = record { within = omega arith; begins = begins_dump; stops = λ more _. absurd (omega (arith, more)); lacks = dump_alone }

refused_file : (x : List ℕ) (words : List (List ℕ)) → is_file_name x ≡ false → IsRefusedAt (dump_word ∷ x ∷ words) 1
refused_file x words other = record { within = omega arith; begins = begins_dump; stops = λ _ more. other_file x more.0 more.1 other more.2; lacks = λ p h. other_file x words p other h }

refused_second : (x y : List ℕ) (words : List (List ℕ)) → is_file_name x ≡ true → IsRefusedAt (dump_word ∷ x ∷ y ∷ words) 2
refused_second x y words good = record { within = omega arith; begins = begins_file x good; stops = λ _ more. two_files x y more.0 more.1 more.2; lacks = λ p h. two_files x y words p h }

no_third_refuses : (x y : List ℕ) (words : List (List ℕ)) (at : ℕ) → is_file_name x ≡ true → is_file_name y ≡ true → no_more (PairOf x y) 3 words ≡ Err at → IsRefusedAt (pair_word ∷ x ∷ y ∷ words) at
no_third_refuses x y [] at good_x good_y h = cc
no_third_refuses x y (z ∷ words) at good_x good_y h = let e : 3 ≡ at = cc in subst (IsRefusedAt (pair_word ∷ x ∷ y ∷ z ∷ words)) e (refused_third x y z words good_x good_y)

no_second_refuses : (x : List ℕ) (words : List (List ℕ)) (at : ℕ) → is_file_name x ≡ true → no_more (DumpOf x) 2 words ≡ Err at → IsRefusedAt (dump_word ∷ x ∷ words) at
no_second_refuses x [] at good h = cc
no_second_refuses x (y ∷ words) at good h = let e : 2 ≡ at = cc in subst (IsRefusedAt (dump_word ∷ x ∷ y ∷ words)) e (refused_second x y words good)

second_name_refuses : (x : List ℕ) (words : List (List ℕ)) (at : ℕ) → is_file_name x ≡ true → second_name x words ≡ Err at → IsRefusedAt (pair_word ∷ x ∷ words) at
second_name_refuses x [] at good h = let e : 2 ≡ at = cc in subst (IsRefusedAt (pair_word ∷ x ∷ [])) e (refused_no_b x good)
second_name_refuses x (y ∷ words) at good h =
    stops_or_later (is_file_name y) (no_more (PairOf x y) 3 words) 2 at
    (λ good_y more. no_third_refuses x y words at good good_y more)
    (λ other e. subst (IsRefusedAt (pair_word ∷ x ∷ y ∷ words)) e (refused_b x y words good other)) h

file_names_refuses : (words : List (List ℕ)) (at : ℕ) → file_names words ≡ Err at → IsRefusedAt (pair_word ∷ words) at
file_names_refuses [] at h = let e : 1 ≡ at = cc in subst (IsRefusedAt (pair_word ∷ [])) e refused_no_a
file_names_refuses (x ∷ words) at h =
    stops_or_later (is_file_name x) (second_name x words) 1 at
    (λ good more. second_name_refuses x words at good more)
    (λ other e. subst (IsRefusedAt (pair_word ∷ x ∷ words)) e (refused_a x words other)) h

file_name_refuses : (words : List (List ℕ)) (at : ℕ) → file_name words ≡ Err at → IsRefusedAt (dump_word ∷ words) at
file_name_refuses [] at h = let e : 1 ≡ at = cc in subst (IsRefusedAt (dump_word ∷ [])) e refused_no_file
file_name_refuses (x ∷ words) at h =
    stops_or_later (is_file_name x) (no_more (DumpOf x) 2 words) 1 at
    (λ good more. no_second_refuses x words at good more)
    (λ other e. subst (IsRefusedAt (dump_word ∷ x ∷ words)) e (refused_file x words other)) h

other_refuses : (word : List ℕ) (words : List (List ℕ)) (at : ℕ) → bytes_eq word pair_word ≡ false → bytes_eq word dump_word ≡ false → other_command word words ≡ Err at → IsRefusedAt (word ∷ words) at
other_refuses word words at no_pair no_dump h =
    stops_or_later (bytes_eq word run_word) (run_words words) 0 at
    (λ same more. same_word word run_word (λ w. IsRefusedAt (w ∷ words) at) same (run_words_refuses words at more))
    (λ other e. subst (IsRefusedAt (word ∷ words)) e (refused_command word words no_pair no_dump other)) h

no_pair_refuses : (word : List ℕ) (words : List (List ℕ)) (at : ℕ) → bytes_eq word pair_word ≡ false → cond (bytes_eq word dump_word) (file_name words) (other_command word words) ≡ Err at → IsRefusedAt (word ∷ words) at
no_pair_refuses word words at no_pair h =
    either (bytes_eq word dump_word) (file_name words) (other_command word words) (Err at)
    (λ same more. same_word word dump_word (λ w. IsRefusedAt (w ∷ words) at) same (file_name_refuses words at more))
    (λ other more. other_refuses word words at no_pair other more) h

pub command_refuses : (words : List (List ℕ)) (at : ℕ) → command_of words ≡ Err at → IsRefusedAt words at
command_refuses [] at h = let e : 0 ≡ at = cc in subst (IsRefusedAt []) e refused_empty
command_refuses (word ∷ words) at h =
    either (bytes_eq word pair_word) (file_names words) (cond (bytes_eq word dump_word) (file_name words) (other_command word words)) (Err at)
    (λ same more. same_word word pair_word (λ w. IsRefusedAt (w ∷ words) at) same (file_names_refuses words at more))
    (λ other more. no_pair_refuses word words at other more) h
