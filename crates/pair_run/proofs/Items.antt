-- The exchanges of A's lines, one after the other.
use Rattle.std.proofs.Common.{◌≡◌, ◌∙◌, ℕ, ◌+◌, ◌<◌, ◌≤◌, ◌++◌, List, [], ◌∷◌, ap, sym, refl, subst, take, drop, length, append_assoc, append-nil, get_or, suc, arith, take-suc}
use Rattle.std.proofs.Math.ListN.{drop_of_length-le}
use Rattle.std.specs.Fmt.{signed_decimal}
use Rattle.std.proofs.Math.Seq.{drop-cons}
use Rattle.rp_base.specs.declared.ends.Side.{Side}
use Rattle.rp_base.specs.declared.ends.Side.TheVariants as side
use Rattle.message_core.specs.declared.message.Message.{Message}
use Rattle.pair_run.specs.Messages.{asks}
use Rattle.pair_run.specs.declared.messages.Question.TheVariants as question
use Rattle.pair_run.specs.declared.scripts.Binding.{Binding}
use Rattle.pair_run.specs.Talk.{exchange, stream, sent_by, bytes_of, Carries, CarriesFront, CarriesPart, items_from, closing, talk, printed, value_of}
use Rattle.pair_run.proofs.Traffic.{carries_then, carries_none, carries_a, front_then, front_more, front_a}

pub stream-append : (xs ys : List (Side × Message)) → stream (xs ++ ys) ≡ stream xs ++ stream ys
stream-append [] ys = refl
stream-append (m ∷ xs) ys = ap (λ ms. sent_by m.0 (bytes_of m.1) ++ ms) (stream-append xs ys) ∙ sym (append_assoc (sent_by m.0 (bytes_of m.1)) (stream xs) (stream ys))

-- the rest of the letters' exchanges begin with the next letter's
next_item : (bindings : List Binding) (letters : List ℕ) (index : ℕ) → index < length letters
    → stream (items_from bindings (2 + index) (drop index letters)) ≡ stream (exchange bindings (2 + index) (question.GetItem (get_or letters index 0))) ++ stream (items_from bindings (2 + (index + 1)) (drop (index + 1) letters))
next_item bindings letters index h =
    let after : suc index ≡ index + 1 = omega arith in
    let later : 2 + index + 1 ≡ 2 + (index + 1) = omega arith in
    let letter = get_or letters index 0 in
    ap (λ ls. stream (items_from bindings (2 + index) ls)) (drop-cons letters index 0 h)
    ∙ stream-append (exchange bindings (2 + index) (question.GetItem letter)) (items_from bindings (2 + index + 1) (drop (suc index) letters))
    ∙ ap (λ n. stream (exchange bindings (2 + index) (question.GetItem letter)) ++ stream (items_from bindings n (drop (suc index) letters))) later
    ∙ ap (λ n. stream (exchange bindings (2 + index) (question.GetItem letter)) ++ stream (items_from bindings (2 + (index + 1)) (drop n letters))) after

-- what is carried of the exchanges of all letters, and what is to come
pub record Going (bindings : List Binding) (letters : List ℕ) (index : ℕ) (ab ab_new ba ba_new : List ℕ) : Type 0 where
  pub done : List (Side × ℕ)
  pub whole : stream (items_from bindings 2 letters) ≡ done ++ stream (items_from bindings (2 + index) (drop index letters))
  pub carried : Carries done ab ab_new ba ba_new

pub going_begins : (bindings : List Binding) (letters : List ℕ) (ab ba : List ℕ) → Going bindings letters 0 ab ab ba ba
going_begins bindings letters ab ba = record { done = []; whole = refl; carried = carries_none ab ba }

pub going_on : (bindings : List Binding) (letters : List ℕ) (index : ℕ) (ab ab1 ab2 ba ba1 ba2 : List ℕ) → index < length letters → Going bindings letters index ab ab1 ba ba1
    → Carries (stream (exchange bindings (2 + index) (question.GetItem (get_or letters index 0)))) ab1 ab2 ba1 ba2 → Going bindings letters (index + 1) ab ab2 ba ba2
going_on bindings letters index ab ab1 ab2 ba ba1 ba2 h going k =
    let item = stream (exchange bindings (2 + index) (question.GetItem (get_or letters index 0))) in
    record {
      done = going.done ++ item;
      whole = going.whole ∙ ap (λ ms. going.done ++ ms) (next_item bindings letters index h)
          ∙ sym (append_assoc going.done item (stream (items_from bindings (2 + (index + 1)) (drop (index + 1) letters))));
      carried = carries_then going.done item ab ab1 ab2 ba ba1 ba2 going.carried k;
    }

pub going_cut : (bindings : List Binding) (letters : List ℕ) (index : ℕ) (ab ab1 ab2 ba ba1 ba2 : List ℕ) → index < length letters → Going bindings letters index ab ab1 ba ba1
    → CarriesFront (stream (exchange bindings (2 + index) (question.GetItem (get_or letters index 0)))) ab1 ab2 ba1 ba2 → CarriesFront (stream (items_from bindings 2 letters)) ab ab2 ba ba2
going_cut bindings letters index ab ab1 ab2 ba ba1 ba2 h going k =
    let item = stream (exchange bindings (2 + index) (question.GetItem (get_or letters index 0))) in
    let others = stream (items_from bindings (2 + (index + 1)) (drop (index + 1) letters)) in
    let F : List (Side × ℕ) → Type 0 = λ s. CarriesFront s ab ab2 ba ba2 in
    subst F (sym (going.whole ∙ ap (λ ms. going.done ++ ms) (next_item bindings letters index h)))
    (front_then going.done (item ++ others) ab ab1 ab2 ba ba1 ba2 going.carried (front_more item others ab1 ab2 ba1 ba2 k))

pub going_ends : (bindings : List Binding) (letters : List ℕ) (index : ℕ) (ab ab1 ba ba1 : List ℕ) → length letters ≤ index → Going bindings letters index ab ab1 ba ba1
    → Carries (stream (items_from bindings 2 letters)) ab ab1 ba ba1
going_ends bindings letters index ab ab1 ba ba1 h going =
    let none : stream (items_from bindings (2 + index) (drop index letters)) ≡ [] = ap (λ ls. stream (items_from bindings (2 + index) ls)) (drop_of_length-le letters h) in
    let F : List (Side × ℕ) → Type 0 = λ s. Carries s ab ab1 ba ba1 in
    subst F (sym (going.whole ∙ ap (λ ms. going.done ++ ms) none ∙ append-nil going.done)) going.carried

-- a line more that is printed
pub printed-append : (bindings : List Binding) (xs ys : List ℕ) → printed bindings (xs ++ ys) ≡ printed bindings xs ++ printed bindings ys
printed-append bindings [] ys = refl
printed-append bindings (x ∷ xs) ys =
    ap (λ ms. (signed_decimal (value_of bindings x) ++ 10 ∷ []) ++ ms) (printed-append bindings xs ys) ∙ sym (append_assoc (signed_decimal (value_of bindings x) ++ 10 ∷ []) (printed bindings xs) (printed bindings ys))

pub printed_more : (bindings : List Binding) (letters : List ℕ) (index : ℕ) (old mid new : List ℕ) → index < length letters → mid ≡ old ++ printed bindings (take index letters)
    → new ≡ mid ++ (signed_decimal (value_of bindings (get_or letters index 0)) ++ 10 ∷ []) → new ≡ old ++ printed bindings (take (index + 1) letters)
printed_more bindings letters index old mid new h e f =
    let after : suc index ≡ index + 1 = omega arith in
    let line = signed_decimal (value_of bindings (get_or letters index 0)) ++ 10 ∷ [] in
    let lines : printed bindings (take (index + 1) letters) ≡ printed bindings (take index letters) ++ line =
    ap (λ n. printed bindings (take n letters)) (sym after) ∙ ap (printed bindings) (take-suc letters index 0 h)
    ∙ printed-append bindings (take index letters) (get_or letters index 0 ∷ []) ∙ ap (λ ms. printed bindings (take index letters) ++ ms) (append-nil line) in
    f ∙ ap (λ ms. ms ++ line) e ∙ append_assoc old (printed bindings (take index letters)) line ∙ ap (λ ms. old ++ ms) (sym lines)

-- the conversation's bytes, part by part
pub talk_stream : (bindings : List Binding) (letters : List ℕ) → stream (talk bindings letters)
    ≡ stream (exchange bindings 0 question.GetRoot) ++ (stream (exchange bindings 1 question.GetNamespace) ++ (stream (items_from bindings 2 letters) ++ stream (closing (2 + length letters))))
talk_stream bindings letters =
    stream-append (exchange bindings 0 question.GetRoot) (exchange bindings 1 question.GetNamespace ++ (items_from bindings 2 letters ++ closing (2 + length letters)))
    ∙ ap (λ ms. stream (exchange bindings 0 question.GetRoot) ++ ms)
    (stream-append (exchange bindings 1 question.GetNamespace) (items_from bindings 2 letters ++ closing (2 + length letters))
    ∙ ap (λ ms. stream (exchange bindings 1 question.GetNamespace) ++ ms) (stream-append (items_from bindings 2 letters) (closing (2 + length letters))))

pub talk_cut_first : (bindings : List Binding) (letters : List ℕ) (ab ab1 ba ba1 : List ℕ) → CarriesFront (stream (exchange bindings 0 question.GetRoot)) ab ab1 ba ba1 → CarriesFront (stream (talk bindings letters)) ab ab1 ba ba1
talk_cut_first bindings letters ab ab1 ba ba1 h =
    let F : List (Side × ℕ) → Type 0 = λ s. CarriesFront s ab ab1 ba ba1 in
    subst F (sym (talk_stream bindings letters))
    (front_more (stream (exchange bindings 0 question.GetRoot)) (stream (exchange bindings 1 question.GetNamespace) ++ (stream (items_from bindings 2 letters) ++ stream (closing (2 + length letters)))) ab ab1 ba ba1 h)

pub talk_cut_second : (bindings : List Binding) (letters : List ℕ) (ab ab1 ab2 ba ba1 ba2 : List ℕ) → Carries (stream (exchange bindings 0 question.GetRoot)) ab ab1 ba ba1
    → CarriesFront (stream (exchange bindings 1 question.GetNamespace)) ab1 ab2 ba1 ba2 → CarriesFront (stream (talk bindings letters)) ab ab2 ba ba2
talk_cut_second bindings letters ab ab1 ab2 ba ba1 ba2 h k =
    let rest = stream (items_from bindings 2 letters) ++ stream (closing (2 + length letters)) in
    let F : List (Side × ℕ) → Type 0 = λ s. CarriesFront s ab ab2 ba ba2 in
    subst F (sym (talk_stream bindings letters))
    (front_then (stream (exchange bindings 0 question.GetRoot)) (stream (exchange bindings 1 question.GetNamespace) ++ rest) ab ab1 ab2 ba ba1 ba2 h
    (front_more (stream (exchange bindings 1 question.GetNamespace)) rest ab1 ab2 ba1 ba2 k))

-- after the two exchanges that make `conn`
pub talk_cut_later : (bindings : List Binding) (letters : List ℕ) (ab ab1 ab2 ab3 ba ba1 ba2 ba3 : List ℕ) → Carries (stream (exchange bindings 0 question.GetRoot)) ab ab1 ba ba1
    → Carries (stream (exchange bindings 1 question.GetNamespace)) ab1 ab2 ba1 ba2 → CarriesFront (stream (items_from bindings 2 letters) ++ stream (closing (2 + length letters))) ab2 ab3 ba2 ba3
    → CarriesFront (stream (talk bindings letters)) ab ab3 ba ba3
talk_cut_later bindings letters ab ab1 ab2 ab3 ba ba1 ba2 ba3 h k m =
    let rest = stream (items_from bindings 2 letters) ++ stream (closing (2 + length letters)) in
    let F : List (Side × ℕ) → Type 0 = λ s. CarriesFront s ab ab3 ba ba3 in
    subst F (sym (talk_stream bindings letters))
    (front_then (stream (exchange bindings 0 question.GetRoot)) (stream (exchange bindings 1 question.GetNamespace) ++ rest) ab ab1 ab3 ba ba1 ba3 h
    (front_then (stream (exchange bindings 1 question.GetNamespace)) rest ab1 ab2 ab3 ba1 ba2 ba3 k m))

pub talk_whole : (bindings : List Binding) (letters : List ℕ) (ab ab1 ab2 ab3 ba ba1 ba2 ba3 : List ℕ) → Carries (stream (exchange bindings 0 question.GetRoot)) ab ab1 ba ba1
    → Carries (stream (exchange bindings 1 question.GetNamespace)) ab1 ab2 ba1 ba2 → Carries (stream (items_from bindings 2 letters) ++ stream (closing (2 + length letters))) ab2 ab3 ba2 ba3
    → Carries (stream (talk bindings letters)) ab ab3 ba ba3
talk_whole bindings letters ab ab1 ab2 ab3 ba ba1 ba2 ba3 h k m =
    let rest = stream (items_from bindings 2 letters) ++ stream (closing (2 + length letters)) in
    let F : List (Side × ℕ) → Type 0 = λ s. Carries s ab ab3 ba ba3 in
    subst F (sym (talk_stream bindings letters))
    (carries_then (stream (exchange bindings 0 question.GetRoot)) (stream (exchange bindings 1 question.GetNamespace) ++ rest) ab ab1 ab3 ba ba1 ba3 h
    (carries_then (stream (exchange bindings 1 question.GetNamespace)) rest ab1 ab2 ab3 ba1 ba2 ba3 k m))

-- the closing message
pub closing_carried : (seq : ℕ) (ab ab1 ba : List ℕ) → ab1 ≡ ab ++ bytes_of (asks seq question.Close) → Carries (stream (closing seq)) ab ab1 ba ba
closing_carried seq ab ab1 ba e =
    let F : List (Side × ℕ) → Type 0 = λ s. Carries s ab ab1 ba ba in
    subst F (sym (append-nil (sent_by side.A (bytes_of (asks seq question.Close))))) (carries_a (bytes_of (asks seq question.Close)) ab ab1 ba e)

pub closing_part : (seq : ℕ) (ab ab1 ba : List ℕ) → CarriesPart (bytes_of (asks seq question.Close)) ab ab1 → CarriesFront (stream (closing seq)) ab ab1 ba ba
closing_part seq ab ab1 ba h = front_more (sent_by side.A (bytes_of (asks seq question.Close))) [] ab ab1 ba ba (front_a (bytes_of (asks seq question.Close)) ab ab1 ba h)
