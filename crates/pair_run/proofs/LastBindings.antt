-- The last binding of each letter, and what a pair makes of it.
use Rattle.std.proofs.Common.{◌≡◌, ◌∙◌, ap, sym, refl, subst, ℕ, ℤ, ◌+◌, ◌-◌, ◌<◌, ◌==◌, Bool, true, false, cond, List, [], ◌∷◌, ◌++◌, length, drop, reverse, find, option_map, is_some, Option, Some, None, arith, suc, pos, get_or, unwrap_or, All, IsSome, inl, inr, take}
use Rattle.std.proofs.lemmas.Bool.{eqb-true}
use Rattle.std.proofs.lemmas.List.{reverse-append}
use Rattle.std.proofs.lemmas.List.Folds.{find-append}
use Rattle.std.proofs.Math.Seq.{drop-cons}
use Rattle.std.specs.Option.{option_or}
use Rattle.std.specs.Fmt.{signed_decimal}
use Rattle.rp_base.specs.declared.ends.Side.{Side}
use Rattle.rp_base.specs.declared.ends.Side.TheVariants as side
use Rattle.rp_base.specs.declared.plain.Plain.TheVariants as plain
use Rattle.message_core.specs.declared.message.Message.{Message}
use Rattle.message_core.specs.declared.message.Message.TheVariants as message
use Rattle.pair_run.specs.declared.messages.Question.{Question}
use Rattle.pair_run.specs.declared.messages.Question.TheVariants as question
use Rattle.pair_run.specs.declared.scripts.Binding.{Binding}
use Rattle.pair_run.specs.Messages.{asks, by_value}
use Rattle.pair_run.specs.Scripts.{number_of, Agrees, IsNumber, IsFirstUnbound}
use Rattle.pair_run.specs.Talk.{value_of, answer, exchange, items_from, closing, talk, stream, printed, AreAnswered, CarriesFront}
use Rattle.pair_run.specs.Running.{Wires, CutAfter, IsCutRun}

abbrev is_of : ℕ → Binding → Bool
is_of letter b = b.letter == letter

abbrev number : Option Binding → Option ℤ
number = option_map (λ b. b.number)

-- a binding behind the others counts before them
last_counts : (xs : List Binding) (b : Binding) (letter : ℕ) → number_of (xs ++ b ∷ []) letter ≡ number (cond (is_of letter b) (Some b) (find (is_of letter) (reverse xs)))
last_counts xs b letter = ap (λ ys. number (find (is_of letter) ys)) (reverse-append xs (b ∷ []))

-- a binding in front of the others counts after them
first_counts : (xs : List Binding) (b : Binding) (letter : ℕ) → number_of (b ∷ xs) letter ≡ number (option_or (find (is_of letter) (reverse xs)) (cond (is_of letter b) (Some b) None))
first_counts xs b letter =
    ap (λ ys. number (find (is_of letter) ys)) (reverse-append (b ∷ []) xs) ∙ ap number (find-append (is_of letter) (reverse xs) (b ∷ []))

found : (o : Option Binding) (p : Option Binding) (n : Option ℤ) → number o ≡ n → is_some n ≡ true → number (option_or o p) ≡ n
found None p n e h = let none : n ≡ None = sym e in let wrong : is_some n ≡ false = ap is_some none in cc
found (Some b) p n e h = e

missing : (o : Option Binding) (p : Option Binding) → is_some (number o) ≡ false → number (option_or o p) ≡ number p
missing None p h = refl
missing (Some b) p h = cc

-- at a letter of which the binding is not
passed : (o : Option Binding) → option_or o None ≡ o
passed None = refl
passed (Some b) = refl

added_at : (t : Bool) (ns xs : List Binding) (b : Binding) (letter : ℕ) → is_of letter b ≡ t → Agrees ns xs → is_some (number_of ns b.letter) ≡ false
    → number (cond t (Some b) (find (is_of letter) (reverse ns))) ≡ number (option_or (find (is_of letter) (reverse xs)) (cond t (Some b) None))
added_at true ns xs b letter e h new =
    let same : b.letter ≡ letter = eqb-true b.letter letter e in
    let F : ℕ → Type 0 = λ l. is_some (number_of ns l) ≡ false in
    let none : is_some (number_of xs letter) ≡ false = ap is_some (sym (h letter)) ∙ subst F same new in
    sym (missing (find (is_of letter) (reverse xs)) (Some b) none)
added_at false ns xs b letter e h new = h letter ∙ ap number (sym (passed (find (is_of letter) (reverse xs))))

pub added : (ns xs : List Binding) (b : Binding) → Agrees ns xs → is_some (number_of ns b.letter) ≡ false → Agrees (ns ++ b ∷ []) (b ∷ xs)
added ns xs b h new = λ letter. last_counts ns b letter ∙ added_at (is_of letter b) ns xs b letter refl h new ∙ sym (first_counts xs b letter)

left_at : (t : Bool) (ns xs : List Binding) (b : Binding) (letter : ℕ) → is_of letter b ≡ t → Agrees ns xs → is_some (number_of ns b.letter) ≡ true
    → number_of ns letter ≡ number (option_or (find (is_of letter) (reverse xs)) (cond t (Some b) None))
left_at true ns xs b letter e h old =
    let same : b.letter ≡ letter = eqb-true b.letter letter e in
    let F : ℕ → Type 0 = λ l. is_some (number_of ns l) ≡ true in
    sym (found (find (is_of letter) (reverse xs)) (Some b) (number_of ns letter) (sym (h letter)) (subst F same old))
left_at false ns xs b letter e h old = h letter ∙ ap number (sym (passed (find (is_of letter) (reverse xs))))

pub left_out : (ns xs : List Binding) (b : Binding) → Agrees ns xs → is_some (number_of ns b.letter) ≡ true → Agrees ns (b ∷ xs)
left_out ns xs b h old = λ letter. left_at (is_of letter b) ns xs b letter refl h old ∙ sym (first_counts xs b letter)

-- one binding more from the end
pub one_more : (xs : List Binding) (i : ℕ) (d : Binding) → i < length xs → get_or xs (length xs - 1 - i) d ∷ drop (length xs - i) xs ≡ drop (length xs - (i + 1)) xs
one_more xs i d h =
    let at : length xs - 1 - i < length xs = omega arith in
    let next : suc (length xs - 1 - i) ≡ length xs - i = omega arith in
    let place : length xs - 1 - i ≡ length xs - (i + 1) = omega arith in
    sym (ap (λ k. drop k xs) (sym place) ∙ drop-cons xs (length xs - 1 - i) d at ∙ ap (λ k. get_or xs (length xs - 1 - i) d ∷ drop k xs) next)

-- ---- what a pair makes of it

value_same : (ns bs : List Binding) (letter : ℕ) → Agrees ns bs → value_of ns letter ≡ value_of bs letter
value_same ns bs letter h = ap (λ o. unwrap_or o (pos 0)) (h letter)

answer_same : (ns bs : List Binding) (q : Question) → Agrees ns bs → answer ns q ≡ answer bs q
answer_same ns bs question.GetRoot h = refl
answer_same ns bs question.GetNamespace h = refl
answer_same ns bs (question.GetItem letter) h = ap (λ z. by_value (plain.Int z)) (value_same ns bs letter h)
answer_same ns bs question.Close h = refl

exchange_same : (ns bs : List Binding) (seq : ℕ) (q : Question) → Agrees ns bs → exchange ns seq q ≡ exchange bs seq q
exchange_same ns bs seq q h = ap (λ v. (side.A, asks seq q) ∷ (side.B, message.Reply seq v) ∷ []) (answer_same ns bs q h)

items_same : (ns bs : List Binding) (seq : ℕ) (letters : List ℕ) → Agrees ns bs → items_from ns seq letters ≡ items_from bs seq letters
items_same ns bs seq [] h = refl
items_same ns bs seq (letter ∷ letters) h =
    ap (λ ms. ms ++ items_from ns (seq + 1) letters) (exchange_same ns bs seq (question.GetItem letter) h) ∙ ap (λ ms. exchange bs seq (question.GetItem letter) ++ ms) (items_same ns bs (seq + 1) letters h)

pub talk_same : (ns bs : List Binding) (letters : List ℕ) → Agrees ns bs → talk ns letters ≡ talk bs letters
talk_same ns bs letters h =
    ap (λ ms. exchange ns 0 question.GetRoot ++ (exchange ns 1 question.GetNamespace ++ (ms ++ closing (2 + length letters)))) (items_same ns bs 2 letters h)

pub printed_same : (ns bs : List Binding) (letters : List ℕ) → Agrees ns bs → printed ns letters ≡ printed bs letters
printed_same ns bs [] h = refl
printed_same ns bs (letter ∷ letters) h =
    ap (λ z. (signed_decimal z ++ 10 ∷ []) ++ printed ns letters) (value_same ns bs letter h) ∙ ap (λ ms. (signed_decimal (value_of bs letter) ++ 10 ∷ []) ++ ms) (printed_same ns bs letters h)

pub answered_same : (ns bs : List Binding) (letters : List ℕ) → Agrees ns bs → AreAnswered bs letters → AreAnswered ns letters
answered_same ns bs letters h a =
    λ k d l. let letter : ℕ = get_or letters k d in ((a k d l).0, subst IsSome (sym (h letter)) (a k d l).1, subst IsNumber (sym (value_same ns bs letter h)) (a k d l).2)

pub bound_same : (ns bs : List Binding) (letters : List ℕ) → Agrees ns bs → All (λ c. IsSome (number_of ns c)) letters → All (λ c. IsSome (number_of bs c)) letters
bound_same ns bs letters h all = λ k d l. subst IsSome (h (get_or letters k d)) (all k d l)

pub unbound_same : (ns bs : List Binding) (letters : List ℕ) (line : ℕ) → Agrees ns bs → IsFirstUnbound ns letters line → IsFirstUnbound bs letters line
unbound_same ns bs letters line h u = record {
  before = u.before;
  letter = u.letter;
  after = u.after;
  asked = u.asked;
  bound = bound_same ns bs u.before h u.bound;
  place = u.place;
  unbound = sym (h u.letter) ∙ u.unbound;
}

pub cut_same : (ns bs : List Binding) (letters : List ℕ) (old new : Wires) → Agrees ns bs → IsCutRun ns letters old new → IsCutRun bs letters old new
cut_same ns bs letters old new h (inl u) = inl u
cut_same ns bs letters old new h (inr c) =
    let F : List (Side × Message) → Type 0 = λ ms. CarriesFront (stream ms) old.ab.carried new.ab.carried old.ba.carried new.ba.carried in
    inr (c.0, subst F (talk_same ns bs letters h) c.1)

pub cut_after_same : (ns bs : List Binding) (letters out out_new : List ℕ) (old new : Wires) → Agrees ns bs → CutAfter ns letters out out_new old new → CutAfter bs letters out out_new old new
cut_after_same ns bs letters out out_new old new h (inl u) = inl u
cut_after_same ns bs letters out out_new old new h (inr c) =
    let F : List (Side × Message) → Type 0 = λ ms. CarriesFront (stream ms) old.ab.carried new.ab.carried old.ba.carried new.ba.carried in
    inr ((c.0.0, subst F (talk_same ns bs letters h) c.0.1), (c.1.0, c.1.1 ∙ ap (λ ms. out ++ ms) (printed_same ns bs (take c.1.0 letters) h)))
