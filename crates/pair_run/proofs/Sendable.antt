-- The messages of this stage have a spelling that a frame can hold, and are read as what was said.
use Rattle.std.proofs.Common.{◌≡◌, ◌∙◌, ℕ, ℤ, ◌^◌, ◌<◌, ◌≤◌, List, [], ◌∷◌, ◌++◌, length, length-append, append-nil, ap, sym, refl, pos, Bool, true, false, ◌&&◌, nat_lt, arith, Some, None, cond, subst}
use Rattle.std.specs.Str.{is_utf8, chars}
use Rattle.std.specs.Fmt.{signed_decimal}
use Rattle.std.proofs.lemmas.Bool.{lt-ltb, eq-eqb}
use lib.Utf8.{encode}
use Rattle.rp_base.specs.declared.plain.Plain.{Plain}
use Rattle.rp_base.specs.declared.plain.Plain.TheVariants as plain
use Rattle.brine_codec.specs.Computing.{brine_computing}
use Rattle.brine_codec.specs.Spelling.{int_spelling, int_tag, is_small_int}
use Rattle.py_ints.specs.IntLaws.{few_bytes}
use Rattle.py_ints.specs.IntTexts.{fits}
use Rattle.message_core.specs.declared.message.Message.{Message}
use Rattle.message_core.specs.declared.message.Message.TheVariants as message
use Rattle.pair_run.specs.declared.messages.Question.{Question}
use Rattle.pair_run.specs.declared.messages.Question.TheVariants as question
use Rattle.pair_run.specs.Messages.{asks, root, namespace, senders, by_value, question_of, reply_value_of, object_in, number_in}
use Rattle.pair_run.specs.Scripts.{IsLetter, IsNumber}
use Rattle.pair_run.specs.declared.scripts.Binding.{Binding}
use Rattle.pair_run.specs.Talk.{IsSendable, IsAnswered, IsAsked, answer, value_of}
use Rattle.pair_run.proofs.Numbers.{all_below, from_all}

small : (n : ℕ) → n < 2 ^ 64 → nat_lt n (2 ^ 127) ≡ true
small n h = lt-ltb n (2 ^ 127) (omega arith)

number_fits : (z : ℤ) → IsNumber z → fits z ≡ true
number_fits z h = ap fits h.1 ∙ lt-ltb h.0 (2 ^ 127) h.2

int_length : (t : Bool) (z : ℤ) → fits z ≡ true → length (cond t (int_tag z ∷ []) (22 ∷ length (signed_decimal z) ∷ signed_decimal z)) ≤ 42
int_length true z h = omega arith
int_length false z h = omega (arith, few_bytes z h)

-- an int takes at most 42 bytes
number_length : (z : ℤ) → fits z ≡ true → length (int_spelling z) ≤ 42
number_length z h = int_length (is_small_int z) z h

-- behind a message's two first bytes stand its number and the rest
short_after : (kind : ℕ) (a b : List ℕ) → length a ≤ 42 → length b ≤ 1000 → length (18 ∷ kind ∷ (a ++ b)) ≤ 67108864
short_after kind a b h k = omega (arith, length-append a b)

letters_are_text : all_below 123 (λ c. is_utf8 (c ∷ [])) ≡ true
unfolding is_utf8 chars encode
letters_are_text = refl

letter_is_text : (c : ℕ) → IsLetter c → is_utf8 (c ∷ []) ≡ true
letter_is_text c h = from_all 123 (λ c. is_utf8 (c ∷ [])) letters_are_text c (omega (arith, h.1))

pub sendable_root : (n : ℕ) → n < 2 ^ 64 → IsSendable (asks n question.GetRoot)
unfolding brine_computing
sendable_root n h = record { numbered = h; spelled = ap (λ b. b && true) (small n h); shallow = omega arith; short = short_after 81 (int_spelling (pos n)) _ (number_length (pos n) (small n h)) (omega arith) }

pub sendable_namespace : (n : ℕ) → n < 2 ^ 64 → IsSendable (asks n question.GetNamespace)
unfolding brine_computing
sendable_namespace n h = record { numbered = h; spelled = ap (λ b. b && true) (small n h); shallow = omega arith; short = short_after 81 (int_spelling (pos n)) _ (number_length (pos n) (small n h)) (omega arith) }

pub sendable_item : (n l : ℕ) → n < 2 ^ 64 → IsLetter l → IsSendable (asks n (question.GetItem l))
unfolding brine_computing
sendable_item n l h k = record {
  numbered = h;
  spelled = rw (small n h, letter_is_text l k) refl;
  shallow = omega arith;
  short = short_after 81 (int_spelling (pos n)) _ (number_length (pos n) (small n h)) (omega arith);
}

pub sendable_close : (n : ℕ) → n < 2 ^ 64 → IsSendable (asks n question.Close)
unfolding brine_computing
sendable_close n h = record { numbered = h; spelled = ap (λ b. b && true) (small n h); shallow = omega arith; short = short_after 81 (int_spelling (pos n)) _ (number_length (pos n) (small n h)) (omega arith) }

pub sendable_root_reply : (n : ℕ) → n < 2 ^ 64 → IsSendable (message.Reply n (senders root))
unfolding brine_computing
sendable_root_reply n h = record { numbered = h; spelled = ap (λ b. b && true) (small n h); shallow = omega arith; short = short_after 82 (int_spelling (pos n)) _ (number_length (pos n) (small n h)) (omega arith) }

pub sendable_namespace_reply : (n : ℕ) → n < 2 ^ 64 → IsSendable (message.Reply n (senders namespace))
unfolding brine_computing
sendable_namespace_reply n h = record { numbered = h; spelled = ap (λ b. b && true) (small n h); shallow = omega arith; short = short_after 82 (int_spelling (pos n)) _ (number_length (pos n) (small n h)) (omega arith) }

int_last : (a : List ℕ) → length a ≤ 42 → length (17 ∷ 81 ∷ (a ++ [] ++ [])) ≤ 1000
int_last a h = let same : length (a ++ [] ++ []) ≡ length a = ap length (append-nil (a ++ []) ∙ append-nil a) in omega arith

pub sendable_number_reply : (n : ℕ) (z : ℤ) → n < 2 ^ 64 → IsNumber z → IsSendable (message.Reply n (by_value (plain.Int z)))
unfolding brine_computing
sendable_number_reply n z h k = record {
  numbered = h;
  spelled = rw (small n h, number_fits z k) refl;
  shallow = omega arith;
  short = short_after 82 (int_spelling (pos n)) _ (number_length (pos n) (small n h)) (int_last (int_spelling z) (number_length z (number_fits z k)));
}

pub asked_is_read : (n : ℕ) (q : Question) → question_of (asks n q) ≡ Some (n, q)
unfolding brine_computing
asked_is_read n question.GetRoot = refl
asked_is_read n question.GetNamespace = refl
asked_is_read n (question.GetItem l) = refl
asked_is_read n question.Close = refl

pub reply_is_read : (n : ℕ) (v : Plain) → reply_value_of n (message.Reply n v) ≡ Some v
reply_is_read n v = ap (λ b. cond b (Some v) None) (eq-eqb n n refl)

pub object_is_read : (p : Plain) → object_in (senders p) ≡ Some p
unfolding brine_computing
object_is_read p = refl

pub number_is_read : (z : ℤ) → number_in (by_value (plain.Int z)) ≡ Some z
unfolding brine_computing
number_is_read z = refl

sendable_question : (bindings : List Binding) (n : ℕ) (q : Question) → IsAnswered bindings q → n < 2 ^ 64 → IsSendable (asks n q)
sendable_question bindings n question.GetRoot h k = sendable_root n k
sendable_question bindings n question.GetNamespace h k = sendable_namespace n k
sendable_question bindings n (question.GetItem l) h k = sendable_item n l k h.0
sendable_question bindings n question.Close h k = absurd h

pub sendable_asked : (bindings : List Binding) (n : ℕ) (m : Message) → IsAsked bindings n m → IsSendable m
sendable_asked bindings n m h = subst IsSendable (sym h.1) (sendable_question bindings n h.0 h.2 h.3)

pub sendable_reply : (bindings : List Binding) (n : ℕ) (q : Question) → IsAnswered bindings q → n < 2 ^ 64 → IsSendable (message.Reply n (answer bindings q))
sendable_reply bindings n question.GetRoot h k = sendable_root_reply n k
sendable_reply bindings n question.GetNamespace h k = sendable_namespace_reply n k
sendable_reply bindings n (question.GetItem l) h k = sendable_number_reply n (value_of bindings l) k h.2
sendable_reply bindings n question.Close h k = absurd h
