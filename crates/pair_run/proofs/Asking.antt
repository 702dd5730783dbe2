-- What the wires carry while one request is asked and answered.
use Rattle.std.proofs.Common.{◌≡◌, ℕ, ◌++◌, List, [], sym, subst, append-nil}
use Rattle.rp_base.specs.declared.ends.Side.{Side}
use Rattle.rp_base.specs.declared.ends.Side.TheVariants as side
use Rattle.message_core.specs.declared.message.Message.{Message}
use Rattle.message_core.specs.declared.message.Message.TheVariants as message
use Rattle.pair_run.specs.declared.messages.Question.{Question}
use Rattle.pair_run.specs.declared.scripts.Binding.{Binding}
use Rattle.pair_run.specs.Messages.{asks}
use Rattle.pair_run.specs.Talk.{answer, exchange, stream, sent_by, bytes_of, Carries, CarriesFront, CarriesPart, IsAsked, IsSendable}
use Rattle.pair_run.proofs.Sendable.{sendable_reply}
use Rattle.pair_run.proofs.Traffic.{carries_a, carries_b, carries_then, front_a, front_b, front_then, front_more, front_of_whole}

pub asked_part : (p r : Message) (ab ab1 ba : List ℕ) → CarriesPart (bytes_of p) ab ab1 → CarriesFront (sent_by side.A (bytes_of p) ++ (sent_by side.B (bytes_of r) ++ [])) ab ab1 ba ba
asked_part p r ab ab1 ba h = front_more (sent_by side.A (bytes_of p)) (sent_by side.B (bytes_of r) ++ []) ab ab1 ba ba (front_a (bytes_of p) ab ab1 ba h)

pub asked_whole : (p r : Message) (ab ab1 ba : List ℕ) → ab1 ≡ ab ++ bytes_of p → CarriesFront (sent_by side.A (bytes_of p) ++ (sent_by side.B (bytes_of r) ++ [])) ab ab1 ba ba
asked_whole p r ab ab1 ba h = front_of_whole (sent_by side.A (bytes_of p)) (sent_by side.B (bytes_of r) ++ []) ab ab1 ba ba (carries_a (bytes_of p) ab ab1 ba h)

pub replied_part : (p r : Message) (ab ab1 ba ba1 : List ℕ) → ab1 ≡ ab ++ bytes_of p → CarriesPart (bytes_of r) ba ba1 → CarriesFront (sent_by side.A (bytes_of p) ++ (sent_by side.B (bytes_of r) ++ [])) ab ab1 ba ba1
replied_part p r ab ab1 ba ba1 h k =
    front_then (sent_by side.A (bytes_of p)) (sent_by side.B (bytes_of r) ++ []) ab ab1 ab1 ba ba ba1 (carries_a (bytes_of p) ab ab1 ba h)
    (front_more (sent_by side.B (bytes_of r)) [] ab1 ab1 ba ba1 (front_b (bytes_of r) ab1 ba ba1 k))

pub replied_whole : (p r : Message) (ab ab1 ba ba1 : List ℕ) → ab1 ≡ ab ++ bytes_of p → ba1 ≡ ba ++ bytes_of r → Carries (sent_by side.A (bytes_of p) ++ (sent_by side.B (bytes_of r) ++ [])) ab ab1 ba ba1
replied_whole p r ab ab1 ba ba1 h k =
    carries_then (sent_by side.A (bytes_of p)) (sent_by side.B (bytes_of r) ++ []) ab ab1 ab1 ba ba ba1 (carries_a (bytes_of p) ab ab1 ba h)
    (let C : List (Side × ℕ) → Type 0 = λ s. Carries s ab1 ab1 ba ba1 in subst C (sym (append-nil (sent_by side.B (bytes_of r)))) (carries_b (bytes_of r) ab1 ba ba1 k))

pub replied_front : (p r : Message) (ab ab1 ba ba1 : List ℕ) → ab1 ≡ ab ++ bytes_of p → ba1 ≡ ba ++ bytes_of r → CarriesFront (sent_by side.A (bytes_of p) ++ (sent_by side.B (bytes_of r) ++ [])) ab ab1 ba ba1
replied_front p r ab ab1 ba ba1 h k =
    (sent_by side.A (bytes_of p) ++ (sent_by side.B (bytes_of r) ++ []), [], sym (append-nil (sent_by side.A (bytes_of p) ++ (sent_by side.B (bytes_of r) ++ []))), replied_whole p r ab ab1 ba ba1 h k)

-- the messages are those of an exchange
pub in_exchange : (F : List (Side × ℕ) → Type 0) (bindings : List Binding) (seq : ℕ) (q : Question) (p r : Message) → p ≡ asks seq q → r ≡ message.Reply seq (answer bindings q)
    → F (sent_by side.A (bytes_of p) ++ (sent_by side.B (bytes_of r) ++ [])) → F (stream (exchange bindings seq q))
in_exchange F bindings seq q p r e f h =
    let G : Message → Type 0 = λ m. F (sent_by side.A (bytes_of m) ++ (sent_by side.B (bytes_of (message.Reply seq (answer bindings q))) ++ [])) in
    let H : Message → Type 0 = λ m. F (sent_by side.A (bytes_of p) ++ (sent_by side.B (bytes_of m) ++ [])) in
    subst G e (subst H f h)

-- the reply of a request that B answers can be sent
pub reply_sendable : (bindings : List Binding) (seq : ℕ) (p r : Message) (h : IsAsked bindings seq p) → r ≡ message.Reply seq (answer bindings h.0) → IsSendable r
reply_sendable bindings seq p r h e = subst IsSendable (sym e) (sendable_reply bindings seq h.0 h.2 h.3)
