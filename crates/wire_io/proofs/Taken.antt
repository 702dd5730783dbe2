-- Two writes one after another are one.
use Rattle.std.proofs.Common.{ℕ, ◌+◌, ◌-◌, ◌≤◌, List, length, take, drop, Option, Some, None, arith}
use Rattle.std.proofs.Math.Seq.{take-add}
use Rattle.std.proofs.lemmas.Grind.{common_steps}
use Rattle.wire_io.specs.Devices.{Wrote}

pub Wrote-more : (a b c : Option (List ℕ)) (text : List ℕ) (n m : ℕ) → n + m ≤ length text → Wrote a (take n text) b
    → Wrote b (take m (take (length text - n) (drop n text))) c → Wrote a (take (n + m) text) c
Wrote-more (Some x) (Some y) (Some z) text n m h f g = rw take-add (grind (arith, common_steps))
Wrote-more None None None text n m h f g = tt
Wrote-more (Some x) (Some y) None text n m h f g = absurd g
Wrote-more (Some x) None c text n m h f g = absurd f
Wrote-more None (Some y) c text n m h f g = absurd f
Wrote-more None None (Some z) text n m h f g = absurd g
