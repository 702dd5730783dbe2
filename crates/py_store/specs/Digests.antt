-- A number that equal keys share.
use Rattle.std.specs.Prelude.{ℕ, ℤ, ◌+◌, ◌*◌, ◌%◌, ◌^◌, List, fold, unsigned_abs}
use Rattle.rp_base.specs.declared.plain.Plain.{Plain}
use Rattle.rp_base.specs.declared.plain.Plain.TheOpen.{Plain-F}
use Rattle.rp_base.specs.PlainValues.{as_int, gather}

-- one number more, in 64 bits
abbrev pub mixed : ℕ → ℕ → ℕ
mixed n d = ((n * 1099511628211) % 2 ^ 64 + d) % 2 ^ 64

-- all of these numbers, behind a number for their kind
abbrev pub mixed_all : ℕ → List ℕ → ℕ
mixed_all kind ds = fold mixed kind ds

-- the last 64 bits of its distance from 0
abbrev pub int_digest : ℤ → ℕ
int_digest n = unsigned_abs n % 2 ^ 64

-- A bool digests as its int, a text or a byte string by its bytes, and a tuple by its items.
abbrev pub digest_step : Plain-F ℕ → ℕ
digest_step Plain-F.None = 1
digest_step (Plain-F.Bool b) = int_digest (as_int b)
digest_step (Plain-F.Int n) = int_digest n
digest_step (Plain-F.Text t) = mixed_all 2 t
digest_step (Plain-F.Bytes b) = mixed_all 3 b
digest_step Plain-F.NotImpl = 4
digest_step Plain-F.Ellipsis = 5
digest_step (Plain-F.Tuple ds) = mixed_all 6 ds

unfoldable pub digest : Plain → ℕ
digest = gather ℕ digest_step
