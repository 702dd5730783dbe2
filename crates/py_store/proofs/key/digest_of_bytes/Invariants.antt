use Rattle.std.proofs.Common.{◌≡◌, take}
use Rattle.py_store.specs.Digests.{mixed_all}
use Rattle.py_store.proofs.key.digest_of_bytes.Given as goal

abbrev pub invariant-loop-byte : goal.invariant-loop-byte
invariant-loop-byte l = l.hash ≡ mixed_all l.kind (take l.byte-index l.bytes)
