use Rattle.std.proofs.Common.{◌≡◌, take}
use Rattle.language_rules.specs.Draining.{ints_of_bytes}
use Rattle.builtin_functions.proofs.items.ints.Given as goal

abbrev pub invariant-loop-byte : goal.invariant-loop-byte
invariant-loop-byte l = l.items ≡ ints_of_bytes (take l.byte-index l.bytes)
