use Rattle.std.proofs.Common.{◌≡◌, ◌+◌, length, take}
use Rattle.std.specs.List.{flat_map}
use Rattle.py_strs.specs.QuotingForms.{byte_piece}
use Rattle.py_strs.proofs.quoting.bytes_fit.Given as goal

abbrev pub invariant-loop-byte : goal.invariant-loop-byte
invariant-loop-byte l = l.left + (3 + length (flat_map (byte_piece l.quote) (take l.byte-index l.b))) ≡ l.room
