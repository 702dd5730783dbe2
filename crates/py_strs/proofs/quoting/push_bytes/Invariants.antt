use Rattle.std.proofs.Common.{◌≡◌, ◌++◌, take, string_bytes, encode_utf8}
use Rattle.std.specs.List.{flat_map}
use Rattle.py_strs.specs.QuotingForms.{byte_piece}
use Rattle.py_strs.proofs.quoting.push_bytes.Given as goal

abbrev pub invariant-loop-byte : goal.invariant-loop-byte
invariant-loop-byte l =
    string_bytes l.out ≡ (string_bytes l.fn.out ++ (encode_utf8 0x62 ++ encode_utf8 l.quote)) ++ flat_map (byte_piece l.quote) (take l.byte-index l.b)
