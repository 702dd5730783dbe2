use Rattle.std.proofs.Common.{◌≡◌, ◌++◌, string_bytes, encode_utf8}
use Rattle.std.specs.List.{flat_map}
use Rattle.py_strs.specs.QuotingForms.{piece}
use Rattle.py_strs.proofs.quoting.push_text.Given as goal

abbrev pub invariant-loop-c : goal.invariant-loop-c
invariant-loop-c l =
    string_bytes l.out ≡ (string_bytes l.fn.out ++ encode_utf8 l.quote) ++ flat_map (piece l.quote) l.yielded
