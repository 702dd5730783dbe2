use Rattle.std.proofs.Common.{◌≡◌, ◌++◌, ◌<◌, length, map, drop, string_bytes}
use Rattle.rp_base.specs.Values.{heaviest_value}
use Rattle.py_strs.specs.Joining.{followed, joined}
use Rattle.py_strs.proofs.joining.join_texts.Given as goal

abbrev pub invariant-loop-part : goal.invariant-loop-part
invariant-loop-part l =
    (string_bytes l.text ++ followed l.sep (map string_bytes (drop l.part-index l.others)) ≡ joined l.sep (map string_bytes l.initial.parts))
    × (length (string_bytes l.text) < heaviest_value)
