use Rattle.std.proofs.Common.{◌≡◌, ◌≤◌, ◌++◌, length, map, take, codes, string_bytes}
use Rattle.py_strs.specs.Joining.{joined}
use Rattle.py_plain.specs.Printing.{repr_of}
use Rattle.py_plain.proofs.repr.+printing.Given as goal

abbrev pub invariant-put_items-loop-i : goal.invariant-put_items-loop-i
invariant-put_items-loop-i l =
    (length (string_bytes l.out) ≤ l.most) × (string_bytes l.out ≡ string_bytes l.fn.out ++ joined (codes ", ") (map repr_of (take l.i l.items)))
