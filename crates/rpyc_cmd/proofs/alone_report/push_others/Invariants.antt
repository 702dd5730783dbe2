use Rattle.std.proofs.Common.{◌≡◌, ◌++◌, codes, drop, map, string_bytes}
use Rattle.py_plain.specs.Printing.{repr_of}
use Rattle.py_strs.specs.Joining.{followed}
use Rattle.rpyc_cmd.proofs.alone_report.push_others.Given as goal

abbrev pub invariant-loop-argument : goal.invariant-loop-argument
invariant-loop-argument l =
    string_bytes l.text ++ followed (codes ", ") (map repr_of (drop l.argument-index l.arguments)) ≡ string_bytes l.initial.text ++ followed (codes ", ") (map repr_of l.arguments)
