use Rattle.std.proofs.Common.{◌≡◌, drop}
use Rattle.py_ast.specs.Builtins.{first_named}
use Rattle.py_ast.proofs.builtin.first_named.Given as goal

abbrev pub invariant-loop-builtin : goal.invariant-loop-builtin
invariant-loop-builtin l = first_named l.builtins l.name ≡ first_named (drop l.builtin-index l.builtins) l.name
