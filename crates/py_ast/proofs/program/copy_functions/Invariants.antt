use Rattle.std.proofs.Common.{◌≡◌, take}
use Rattle.py_ast.proofs.program.copy_functions.Given as goal

abbrev pub invariant-loop-function : goal.invariant-loop-function
invariant-loop-function l = l.all ≡ take l.function-index l.functions
