-- Which static rule a script breaks first, and what it is where it breaks none.
use Rattle.std.specs.Prelude.{◌≡◌, List, [], ◌++◌, Result, Ok, Err}
use Rattle.rp_base.specs.declared.rules.Refused.{Refused}
use Rattle.py_ast.specs.declared.program.Program.{Program}
use Rattle.py_mentions.specs.Worst.{IsWorst}
use Rattle.py_mentions.specs.Walks.{broken_in, mentions_in}
use Rattle.py_scope.specs.declared.ending.AcceptEnd.{AcceptEnd}
use Rattle.py_scope.specs.declared.ending.AcceptEnd.TheVariants as ends
use Rattle.py_scope.specs.Rules.{broken_names}
use Rattle.py_scope.specs.Finished.{finished}

-- the lines and rules at which a script breaks a static rule
abbrev pub broken : Program → List Refused
broken p = broken_in p ++ broken_names (mentions_in p) p.functions

-- no rule is broken, and the script comes with what its functions keep; else the first that is broken
abbrev pub Judged : Program → Result Program AcceptEnd → Type 0
Judged p (Ok q) = (broken p ≡ []) × (q ≡ finished (mentions_in p) p)
Judged p (Err (ends.Refused r)) = IsWorst (broken p) r
Judged p (Err ends.NoMemory) = Unit {0}
