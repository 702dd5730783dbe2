use Rattle.std.proofs.Common.{List}
use Rattle.py_grammar.specs.Traces.{Event, tracing}
use Rattle.py_grammar.proofs.TextLaws.{refuses-exactly}
use Rattle.py_grammar.proofs.laws.refusals_are_exact.Goals as goal

pub returns : goal.returns
returns c = λ tests. refuses-exactly (List Event) (tracing tests)
