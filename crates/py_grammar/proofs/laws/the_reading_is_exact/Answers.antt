use Rattle.std.proofs.Common.{List}
use Rattle.py_grammar.specs.Traces.{Event, tracing}
use Rattle.py_grammar.proofs.TextLaws.{reads-exactly}
use Rattle.py_grammar.proofs.laws.the_reading_is_exact.Goals as goal

pub returns : goal.returns
returns c = λ tests. reads-exactly (List Event) (tracing tests)
