use Rattle.std.proofs.Common.{List}
use Rattle.py_grammar.specs.Traces.{Event, tracing}
use Rattle.py_grammar.proofs.TextLaws.{stops-inside}
use Rattle.py_grammar.proofs.laws.a_text_is_read_or_refused.Goals as goal

pub returns : goal.returns
returns c = λ tests. stops-inside (List Event) (tracing tests)
