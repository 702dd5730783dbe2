use Rattle.std.proofs.Common.{List}
use Rattle.py_grammar.specs.Traces.{Event, tracing}
use Rattle.py_grammar.proofs.TextLaws.{pieces-agree}
use Rattle.py_grammar.proofs.laws.pieces_are_the_same.Goals as goal

pub returns : goal.returns
returns c = λ tests. pieces-agree (List Event) (tracing tests)
