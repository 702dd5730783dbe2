use Rattle.std.proofs.Common.{List}
use Rattle.py_grammar.specs.Traces.{Event, tracing}
use Rattle.py_grammar.proofs.TextLaws.{tells-the-rule}
use Rattle.py_grammar.proofs.laws.other_limits_tell_the_rule.Goals as goal

pub returns : goal.returns
returns c = λ tests. tells-the-rule (List Event) (tracing tests)
