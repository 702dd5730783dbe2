use Rattle.std.proofs.Common.{List}
use Rattle.py_grammar.specs.Traces.{Event, tracing}
use Rattle.py_grammar.proofs.TextLaws.{has-one-tree}
use Rattle.py_grammar.proofs.laws.a_text_has_one_tree.Goals as goal

pub returns : goal.returns
returns c = λ tests. has-one-tree (List Event) (tracing tests)
