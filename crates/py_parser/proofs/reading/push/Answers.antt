use Rattle.std.proofs.Common.{◌++◌}
use Rattle.py_grammar.specs.Writing.{deeper}
use Rattle.py_parser.specs.Rows.{symbols_of}
use Rattle.py_parser.proofs.StackLaws.{pushed}
use Rattle.py_parser.proofs.reading.push.Goals as goal

pub loop-part-preserved : goal.loop-part-preserved
loop-part-preserved c =
    pushed c.args.level c.next.new.self.iter.rest.now c.loop-part.part-iterator.iter.rest.now c.in-Some.part.now c.symbol_at.result c.loop-part.stack c.push.new.self
    (deeper c.args.level (symbols_of c.args.parts.now) ++ c.args.stack.now) c.symbol_at.ensures c.in-Some.ensures.steps (c.in_ok-push.ensures.ok) c.loop-part.invariant
