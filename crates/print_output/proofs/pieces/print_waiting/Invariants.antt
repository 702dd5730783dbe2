use Rattle.std.proofs.Common.{length, reverse, string_bytes}
use Rattle.language_rules.specs.Output.{prints_further}
use Rattle.print_output.specs.Printed.{RunsOn}
use Rattle.print_output.proofs.pieces.print_waiting.Given as goal

abbrev pub invariant-values : goal.invariant-values
invariant-values l = RunsOn (prints_further (reverse l.initial.waiting)) (string_bytes l.initial.printed) (prints_further (reverse l.waiting)) (string_bytes l.printed)

abbrev pub decreases-values : goal.decreases-values
decreases-values l = length l.waiting
