use Rattle.std.proofs.Common.{reverse, string_bytes}
use Rattle.language_rules.specs.Output.{prints_further}
use Rattle.print_output.proofs.PieceLaws.{piece_refused, piece_written}
use Rattle.print_output.specs.Printed.{prints_from}
use Rattle.print_output.proofs.printing.print_first.Goals as goal

pub returns-in-Ok-clause-means : goal.returns-in-Ok-clause-means
returns-in-Ok-clause-means c =
    piece_written (prints_from c.args.value (reverse c.args.waiting)) (prints_further (reverse c.args.waiting)) c.in-Ok.field-0 c.go_on.new.stack.items c.args.stack.now.items (string_bytes c.args.printed.now) (string_bytes c.print_plain.new.printed) (string_bytes c.go_on.new.printed) c.print_plain.result c.go_on.result
    (c.print_plain.ensures.prints (prints_further (reverse c.args.waiting))) c.in-Ok.is c.go_on.ensures.means

pub returns-clause-means : goal.returns-clause-means
returns-clause-means c =
    piece_refused (prints_from c.args.value (reverse c.args.waiting)) (prints_further (reverse c.args.waiting)) c.in-Err.end c.args.stack.now.items (string_bytes c.args.printed.now) (string_bytes c.print_plain.new.printed) c.print_plain.result c.finish.result
    (c.print_plain.ensures.prints (prints_further (reverse c.args.waiting))) c.in-Err.is c.finish.ensures.means
