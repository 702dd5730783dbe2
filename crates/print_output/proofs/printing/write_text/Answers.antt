use Rattle.std.proofs.Common.{reverse, string_bytes}
use Rattle.language_rules.specs.Output.{prints_further, writes}
use Rattle.print_output.proofs.PieceLaws.{piece_refused, piece_written}
use Rattle.print_output.proofs.printing.write_text.Goals as goal

pub returns-in-Ok-clause-means : goal.returns-in-Ok-clause-means
returns-in-Ok-clause-means c =
    piece_written (writes c.args.text.now (prints_further (reverse c.args.waiting))) (prints_further (reverse c.args.waiting)) c.in-Ok.field-0 c.go_on.new.stack.items c.args.stack.now.items (string_bytes c.args.printed.now) (string_bytes c.write_piece.new.printed) (string_bytes c.go_on.new.printed) c.write_piece.result c.go_on.result
    (c.write_piece.ensures.prints (prints_further (reverse c.args.waiting))) c.in-Ok.is c.go_on.ensures.means

pub returns-in-Err-clause-means : goal.returns-in-Err-clause-means
returns-in-Err-clause-means c =
    piece_refused (writes c.args.text.now (prints_further (reverse c.args.waiting))) (prints_further (reverse c.args.waiting)) c.in-Err.end c.args.stack.now.items (string_bytes c.args.printed.now) (string_bytes c.write_piece.new.printed) c.write_piece.result c.finish.result
    (c.write_piece.ensures.prints (prints_further (reverse c.args.waiting))) c.in-Err.is c.finish.ensures.means
