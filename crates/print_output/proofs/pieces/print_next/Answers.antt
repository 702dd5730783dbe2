use Rattle.std.proofs.Common.{string_bytes}
use Rattle.print_output.proofs.PieceLaws.{spaced}
use Rattle.print_output.proofs.pieces.print_next.Goals as goal

pub returns-in-Ok : goal.returns-in-Ok
returns-in-Ok c = record {
  prints = spaced c.args.value _ (string_bytes c.args.printed.now) (string_bytes c.write_piece.new.printed) (string_bytes c.print_or_leave.new.printed) c.write_piece.result c.print_or_leave.result
      c.write_piece.ensures.prints c.in-Ok.is c.print_or_leave.ensures.prints;
}
