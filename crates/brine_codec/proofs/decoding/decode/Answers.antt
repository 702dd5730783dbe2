use Rattle.std.proofs.Common.{sym, ap, Err, length}
use Rattle.std.proofs.lemmas.Bool.{eqb-true, eqb-false}
use Rattle.std.proofs.lemmas.List.{nil_from_length}
use Rattle.brine_codec.proofs.Whole.{all_found, stopped, trailing, refuses}
use Rattle.brine_codec.proofs.decoding.decode.Goals as goal

pub returns-in-Err-clause-refused : goal.returns-in-Err-clause-refused
returns-in-Err-clause-refused c =
    refuses (Err c.in_input.result) c.args.bytes.now (rw c.in_input.ensures (stopped c.args.bytes.now c.in-Err.stop c.in-Err.ensures))

pub returns-then-not-is_empty-clause-refused : goal.returns-then-not-is_empty-clause-refused
returns-then-not-is_empty-clause-refused c =
    refuses (Err c.in_input-then-not-is_empty.result) c.args.bytes.now
    (rw c.in_input-then-not-is_empty.ensures
    (trailing c.args.bytes.now c.in-Ok.read.0 c.in-Ok.read.1.now c.in-Ok.ensures (λ e. eqb-false (length c.in-Ok.read.1.now) 0 (sym c.if-not-is_empty.ensures) (ap length e))))

pub returns-clause-found : goal.returns-clause-found
returns-clause-found c =
    all_found c.args.bytes.now c.in-Ok.read.0 c.in-Ok.read.1.now (λ i. (c.type_inv.bytes i).fits) c.in-Ok.ensures
    (nil_from_length c.in-Ok.read.1.now (eqb-true (length c.in-Ok.read.1.now) 0 (sym c.if-not-is_empty.ensures)))
