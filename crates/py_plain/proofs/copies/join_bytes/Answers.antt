use Rattle.std.proofs.Common.{rules, ◌≡◌, ◌++◌, ap}
use Rattle.rp_base.specs.declared.plain.Plain.TheVariants as plain
use Rattle.py_plain.proofs.Weights.{passes, keeps, bytes_weigh, is_heavy}
use Rattle.py_plain.proofs.copies.join_bytes.Goals as goal

pub returns-in_err-judge : goal.returns-in_err-judge
returns-in_err-judge c =
    passes _ _ c.in_err-judge.field-0.0 c.from_residual.result (ap is_heavy (bytes_weigh c.args.s.now c.args.t.now)) (rw (← c.len.ensures, ← c.len-2.ensures) c.in_err-judge.ensures) c.from_residual.ensures.1

pub returns : goal.returns
returns c =
    let made : c.from_vec.result ≡ c.args.s.now ++ c.args.t.now = search rules in
    keeps _ _ _ c.in_ok-judge.field-0 (ap is_heavy (bytes_weigh c.args.s.now c.args.t.now)) (rw (← c.len.ensures, ← c.len-2.ensures) c.in_ok-judge.ensures) (ap plain.Bytes made)
