use Rattle.std.proofs.Common.{length, refl, inl}
use Rattle.channel_frames.proofs.Judging.{refused}
use Rattle.channel_frames.proofs.framing.frame.Goals as goal

pub returns-then-body-gt-LONGEST-clause-cause : goal.returns-then-body-gt-LONGEST-clause-cause
returns-then-body-gt-LONGEST-clause-cause c = inl (c.if-body-gt-LONGEST.true, refl)

pub returns-in_err-reserve-clause-cause : goal.returns-in_err-reserve-clause-cause
returns-in_err-reserve-clause-cause c = refused (length c.args.body.now) c.from_residual.result c.if-body-gt-LONGEST.false c.from_residual.ensures.1
