use Rattle.std.proofs.Common.{ℕ, ◌<◌, length, ap, sym, subst, ◌∙◌}
use Rattle.channel_frames.specs.declared.fault.FrameFault.TheVariants as frame_fault
use Rattle.std.proofs.lemmas.Bool.{eqb-true}
use Rattle.channel_frames.specs.Streams.{frames, left}
use Rattle.channel_frames.proofs.Dividing.{left-last, left-next, left-told, some-left}
use Rattle.channel_frames.proofs.deframer.Deframer.finish.Goals as goal

pub frames-preserved : goal.frames-preserved
frames-preserved c = left-next (left (frames c.args.self.now).1) c.frames.rest.now c.in-Ok-Some.field-0 c.in-Ok-Some.length c.in-Ok-Some.field-0-is c.in-Ok-Some.ensures c.frames.invariant

pub returns-in-Err-clause-ends : goal.returns-in-Err-clause-ends
returns-in-Err-clause-ends c = c.frames.invariant ∙ left-told c.frames.rest.now c.in-Err.field-0 c.in-Err.ensures

pub returns-then-is_empty-clause-ends : goal.returns-then-is_empty-clause-ends
returns-then-is_empty-clause-ends c =
    let is = left-last (left (frames c.args.self.now).1) c.frames.rest.now c.in-Ok-None.field-0 c.in-Ok-None.field-0-is c.in-Ok-None.ensures c.frames.invariant in
    let none = eqb-true (length c.frames.rest.now) 0 (sym c.if-is_empty.ensures) in
    is ∙ none

pub returns-clause-cut : goal.returns-clause-cut
returns-clause-cut c =
    let is = left-last (left (frames c.args.self.now).1) c.frames.rest.now c.in-Ok-None.field-0 c.in-Ok-None.field-0-is c.in-Ok-None.ensures c.frames.invariant in
    let some : 0 < length c.frames.rest.now = some-left c.frames.rest.now (sym c.if-is_empty.ensures) in
    (subst (λ (n : ℕ). 0 < n) (sym is) some, ap (λ (n : ℕ). frame_fault.F5 n) (sym is))
