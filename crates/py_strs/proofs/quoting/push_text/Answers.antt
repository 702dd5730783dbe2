use Rattle.std.proofs.Common.{string_bytes, encode_utf8}
use Rattle.std.proofs.lemmas.Iterator.{YieldsList-from_chars}
use Rattle.std.proofs.lemmas.Iterator.Consumers.{YieldsList-end}
use Rattle.std.specs.List.{flat_map}
use Rattle.py_strs.specs.QuotingForms.{piece}
use Rattle.py_strs.proofs.Pieces.{begins_still, text-written}
use Rattle.py_strs.proofs.quoting.push_text.Goals as goal

pub returns-in_err-push-2-clause-kept : goal.returns-in_err-push-2-clause-kept
returns-in_err-push-2-clause-kept c =
    begins_still (string_bytes c.args.out.now) (encode_utf8 c.args.quote) (flat_map (piece c.args.quote) c.loop-c.yielded) (string_bytes c.loop-c.out) _ c.loop-c.invariant c.in_err-push-2.ensures.kept

pub returns-clause-written : goal.returns-clause-written
returns-clause-written c =
    let all = YieldsList-from_chars c.args.s.now c.utf8.s cc in
    let t = YieldsList-end all c.loop-c.yielded _ c.loop-c.yielded_by _ _ c.in-None.is c.next.ensures.steps in
    text-written c.args.s.now (string_bytes c.args.out.now) (string_bytes c.loop-c.out) _ c.loop-c.yielded c.args.quote c.requires c.loop-c.invariant t.0 c.in_ok-push-3.ensures.bytes
