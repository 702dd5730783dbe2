use Rattle.std.proofs.Common.{◌++◌, take, string_bytes, encode_utf8, arith}
use Rattle.std.specs.List.{flat_map}
use Rattle.py_strs.specs.QuotingForms.{byte_piece}
use Rattle.py_strs.proofs.Pieces.{begins_still, bytes-written}
use Rattle.py_strs.proofs.quoting.push_bytes.Goals as goal

pub returns-in_err-push-3-clause-kept : goal.returns-in_err-push-3-clause-kept
returns-in_err-push-3-clause-kept c =
    begins_still (string_bytes c.args.out.now) (encode_utf8 0x62 ++ encode_utf8 c.args.quote) (flat_map (byte_piece c.args.quote) (take c.loop-byte.byte-index c.args.b.now)) (string_bytes c.loop-byte.out) _ c.loop-byte.invariant c.in_err-push-3.ensures.kept

pub returns-clause-written : goal.returns-clause-written
returns-clause-written c =
    bytes-written c.args.b.now (string_bytes c.args.out.now) (string_bytes c.loop-byte.out) _ c.args.quote c.loop-byte.byte-index c.requires c.loop-byte.invariant (omega arith) c.in_ok-push-4.ensures.bytes
