use Rattle.std.proofs.Common.{◌≡◌, encode_utf8_all, length, take, get_or, sym, ap, ◌∙◌, arith}
use Rattle.std.proofs.lemmas.List.{take_all, get_or_default}
use Rattle.std.specs.List.{flat_map}
use Rattle.py_strs.specs.Quoting.{bytes_repr}
use Rattle.py_strs.specs.QuotingForms.{byte_piece}
use Rattle.py_strs.proofs.Pieces.{length-bytes_repr, passes, no_room, has_room}
use Rattle.py_strs.proofs.quoting.bytes_fit.Goals as goal

pub returns-in_default : goal.returns-in_default
returns-in_default c =
    let whole = length-bytes_repr c.args.b.now c.args.quote c.requires in
    let short = c.in_default.ensures in
    no_room (length (bytes_repr c.args.b.now)) c.args.room (omega (arith, whole, short))

pub returns-in_default-checked_sub : goal.returns-in_default-checked_sub
returns-in_default-checked_sub c =
    let whole = length-bytes_repr c.args.b.now c.args.quote c.requires in
    let item = get_or c.args.b.now c.loop-byte.byte-index 0 in
    let here : length (byte_piece c.args.quote item) ≡ c.len.result = ap (λ l. length (encode_utf8_all l)) (sym c.of_byte.ensures) ∙ sym c.len.ensures in
    let short = c.in_default-checked_sub.ensures in
    let over = passes (byte_piece c.args.quote) c.args.b.now c.loop-byte.byte-index item c.loop-byte.left 3 c.args.room c.loop-byte-test.true (get_or_default c.args.b.now c.loop-byte.byte-index 0 item c.loop-byte-test.true) c.loop-byte.invariant (omega (arith, here, short)) in
    no_room (length (bytes_repr c.args.b.now)) c.args.room (omega (arith, whole, over))

pub returns : goal.returns
returns c =
    let whole = length-bytes_repr c.args.b.now c.args.quote c.requires in
    let every : take c.loop-byte.byte-index c.args.b.now ≡ c.args.b.now = take_all c.loop-byte.byte-index c.args.b.now (omega arith) in
    let same : length (flat_map (byte_piece c.args.quote) (take c.loop-byte.byte-index c.args.b.now)) ≡ length (flat_map (byte_piece c.args.quote) c.args.b.now) = ap (λ l. length (flat_map (byte_piece c.args.quote) l)) every in
    has_room (length (bytes_repr c.args.b.now)) c.args.room (omega (arith, whole, same, c.loop-byte.invariant))
