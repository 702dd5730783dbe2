use Rattle.std.proofs.Common.{encode_utf8_all, take, length, map-id, ◌≡◌, length, take, chars, sym, ap, ◌∙◌, arith}
use Rattle.std.proofs.lemmas.Iterator.{YieldsList-from_chars}
use Rattle.std.proofs.lemmas.Iterator.Consumers.{YieldsList-turn, YieldsList-so_far, YieldsList-end}
use Rattle.std.specs.List.{flat_map}
use Rattle.py_strs.specs.Quoting.{text_repr}
use Rattle.py_strs.specs.QuotingForms.{piece}
use Rattle.py_strs.proofs.Pieces.{length-text_repr, passes, so_far, no_room, has_room}
use Rattle.py_strs.proofs.quoting.text_fits.Goals as goal

pub returns-in_default : goal.returns-in_default
returns-in_default c =
    let whole = length-text_repr c.args.s.now c.args.quote c.requires in
    let short = c.in_default.ensures in
    no_room (length (text_repr c.args.s.now)) c.args.room (omega (arith, whole, short))

pub returns-in_default-checked_sub : goal.returns-in_default-checked_sub
returns-in_default-checked_sub c =
    let all = YieldsList-from_chars {s = c.into_iter-c-iterator.result} c.args.s.now c.utf8.s cc in
    let t = YieldsList-turn all c.loop-c.yielded _ c.loop-c.yielded_by _ _ c.in-Some-c.c c.in-Some-c.is c.next.ensures.steps in
    let cs = chars c.args.s.now in
    let front : c.loop-c.yielded ≡ take (length c.loop-c.yielded) cs = so_far c.loop-c.yielded cs (YieldsList-so_far all c.loop-c.yielded _ c.loop-c.yielded_by) in
    let same : length (flat_map (piece c.args.quote) c.loop-c.yielded) ≡ length (flat_map (piece c.args.quote) (take (length c.loop-c.yielded) cs)) = ap (λ l. length (flat_map (piece c.args.quote) l)) front in
    let whole = length-text_repr c.args.s.now c.args.quote c.requires in
    let here : length (piece c.args.quote c.in-Some-c.c) ≡ c.len.result = ap (λ l. length (encode_utf8_all l)) (sym c.of_char.ensures) ∙ sym c.len.ensures in
    let short = c.in_default-checked_sub.ensures in
    let over = passes (piece c.args.quote) cs (length c.loop-c.yielded) c.in-Some-c.c c.loop-c.left 2 c.args.room t.0 t.1 (omega (arith, same, c.loop-c.invariant)) (omega (arith, here, short)) in
    no_room (length (text_repr c.args.s.now)) c.args.room (omega (arith, whole, over))

pub returns : goal.returns
returns c =
    let all = YieldsList-from_chars {s = c.into_iter-c-iterator.result} c.args.s.now c.utf8.s cc in
    let t = YieldsList-end all c.loop-c.yielded _ c.loop-c.yielded_by _ _ c.in-None.is c.next.ensures.steps in
    let whole = length-text_repr c.args.s.now c.args.quote c.requires in
    let every : c.loop-c.yielded ≡ chars c.args.s.now = sym (map-id c.loop-c.yielded) ∙ t.0 in
    let same : length (flat_map (piece c.args.quote) c.loop-c.yielded) ≡ length (flat_map (piece c.args.quote) (chars c.args.s.now)) = ap (λ l. length (flat_map (piece c.args.quote) l)) every in
    has_room (length (text_repr c.args.s.now)) c.args.room (omega (arith, whole, same, c.loop-c.invariant))
