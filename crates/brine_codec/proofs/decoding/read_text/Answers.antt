use Rattle.std.proofs.Common.{◌≡◌, sym, ◌∙◌, ◌≡◌}
use Rattle.brine_codec.proofs.Utf8.{text_is, text_is_none}
use Rattle.brine_codec.proofs.decoding.read_text.Goals as goal

pub returns-in_default-from_utf8 : goal.returns-in_default-from_utf8
returns-in_default-from_utf8 c =
    text_is_none c.args.left c.in-Some.byte.now c.args.bytes.now c.in-Some.rest.now c.in_ok-text.text.now c.in_ok-text.rest.now c.in-Bytes.size c.in-Some.ensures.cases.0
    (sym c.tag_of.ensures ∙ c.in-Bytes.is) c.in_ok-text.ensures c.in_default-from_utf8.ensures.cases.0

pub returns : goal.returns
returns c =
    let same : c.in_ok-from_str.field-0 ≡ c.in_ok-text.text.now = c.in_ok-from_str.ensures ∙ c.in-Ok.ensures.cases.0 in
    rw same
    (text_is c.args.left c.in-Some.byte.now c.args.bytes.now c.in-Some.rest.now c.in_ok-text.text.now c.in_ok-text.rest.now c.in-Bytes.size c.in-Some.ensures.cases.0
    (sym c.tag_of.ensures ∙ c.in-Bytes.is) c.in_ok-text.ensures c.in-Ok.ensures.cases.1)
