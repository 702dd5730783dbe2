use Rattle.std.proofs.Common.{length, encode_utf8_all, ap, ◌∙◌, sym}
use Rattle.py_strs.specs.QuotingForms.{spelled}
use Rattle.py_strs.proofs.Pieces.{length-code}
use Rattle.py_strs.proofs.quoting.Form.len.Goals as goal

pub returns-in-Code : goal.returns-in-Code
returns-in-Code c =
    let layout = c.letter_and_digits-digits in
    length-code c.in-Code.code layout.result.0 layout.result.1 layout.ensures.escape layout.ensures.ascii ∙ ap (λ f. length (encode_utf8_all (spelled f))) (sym c.in-Code.is)
