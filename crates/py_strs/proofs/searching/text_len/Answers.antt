use Rattle.std.proofs.Common.{◌∙◌, ap, sym, length}
use Rattle.std.proofs.lemmas.Str.{Chars-Drains, encodes-chars}
use Rattle.std.specs.Str.{chars}
use Rattle.py_strs.proofs.searching.text_len.Goals as goal

pub returns : goal.returns
returns c =
    let ran = c.count.ensures.ran in
    ran.2 ∙ ap length (Chars-Drains (chars c.args.s.now) ran.0 c.chars.result (encodes-chars c.args.s.now c.utf8.s ∙ sym c.chars.ensures.rest) ran.1)
