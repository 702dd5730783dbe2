use Rattle.std.proofs.Common.{chars, map, ℕ, List}
use Rattle.py_strs.specs.Joining.{characters, joined}
use Rattle.text_methods.proofs.Making.{joins}
use Rattle.text_methods.proofs.joining.joined.Goals as goal

pub returns : goal.returns
returns c =
    let cs : List ℕ = joined (chars c.args.text.now) (map characters c.args.parts.now) in
    c.made.ensures cs (joins cs c.join_texts.result c.join_texts.ensures.ok c.join_texts.ensures.size c.join_texts.ensures.no_sep)
