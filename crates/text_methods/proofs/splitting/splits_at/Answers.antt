use Rattle.std.proofs.Common.{◌<◌, length, chars, sym, eqb-true, Err}
use Rattle.py_strs.proofs.Cuts.{characters_some}
use Rattle.text_methods.proofs.Making.{not_split, some_bytes, splits}
use Rattle.text_methods.proofs.splitting.splits_at.Goals as goal

pub returns-then-is_empty : goal.returns-then-is_empty
returns-then-is_empty c = not_split (chars c.args.text.now) c.args.separator.now (Err c.refused.result) (eqb-true (length c.args.separator.now) 0 (sym c.if-is_empty.ensures)) c.refused.ensures

pub returns : goal.returns
returns c =
    let some : 0 < length (chars c.args.separator.now) = characters_some c.args.separator.now c.utf8.separator (some_bytes c.args.separator.now c.if-is_empty.ensures) in
    splits (chars c.args.text.now) (chars c.args.separator.now) c.cut.result some c.cut.ensures
