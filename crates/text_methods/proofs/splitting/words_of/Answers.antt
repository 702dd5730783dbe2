use Rattle.std.proofs.Common.{chars, map}
use Rattle.py_strs.specs.Joining.{characters}
use Rattle.text_methods.proofs.Cutting.{one_list}
use Rattle.text_methods.proofs.splitting.words_of.Goals as goal

pub returns-in-Ok : goal.returns-in-Ok
returns-in-Ok c = one_list (chars c.args.text.now) (map characters c.in-Ok.pieces.items) c.in-Ok.ensures.ok
