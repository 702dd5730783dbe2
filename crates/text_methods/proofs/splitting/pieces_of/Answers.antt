use Rattle.std.proofs.Common.{chars, map}
use Rattle.py_strs.proofs.Cuts.{characters_some}
use Rattle.py_strs.specs.Joining.{characters}
use Rattle.text_methods.proofs.Cutting.{one_cut}
use Rattle.text_methods.proofs.splitting.pieces_of.Goals as goal

pub returns-in-Ok : goal.returns-in-Ok
returns-in-Ok c =
    one_cut (chars c.args.separator.now) (chars c.args.text.now) (map characters c.in-Ok.pieces.items) (characters_some c.args.separator.now c.utf8.separator c.requires) c.in-Ok.ensures.ok
