use Rattle.py_plain.proofs.CodePoints.{texts_stand}
use Rattle.py_plain.proofs.laws.texts_stand_as_their_code_points.Goals as goal

pub returns : goal.returns
returns c = texts_stand
