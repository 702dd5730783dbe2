use denote.Shadow.{shadow}
use denote.Text.{Utf8}
use Rattle.std.proofs.Common.{◌++◌, List, ℕ, length, map}
use Rattle.std.specs.Str.{chars}
use Rattle.py_strs.specs.Joining.{characters}
use Rattle.py_strs.specs.Splitting.{IsSplit}
use Rattle.py_strs.proofs.splitting.pieces.Given as goal

abbrev pub decreases-cuts : goal.decreases-cuts
decreases-cuts l = length l.rest

abbrev pub invariant-cuts : goal.invariant-cuts
invariant-cuts l = shadow (Utf8 l.rest) × ((ps : List (List ℕ)) → IsSplit (chars l.sep) (chars l.rest) ps → IsSplit (chars l.sep) (chars l.fn.s) (map characters l.pieces.items ++ ps))
