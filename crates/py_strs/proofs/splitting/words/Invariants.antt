use denote.Shadow.{shadow}
use denote.Text.{Utf8}
use Rattle.std.proofs.Common.{◌≡◌, ◌++◌, List, ℕ, true, length, map}
use Rattle.std.specs.Str.{chars}
use Rattle.py_strs.specs.Joining.{characters}
use Rattle.py_strs.specs.Spaces.{begins_bare}
use Rattle.py_strs.specs.Splitting.{IsWords}
use Rattle.py_strs.proofs.splitting.words.Given as goal

abbrev pub decreases-words : goal.decreases-words
decreases-words l = length l.rest

abbrev pub invariant-words : goal.invariant-words
invariant-words l = shadow (Utf8 l.rest) × (begins_bare (chars l.rest) ≡ true) × ((ps : List (List ℕ)) → IsWords (chars l.rest) ps → IsWords (chars l.fn.s) (map characters l.words.items ++ ps))
