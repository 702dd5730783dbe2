-- Corners of rules, computed: what a script prints, and how it ends.
use Rattle.std.specs.Str.{bytes_eq}
use Rattle.std.proofs.Common.{◌≡◌, ℕ, List, [], ◌∷◌, ◌++◌, codes, Option, Some, None, if◌then◌else◌, refl}
use Rattle.rp_base.specs.declared.exceptions.Beyond.TheVariants as beyond
use Rattle.py_ast.specs.declared.program.Program.{Program}
use Rattle.side_trees.specs.SharedRun.{A}
use Rattle.language_rules.specs.Computing.{rules_computing}
use Rattle.language_rules.specs.OneInterpreter.{one_course, solo_course, RunEnd, run_end, output, EndsDone, EndsBeyond}
use Rattle.language_rules.specs.Starting.{Reader}
use Rattle.language_rules.proofs.Showing.{no_reader, line}
use Rattle.language_rules.proofs.corners.{corners}
use Rattle.language_rules.proofs.far.{far}
use Rattle.language_rules.proofs.grows.{grows}
use Rattle.language_rules.proofs.inner_text.{inner_text}
use Rattle.language_rules.proofs.nothing.{nothing}
use Rattle.language_rules.proofs.outer_text.{outer_text}
use Rattle.language_rules.proofs.runs_inside.{runs_inside}
use Rattle.language_rules.proofs.searched_while_it_grows.{searched_while_it_grows}
use Rattle.language_rules.proofs.shown_while_it_grows.{shown_while_it_grows}

abbrev end_alone : Program → RunEnd
end_alone t = run_end (solo_course no_reader t 1000)

-- Empty ranges, falling ranges and positions from the end; views and `setdefault`; `insert` outside the list; the first of equals; comparison methods asked from the right and turned round;
-- a function among an object's own attributes; `__init__` that gives something.
corners_end : end_alone corners ≡ EndsDone
unfolding rules_computing
corners_end = refl

corners_print : output A (solo_course no_reader corners 1000) ≡ line (codes "True 3 3") ++ line (codes "2 new 2") ++ line (codes "['y', 1, 'x', 2, 'z'] 1 True 2") ++ line (codes "('gt', 3, 1) False True True") ++ line (codes "['y', 1, 'x', 2, 'z', 'w']") ++ line (codes "wrong result kind")
unfolding rules_computing
corners_print = refl

-- A dict to which a loop over it, its printing or a search in its values adds a key.
looped_over : end_alone grows ≡ EndsBeyond beyond.Changed
unfolding rules_computing
looped_over = refl

printed : end_alone shown_while_it_grows ≡ EndsBeyond beyond.Changed
unfolding rules_computing
printed = refl

searched : end_alone searched_while_it_grows ≡ EndsBeyond beyond.Changed
unfolding rules_computing
searched = refl

-- A position past 64 bits.
far_position : end_alone far ≡ EndsBeyond beyond.Int
unfolding rules_computing
far_position = refl

-- A text of B runs inside a handler of another text of B, under the same name. The two texts are called by short names.
abbrev two_texts : Reader
two_texts = record { script = λ t. if bytes_eq t (codes "outer") then Some outer_text else (if bytes_eq t (codes "inner") then Some inner_text else None); expression = λ t. None }

name_in_use : run_end (one_course two_texts nothing runs_inside [] 1000) ≡ EndsBeyond beyond.Name
unfolding rules_computing
name_in_use = refl
