use Rattle.std.proofs.Common.{◌≡◌, ◌++◌, map, length, All}
use Rattle.pair_run.specs.Scripts.{lines_of, question_line, IsLetter}
use Rattle.pair_run.proofs.scripts.questions.Given as goal

-- the lines so far are those of what was read so far, and then come those of the rest
abbrev pub invariant-lines : goal.invariant-lines
invariant-lines l = (lines_of l.text ≡ map question_line l.letters.items ++ lines_of l.rest) × All IsLetter l.letters.items

abbrev pub decreases-lines : goal.decreases-lines
decreases-lines l = length l.rest
