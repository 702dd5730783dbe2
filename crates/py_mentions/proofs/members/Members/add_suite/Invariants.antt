use Rattle.std.proofs.Common.{◌≡◌, ◌==◌, ◌&&◌, ◌||◌, ℕ, List, drop}
use Rattle.py_mentions.specs.Members.{has_member}
use Rattle.py_mentions.specs.Rules.{any_binds}
use Rattle.py_mentions.proofs.members.Members.add_suite.Given as goal

abbrev pub invariant-loop-statement : goal.invariant-loop-statement
invariant-loop-statement l = (c : ℕ) → (t : List ℕ) → has_member l.self.set c t || ((l.suite == c) && any_binds l.program t (drop l.statement-index l.statements)) ≡ has_member l.initial.self.set c t || ((l.suite == c) && any_binds l.program t l.statements)
