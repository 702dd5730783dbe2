use Rattle.std.proofs.Common.{◌≡◌, ◌∙◌, ap, ◌==◌, ◌&&◌, ◌||◌, List, ℕ, Some, Option, slice_get}
use Rattle.std.specs.Str.{bytes_eq}
use Rattle.py_mentions.specs.Members.{has_member}
use Rattle.py_mentions.specs.Rules.{bound_name, is_it}
use Rattle.py_mentions.proofs.MemberLaws.{or_here}
use Rattle.py_mentions.proofs.members.Members.add.Goals as goal

pub returns-in_ok-insert : goal.returns-in_ok-insert
returns-in_ok-insert c = λ suite t.
    let named : Some c.in-Some.name.now ≡ bound_name c.args.program.now (slice_get c.args.program.now.nodes c.args.statement) = c.in-Some.ensures in
    c.in_ok-insert.ensures.updates.0 (suite, record { ref_ptr = (0, 0); now = t })
    ∙ or_here ((c.args.suite == suite) && bytes_eq c.in-Some.name.now t) (has_member c.args.self.now.set suite t)
    ∙ ap (λ (o : Option (List ℕ)). has_member c.args.self.now.set suite t || ((c.args.suite == suite) && is_it t o)) named
