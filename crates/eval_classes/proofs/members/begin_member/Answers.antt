use Rattle.std.proofs.Common.{◌≡◌, Some, slice_get}
use Rattle.py_ast.specs.declared.node.Node.TheVariants as node
use Rattle.language_rules.specs.Texts.{node_of}
use Rattle.eval_classes.proofs.ClassSteps.{member_begun}
use Rattle.eval_classes.proofs.members.begin_member.Goals as goal

pub returns-in-Some-Statement-clause-means : goal.returns-in-Some-Statement-clause-means
returns-in-Some-Statement-clause-means c =
    let seen = c.in-Some-Statement.ensures in
    let outer = c.in-Some-Statement.field-0-is in
    let same = c.in-Some-Statement.statement-is in
    let there : Some (node.Statement c.in-Some-Statement.statement) ≡ node_of (slice_get c.args.texts.now c.args.env.text) c.args.number = cc in
    member_begun c.args.env c.args.number c.in-Some-Statement.statement c.args.texts.now c.begin_at.new.stack.items c.args.stack.now.items c.begin_at.result there c.begin_at.ensures.means
