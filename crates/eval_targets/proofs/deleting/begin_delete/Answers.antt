use Rattle.std.proofs.Common.{◌≡◌, Some, slice_get}
use Rattle.py_ast.specs.declared.node.Node.TheVariants as node
use Rattle.language_rules.specs.Targets.{deletes_target}
use Rattle.language_rules.specs.Texts.{node_of}
use Rattle.eval_targets.proofs.Settling.{found_means}
use Rattle.eval_targets.proofs.deleting.begin_delete.Goals as goal

pub returns-clause-means : goal.returns-clause-means
returns-clause-means c =
    let seen = c.in-Some-Target.ensures in
    let outer = c.in-Some-Target.field-0-is in
    let there : node_of (slice_get c.args.texts.now c.args.env.text) c.args.target ≡ Some (node.Target c.in-Some-Target.found) = cc in
    found_means c.args.env c.args.target (deletes_target c.args.env) c.in-Some-Target.found c.args.texts.now c.delete_target.new.stack.items c.args.stack.now.items c.delete_target.result there c.delete_target.ensures.means
