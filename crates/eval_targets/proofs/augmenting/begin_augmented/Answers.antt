use Rattle.std.proofs.Common.{◌≡◌, Some, slice_get}
use Rattle.py_ast.specs.declared.node.Node.TheVariants as node
use Rattle.language_rules.specs.Targets.{augments_target}
use Rattle.language_rules.specs.Texts.{node_of}
use Rattle.eval_targets.proofs.Settling.{means_found}
use Rattle.eval_targets.proofs.augmenting.begin_augmented.Goals as goal

pub returns-clause-means : goal.returns-clause-means
returns-clause-means c =
    let seen = c.in-Some-Target.ensures in
    let outer = c.in-Some-Target.field-0-is in
    let there : node_of (slice_get c.args.texts.now c.args.env.text) c.args.target ≡ Some (node.Target c.in-Some-Target.found) = cc in
    means_found c.args.env c.args.target (augments_target c.args.env c.args.op c.args.right) c.in-Some-Target.found c.args.store.now.cells c.args.texts.now c.augment_target.new.stack.items c.args.stack.now.items c.augment_target.result there c.augment_target.ensures.means
