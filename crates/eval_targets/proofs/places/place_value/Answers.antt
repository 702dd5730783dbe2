use Rattle.std.proofs.Common.{◌≡◌, Some, slice_get}
use Rattle.py_ast.specs.declared.node.Node.TheVariants as node
use Rattle.language_rules.specs.Targets.{assigns_place}
use Rattle.language_rules.specs.Texts.{node_of}
use Rattle.eval_targets.proofs.Settling.{placed_found}
use Rattle.eval_targets.proofs.places.place_value.Goals as goal

pub returns : goal.returns
returns c =
    let seen = c.in-Some-Target.ensures in
    let outer = c.in-Some-Target.field-0-is in
    let there : node_of (slice_get c.args.texts.now c.args.env.text) c.args.target ≡ Some (node.Target c.in-Some-Target.found) = cc in
    record {
      placed = placed_found c.args.env c.args.target (assigns_place c.args.env c.args.value) c.in-Some-Target.found c.args.store.now.cells c.place_at.new.store.cells c.args.texts.now c.place_at.result there c.place_at.ensures.placed;
    }
