use Rattle.std.proofs.Common.{◌∙◌, ap, List, ℕ, sym}
use Rattle.py_ast.specs.declared.target.Target.TheVariants as target
use Rattle.language_rules.specs.Targets.{assigns_place}
use Rattle.eval_targets.proofs.Settling.{placed_as}
use Rattle.eval_targets.proofs.places.place_at.Goals as goal

pub returns-in_ok-copy-in-Name : goal.returns-in_ok-copy-in-Name
returns-in_ok-copy-in-Name c = record {
  placed = placed_as c.args.env (assigns_place c.args.env c.args.value) c.args.target.now (target.Name c.in_ok-copy-in-Name.field-0) c.args.store.now.cells c.place_name.new.store.cells c.args.texts.now c.place_name.result
      (c.in-Name.is ∙ ap (λ (n : List ℕ). target.Name n) (sym c.in_ok-copy-in-Name.ensures)) c.place_name.ensures.placed;
}
