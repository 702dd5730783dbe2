use Rattle.std.proofs.Common.{Bool, Some, ◌∙◌, ap}
use Rattle.language_rules.specs.Attributes.{sets_in_cell}
use Rattle.eval_objects.proofs.AttributeLemmas.{no_cell, no_owner}
use Rattle.eval_objects.proofs.attributes.set_in_object.Goals as goal

pub returns-in-None-clause-means : goal.returns-in-None-clause-means
returns-in-None-clause-means c =
    no_cell c.args.store.now.cells c.args.number (sets_in_cell c.args.number c.args.name.now c.args.value.now) c.owner_at.result c.owner_at.ensures c.in-None.is

pub returns-in-Some-false-clause-means : goal.returns-in-Some-false-clause-means
returns-in-Some-false-clause-means c =
    no_owner c.args.store.now.cells c.args.number (sets_in_cell c.args.number c.args.name.now c.args.value.now) c.owner_at.result c.owner_at.ensures (c.in-Some-false.is ∙ ap (λ (b : Bool). Some b) c.in-Some-false.field-0-test) (λ d h. h.0 c.args.number c.args.name.now c.args.value.now)
