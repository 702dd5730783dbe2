use Rattle.std.proofs.Common.{◌∙◌, ap, Ok, Option}
use Rattle.eval_targets.specs.declared.places.Place.{Place}
use Rattle.eval_targets.proofs.Settling.{one_bound, one_ends, one_waits}
use Rattle.eval_targets.proofs.assigning.settle_each.Goals as goal

pub targets-preserved : goal.targets-preserved
targets-preserved c =
    one_bound c.args.env c.args.texts.now c.args.targets c.args.values c.args.store.now c.targets.store c.place_value.new.store c.targets.targets c.targets.values c.in-Some.target c.in-Some-pop.value c.pop.new.self c.pop-in-Some.new.self c.place_value.result
    c.targets.invariant c.in-Some.ensures c.in-Some-pop.ensures (c.in-Ok-None.is ∙ ap (λ (x : Option Place). Ok x) c.in-Ok-None.field-0-is) c.place_value.ensures.placed

pub returns-in-Ok-Some : goal.returns-in-Ok-Some
returns-in-Ok-Some c = record {
  settles = one_waits c.args.env c.args.texts.now c.args.targets c.args.values c.args.store.now c.targets.store c.place_value.new.store c.targets.targets c.targets.values c.in-Some.target c.in-Some-pop.value c.pop.new.self c.pop-in-Some.new.self c.place_value.result c.in-Ok-Some.place c.wait_before.result
      c.targets.invariant c.in-Some.ensures c.in-Some-pop.ensures (c.in-Ok-Some.is ∙ ap (λ (x : Option Place). Ok x) c.in-Ok-Some.field-0-is) c.place_value.ensures.placed c.wait_before.ensures;
}

pub returns-in-Err : goal.returns-in-Err
returns-in-Err c = record {
  settles = one_ends c.args.env c.args.texts.now c.args.targets c.args.values c.args.store.now c.targets.store c.place_value.new.store c.targets.targets c.targets.values c.in-Some.target c.in-Some-pop.value c.pop.new.self c.pop-in-Some.new.self c.place_value.result c.in-Err.end c.failed.result
      c.targets.invariant c.in-Some.ensures c.in-Some-pop.ensures c.in-Err.is c.place_value.ensures.placed c.failed.ensures.ends;
}
