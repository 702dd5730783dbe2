use Rattle.std.proofs.Common.{◌≡◌, reverse}
use Rattle.language_rules.specs.Classes.{made_class}
use Rattle.eval_classes.proofs.bases.made_class.Given as goal

abbrev pub invariant-loop-class : goal.invariant-loop-class
invariant-loop-class l = made_class l.text l.name (reverse l.classes) ≡ made_class l.text l.name (reverse l.class-iterator.iter.rest.now)
