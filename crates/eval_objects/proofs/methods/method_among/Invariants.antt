use Rattle.std.proofs.Common.{◌≡◌, drop}
use Rattle.object_operations.specs.Names.{method_among}
use Rattle.eval_objects.proofs.methods.method_among.Given as goal

abbrev pub invariant-loop-method : goal.invariant-loop-method
invariant-loop-method l = method_among l.methods l.name ≡ method_among (drop l.method-index l.methods) l.name
