use Rattle.std.proofs.Common.{refl}
use Rattle.object_operations.specs.declared.special.Special.TheVariants as special
use Rattle.language_rules.specs.Operators.{unsupported}
use Rattle.language_rules.specs.PlainItems.{no_items}
use Rattle.eval_objects.proofs.SpecialLemmas.{with_one}
use Rattle.eval_objects.proofs.specials.special_with_one.Goals as goal

pub returns-in-GetItem-clause-means : goal.returns-in-GetItem-clause-means
returns-in-GetItem-clause-means c = with_one c.args.special special.GetItem no_items c.refuse.result c.in-GetItem.is (λ number text function scope v. refl) c.refuse.ensures.means

pub returns-in-DelItem-clause-means : goal.returns-in-DelItem-clause-means
returns-in-DelItem-clause-means c = with_one c.args.special special.DelItem no_items c.refuse-in-DelItem.result c.in-DelItem.is (λ number text function scope v. refl) c.refuse-in-DelItem.ensures.means

pub returns-in-Add-clause-means : goal.returns-in-Add-clause-means
returns-in-Add-clause-means c = with_one c.args.special special.Add unsupported c.refuse-in-Add.result c.in-Add.is (λ number text function scope v. refl) c.refuse-in-Add.ensures.means

pub returns-in-Sub-clause-means : goal.returns-in-Sub-clause-means
returns-in-Sub-clause-means c = with_one c.args.special special.Sub unsupported c.refuse-in-Sub.result c.in-Sub.is (λ number text function scope v. refl) c.refuse-in-Sub.ensures.means

pub returns-in-Mul-clause-means : goal.returns-in-Mul-clause-means
returns-in-Mul-clause-means c = with_one c.args.special special.Mul unsupported c.refuse-in-Mul.result c.in-Mul.is (λ number text function scope v. refl) c.refuse-in-Mul.ensures.means

pub returns-in-FloorDiv-clause-means : goal.returns-in-FloorDiv-clause-means
returns-in-FloorDiv-clause-means c = with_one c.args.special special.FloorDiv unsupported c.refuse-in-FloorDiv.result c.in-FloorDiv.is (λ number text function scope v. refl) c.refuse-in-FloorDiv.ensures.means

pub returns-in-Mod-clause-means : goal.returns-in-Mod-clause-means
returns-in-Mod-clause-means c = with_one c.args.special special.Mod unsupported c.refuse-in-Mod.result c.in-Mod.is (λ number text function scope v. refl) c.refuse-in-Mod.ensures.means

pub returns-in-IAdd-clause-means : goal.returns-in-IAdd-clause-means
returns-in-IAdd-clause-means c = with_one c.args.special special.IAdd unsupported c.refuse-in-IAdd.result c.in-IAdd.is (λ number text function scope v. refl) c.refuse-in-IAdd.ensures.means
