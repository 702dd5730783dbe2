use Rattle.std.proofs.Common.{◌≡◌, ℤ, Option, None, ap}
use Rattle.language_rules.specs.Arithmetic.{multiplies}
use Rattle.language_rules.specs.Operators.{unsupported}
use Rattle.language_rules.specs.TextFunctions.{as_int}
use Rattle.eval_ranges.proofs.SpecialLemmas.{same_tree}
use Rattle.eval_lists.proofs.copying.multiply.Goals as goal

pub returns-in-None-clause-means : goal.returns-in-None-clause-means
returns-in-None-clause-means c =
    let none : None ≡ as_int c.args.count.now = cc in
    same_tree unsupported (multiplies c.args.items.now (as_int c.args.count.now)) c.refuse.result (ap (λ (o : Option ℤ). multiplies c.args.items.now o) none) c.refuse.ensures.means
