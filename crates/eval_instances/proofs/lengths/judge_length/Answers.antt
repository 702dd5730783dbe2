use Rattle.std.proofs.Common.{sym, ◌<ℤ◌, pos, codes, Some, arith}
use Rattle.std.proofs.lemmas.Int.{ints}
use Rattle.rp_base.specs.declared.exceptions.ExcKind.TheVariants as exception
use Rattle.language_rules.specs.Going.{fails}
use Rattle.language_rules.specs.Lengths.{on_counted}
use Rattle.eval_ranges.proofs.SpecialLemmas.{same_tree}
use Rattle.eval_instances.specs.Methods.{counting}
use Rattle.eval_instances.proofs.LengthLemmas.{negative}
use Rattle.eval_instances.proofs.lengths.judge_length.Goals as goal

pub returns-then-length-lt0-clause-means : goal.returns-then-length-lt0-clause-means
returns-then-length-lt0-clause-means c =
    let below : c.args.length <ℤ pos 0 = grind (arith, ints) in
    same_tree (fails exception.ValueError (codes "negative length")) (on_counted (counting c.args.is_truth) (Some c.args.length)) c.fail.result (sym (negative (counting c.args.is_truth) c.args.length below)) c.fail.ensures.means
