-- How an object is compared with another value.
use Rattle.std.specs.Prelude.{ℕ}
use Rattle.rp_base.specs.declared.exceptions.Beyond.TheVariants as beyond
use Rattle.rp_base.specs.declared.operators.CmpOp.{CmpOp}
use Rattle.rp_base.specs.declared.value.Value.{Value}
use Rattle.side_trees.specs.Trees.{Stop}
use Rattle.language_rules.specs.CellComparing.{instance_compare, lists_compared, not_implemented}
use Rattle.language_rules.specs.Going.{RuleTree}
use Rattle.eval_objects.specs.declared.comparing.Comparing.{Comparing}
use Rattle.eval_objects.specs.declared.comparing.Comparing.TheVariants as comparing

abbrev pub compared_as : Comparing → ℕ → CmpOp → Value → RuleTree
compared_as comparing.Lists n op other = lists_compared n other op
compared_as comparing.Method n op other = instance_compare n op other
compared_as comparing.Out n op other = Stop beyond.Compare
compared_as comparing.Unknown n op other = not_implemented
