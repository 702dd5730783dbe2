use Rattle.std.proofs.Common.{false, true}
use Rattle.language_rules.specs.Chains.{link_rule}
use Rattle.language_rules.specs.Comparing.{compare_step}
use Rattle.language_rules.specs.Going.{carry}
use Rattle.language_rules.specs.PlainItems.{contains_within}
use Rattle.eval_comparing.specs.Compared.{turned_by}
use Rattle.eval_comparing.proofs.PairLaws.{compares_as, contained, is_linked, is_not_linked, not_contained, ordered}
use Rattle.eval_comparing.proofs.comparing.link_values.Goals as goal

pub returns-in-Order : goal.returns-in-Order
returns-in-Order c = compares_as c.compare_values.result (carry (compare_step c.in-Order.op c.args.left.now c.args.right.now)) (link_rule c.args.comparison c.args.left.now c.args.right.now) (ordered c.args.comparison c.in-Order.op c.args.left.now c.args.right.now c.in-Order.is) c.compare_values.ensures

pub returns-in-In : goal.returns-in-In
returns-in-In c = compares_as c.find.result (turned_by false (contains_within c.args.right.now c.args.left.now)) (link_rule c.args.comparison c.args.left.now c.args.right.now) (contained c.args.comparison c.args.left.now c.args.right.now c.in-In.is c.requires.apart) c.find.ensures

pub returns-in-NotIn : goal.returns-in-NotIn
returns-in-NotIn c = compares_as c.find-in-NotIn.result (turned_by true (contains_within c.args.right.now c.args.left.now)) (link_rule c.args.comparison c.args.left.now c.args.right.now) (not_contained c.args.comparison c.args.left.now c.args.right.now c.in-NotIn.is c.requires.apart) c.find-in-NotIn.ensures

pub returns-in-Is : goal.returns-in-Is
returns-in-Is c = is_linked c.args.comparison c.args.left.now c.args.right.now c.boolean.result c.is_none.result c.in-Is.is c.boolean.ensures c.is_none.ensures

pub returns-in-IsNot : goal.returns-in-IsNot
returns-in-IsNot c = is_not_linked c.args.comparison c.args.left.now c.args.right.now c.boolean-in-IsNot.result c.is_none-in-IsNot.result c.in-IsNot.is c.boolean-in-IsNot.ensures c.is_none-in-IsNot.ensures
