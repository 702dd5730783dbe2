use Rattle.std.proofs.Common.{true, false, reverse}
use Rattle.language_rules.specs.Chains.{link_rule}
use Rattle.language_rules.specs.Going.{carry}
use Rattle.eval_comparing.specs.Answers.{question_step}
use Rattle.eval_comparing.specs.Compared.{turned_by}
use Rattle.eval_exprs.proofs.Operands.{compared_asked, compared_ended, compared_opposite, links_like, refers_asked, refers_opposite, told_link}
use Rattle.eval_exprs.proofs.links.tell_of_tuples.Goals as goal

pub returns-in-Ended-clause-means : goal.returns-in-Ended-clause-means
returns-in-Ended-clause-means c = told_link c.tell.result c.tell.new.stack.items c.args.stack.now.items c.args.env (reverse c.args.waiting) c.args.right c.in-Ended.answer c.args.comparison c.args.left (compared_ended (link_rule c.args.comparison c.args.left c.args.right) c.in_ok-answer.field-0 c.in-Ended.answer c.in-Ended.is c.in_ok-answer.ensures) c.tell.ensures.means

pub ask_within_chain-requires : goal.ask_within_chain-requires
ask_within_chain-requires c = refers_asked (link_rule c.args.comparison c.args.left c.args.right) c.in_ok-answer.field-0 c.in-Asked.question c.in-Asked.is c.in_ok-answer.ensures

pub returns-in-Asked-clause-means : goal.returns-in-Asked-clause-means
returns-in-Asked-clause-means c = links_like c.ask_within_chain.result c.ask_within_chain.new.stack.items c.args.stack.now.items c.args.env (reverse c.args.waiting) c.args.right (turned_by false (carry (question_step c.in-Asked.question))) c.args.comparison c.args.left (compared_asked (link_rule c.args.comparison c.args.left c.args.right) c.in_ok-answer.field-0 c.in-Asked.question c.in-Asked.is c.in_ok-answer.ensures) c.ask_within_chain.ensures.means

pub ask_within_chain-requires-in-Opposite : goal.ask_within_chain-requires-in-Opposite
ask_within_chain-requires-in-Opposite c = refers_opposite (link_rule c.args.comparison c.args.left c.args.right) c.in_ok-answer.field-0 c.in-Opposite.question c.in-Opposite.is c.in_ok-answer.ensures

pub returns-clause-means : goal.returns-clause-means
returns-clause-means c = links_like c.ask_within_chain-in-Opposite.result c.ask_within_chain-in-Opposite.new.stack.items c.args.stack.now.items c.args.env (reverse c.args.waiting) c.args.right (turned_by true (carry (question_step c.in-Opposite.question))) c.args.comparison c.args.left (compared_opposite (link_rule c.args.comparison c.args.left c.args.right) c.in_ok-answer.field-0 c.in-Opposite.question c.in-Opposite.is c.in_ok-answer.ensures) c.ask_within_chain-in-Opposite.ensures.means
