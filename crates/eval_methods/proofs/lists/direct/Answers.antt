use Rattle.rp_base.specs.declared.value.Value.TheVariants as value
use Rattle.language_rules.specs.Calls.{method_rule}
use Rattle.eval_methods.proofs.MethodLemmas.{changed_on}
use Rattle.eval_methods.proofs.lists.direct.Goals as goal

pub returns-clause-means : goal.returns-clause-means
returns-clause-means c =
    changed_on (method_rule (value.Own c.args.number) c.args.method c.args.arguments.now) c.args.store.now c.list_method.new.store c.list_method.result c.answered.result c.list_method.ensures.comes c.list_method.ensures.kept c.answered.ensures.means
