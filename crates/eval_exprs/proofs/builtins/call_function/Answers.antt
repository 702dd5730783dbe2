use Rattle.std.proofs.Common.{◌≡◌, [], ◌∷◌, ◌∙◌, true, List, Option, ap, subst, sym}
use Rattle.rp_base.specs.declared.value.Value.{Value}
use Rattle.language_rules.specs.Builtins.{builtin_rule}
use Rattle.language_rules.specs.Kinds.{is_reference}
use Rattle.eval_exprs.proofs.Moving.{at_as}
use Rattle.eval_exprs.proofs.builtins.call_function.Goals as goal
use Rattle.eval_exprs.specs.Steps.{IsOnlyReference}

pub returns-in-Some-clause-means : goal.returns-in-Some-clause-means
returns-in-Some-clause-means c =
    let found : (c.as_slice.result.now ≡ c.in-Some.value ∷ []) × (is_reference c.in-Some.value ≡ true) = subst (λ (o : Option Value). IsOnlyReference c.as_slice.result.now o) c.in-Some.is c.in_ok-value.ensures in
    at_as c.call_of_object.result c.call_of_object.new.stack.items c.args.stack.now.items c.args.store.now.cells (builtin_rule c.args.function (c.in-Some.value ∷ [])) (builtin_rule c.args.function c.args.arguments)
    (ap (λ (vs : List Value). builtin_rule c.args.function vs) (sym found.0 ∙ c.as_slice.ensures)) c.call_of_object.ensures.means
