use Rattle.std.proofs.Common.{arith, ◌∙◌, ap, sym, List}
use Rattle.py_ast.specs.declared.expression.Expression.TheVariants as expression
use Rattle.py_ast.specs.declared.expression.Link.{Link}
use Rattle.language_rules.specs.Chains.{link_rule}
use Rattle.language_rules.specs.Expressions.{expression_rule}
use Rattle.language_rules.specs.Operators.{binary_rule, unary_rule}
use Rattle.language_rules.specs.PlainItems.{item_of}
use Rattle.eval_at_once.specs.Evaluated.{inverted}
use Rattle.eval_at_once.proofs.Nodes.{of_one, of_parts, of_two}
use Rattle.eval_at_once.proofs.evaluating.+evaluates.Goals as goal

pub evaluate-returns-in_default : goal.evaluate-returns-in_default
evaluate-returns-in_default t c =
    of_parts c.args.store.now.cells c.args.texts.now c.args.env c.args.number c.in_ok-expression.expression.now c.args.units c.in_ok-left.left c.evaluate_parts.result
    (omega (arith, c.in_ok-left.ensures.0, c.in_ok-left.ensures.1)) (sym c.in_ok-expression.ensures) c.evaluate_parts.ensures

pub evaluate_parts-returns-in_ok-of-in-Unary : goal.evaluate_parts-returns-in_ok-of-in-Unary
evaluate_parts-returns-in_ok-of-in-Unary t c =
    of_one c.args.store.now.cells c.args.texts.now c.args.env c.args.expression.now c.args.units c.in-Unary.operand (λ v. unary_rule c.in-Unary.op v) c.in_ok-of-in-Unary.of c.operate_on.result
    (ap (expression_rule c.args.env) c.in-Unary.is) c.in_ok-of-in-Unary.ensures c.operate_on.ensures

pub evaluate_parts-returns-in_ok-of-in-Not : goal.evaluate_parts-returns-in_ok-of-in-Not
evaluate_parts-returns-in_ok-of-in-Not t c =
    of_one c.args.store.now.cells c.args.texts.now c.args.env c.args.expression.now c.args.units c.in-Not.operand inverted c.in_ok-of-in-Not.of c.invert.result
    (ap (expression_rule c.args.env) c.in-Not.is) c.in_ok-of-in-Not.ensures c.invert.ensures

pub evaluate_parts-returns-in_ok-of-in-Binary : goal.evaluate_parts-returns-in_ok-of-in-Binary
evaluate_parts-returns-in_ok-of-in-Binary t c =
    of_two c.args.store.now.cells c.args.texts.now c.args.env c.args.expression.now c.args.units c.in-Binary.left c.in-Binary.right (λ a b. binary_rule c.in-Binary.op a b) c.in_ok-of-in-Binary.of c.operate.result
    (ap (expression_rule c.args.env) c.in-Binary.is) c.in_ok-of-in-Binary.ensures c.operate.ensures

pub evaluate_parts-returns-in_ok-of-in-Item : goal.evaluate_parts-returns-in_ok-of-in-Item
evaluate_parts-returns-in_ok-of-in-Item t c =
    of_two c.args.store.now.cells c.args.texts.now c.args.env c.args.expression.now c.args.units c.in-Item.receiver c.in-Item.key item_of c.in_ok-of-in-Item.of c.index.result
    (ap (expression_rule c.args.env) c.in-Item.is) c.in_ok-of-in-Item.ensures c.index.ensures

pub evaluate_parts-returns-in_ok-of-in-Compare : goal.evaluate_parts-returns-in_ok-of-in-Compare
evaluate_parts-returns-in_ok-of-in-Compare t c =
    let only = sym c.as_slice.ensures ∙ c.in_ok-link-in-Compare.ensures in
    of_two c.args.store.now.cells c.args.texts.now c.args.env c.args.expression.now c.args.units c.in-Compare.first c.in_ok-link-in-Compare.link.right (λ a b. link_rule c.in_ok-link-in-Compare.link.comparison a b) c.in_ok-of-in-Compare.of c.compare.result
    (ap (expression_rule c.args.env) c.in-Compare.is ∙ ap (λ (links : List Link). expression_rule c.args.env (expression.Compare c.in-Compare.first links)) only)
    c.in_ok-of-in-Compare.ensures c.compare.ensures
