use Rattle.std.proofs.Common.{sym, ◌∙◌}
use Rattle.eval_handlers.proofs.Unnaming.{last_found_below}
use Rattle.eval_handlers.proofs.handled.last_named.Goals as goal

pub returns-then-is_named : goal.returns-then-is_named
returns-then-is_named c =
    last_found_below c.args.env c.args.name.now c.args.handled.now c.steps.at c.index-handled-at.result
    c.steps.invariant.0 c.steps.invariant.1 c.steps-test.true c.index-handled-at.is (sym c.if-is_named.true ∙ c.is_named.ensures)
