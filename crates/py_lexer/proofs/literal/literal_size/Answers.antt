use Rattle.std.proofs.Common.{◌∙◌, ap, sym, arith, ◌+◌, option_map}
use Rattle.py_lexer.proofs.LiteralLaws.{quote_at, bad_at, item_at, end_at}
use Rattle.py_lexer.proofs.literal.literal_size.Goals as goal

pub returns-then-rest-at-clause-value : goal.returns-then-rest-at-clause-value
returns-then-rest-at-clause-value c =
    sym (c.items.invariant.1 ∙ ap (option_map (λ n. c.items.at + n)) (quote_at c.args.quote c.args.is_bytes c.items.at c.args.rest.now c.items-test.true c.if-rest-at.true))

pub returns-in_err-at-clause-value : goal.returns-in_err-at-clause-value
returns-in_err-at-clause-value c =
    c.from_residual.ensures
    ∙ sym (c.items.invariant.1 ∙ ap (option_map (λ n. c.items.at + n)) (bad_at c.args.quote c.args.is_bytes c.items.at c.args.rest.now c.items-test.true c.if-rest-at.false c.in_err-at.ensures.value))

pub items-preserved : goal.items-preserved
items-preserved c =
    (omega arith, c.items.invariant.1 ∙ item_at c.args.quote c.args.is_bytes c.items.at c.in_ok-at.field-0 c.args.rest.now c.items-test.true c.if-rest-at.false c.in_ok-at.ensures.value c.in_ok-at.ensures.within.0)

pub returns-clause-value : goal.returns-clause-value
returns-clause-value c =
    sym (c.items.invariant.1 ∙ ap (option_map (λ n. c.items.at + n)) (end_at c.args.quote c.args.is_bytes c.items.at c.args.rest.now c.items-test.false))
