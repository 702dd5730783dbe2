use Rattle.std.proofs.Common.{◌∙◌, sym, ap, ℕ, Some}
use Rattle.py_literals.proofs.Codes.{no_low, pair_of, code_is}
use Rattle.py_literals.proofs.item.char_of.Goals as goal

pub returns-in_err-low : goal.returns-in_err-low
returns-in_err-low c = c.from_residual-in_err-low.ensures ∙ sym (no_low c.args.a c.args.b c.args.c c.args.d c.in_err-low.ensures)

pub returns : goal.returns
returns c =
    let high = pair_of c.args.a c.args.b c.from.result (ap (λ (n : ℕ). Some n) c.from.ensures ∙ c.in_ok-high.ensures) in
    let low = pair_of c.args.c c.args.d c.from-2.result (ap (λ (n : ℕ). Some n) c.from-2.ensures ∙ c.in_ok-low.ensures) in
    code_is c.args.a c.args.b c.args.c c.args.d c.from.result c.from-2.result c.from_u32.result high low c.from_u32.ensures.value c.from_u32.ensures.cases
