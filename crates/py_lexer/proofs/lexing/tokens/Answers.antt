use Rattle.std.proofs.Common.{◌≡◌, ◌∙◌, sym, ap, subst, arith, ℕ, List, drop, length, Ok}
use Rattle.py_lexer.specs.declared.token.Token.{Token}
use Rattle.py_lexer.specs.Reading.{tokens_of, read_on}
use Rattle.py_lexer.specs.Layout.{place_of, Stops}
use Rattle.py_lexer.specs.Order.{InOrder}
use Rattle.py_lexer.proofs.OrderLaws.{taken_ordered, finished_ordered, weaker}
use Rattle.py_lexer.proofs.ReadingLaws.{piece_step, stopped, from_here, answers_stop, read_end}
use Rattle.py_lexer.proofs.lexing.tokens.Goals as goal

pub pieces-smaller : goal.pieces-smaller
pieces-smaller c =
    let inv = c.pieces.invariant in
    let step = piece_step (place_of c.pieces.reader) (place_of c.take.new.self) c.as_bytes-bytes.result.now c.piece_at-piece.result c.pieces-test.true c.piece_at-piece.ensures.value c.piece_at-piece.ensures.within c.in_ok-take.ensures inv.3 inv.4 in
    omega (arith, step.5, step.1)

pub pieces-preserved : goal.pieces-preserved
pieces-preserved c =
    let inv = c.pieces.invariant in
    let step = piece_step (place_of c.pieces.reader) (place_of c.take.new.self) c.as_bytes-bytes.result.now c.piece_at-piece.result c.pieces-test.true c.piece_at-piece.ensures.value c.piece_at-piece.ensures.within c.in_ok-take.ensures inv.3 inv.4 in
    (inv.0 ∙ step.0, step.1, step.2, step.3, step.4, taken_ordered c.piece_at-piece.result (place_of c.pieces.reader) (place_of c.take.new.self) inv.5 c.in_ok-take.ensures)

pub returns-in_err-take-clause-read : goal.returns-in_err-take-clause-read
returns-in_err-take-clause-read c =
    let same : c.args.text.now ≡ c.as_bytes-bytes.result.now = sym c.as_bytes-bytes.ensures.value in
    let here = stopped (place_of c.pieces.reader) c.as_bytes-bytes.result.now c.piece_at-piece.result c.in_err-take.field-0.0 c.pieces-test.true c.piece_at-piece.ensures.value c.in_err-take.ensures in
    let whole = from_here (place_of c.pieces.reader) c.args.text.now c.in_err-take.field-0.0 (ap tokens_of same ∙ c.pieces.invariant.0 ∙ ap (λ (t : List ℕ). read_on (place_of c.pieces.reader) 0 (drop c.pieces.reader.at t)) (sym same))
    (subst (λ (t : List ℕ). Stops c.in_err-take.field-0.0 (read_on (place_of c.pieces.reader) 0 (drop c.pieces.reader.at t))) (sym same) here) in
    answers_stop (λ found. found.items) c.from_residual.result c.in_err-take.field-0.0 (tokens_of c.args.text.now) c.from_residual.ensures.1 whole

pub returns-clause-ordered : goal.returns-clause-ordered
returns-clause-ordered c =
    let long : length c.as_bytes-bytes.result.now ≡ length c.args.text.now = ap (λ (t : List ℕ). length t) c.as_bytes-bytes.ensures.value in
    let here : InOrder 0 c.finish.new.self.tokens.items c.pieces.reader.at = subst (λ (ts : List Token). InOrder 0 ts c.pieces.reader.at) (sym c.in_ok-finish.ensures.ok) (finished_ordered (place_of c.pieces.reader) c.pieces.invariant.5) in
    weaker 0 c.finish.new.self.tokens.items c.pieces.reader.at (length c.args.text.now) here (omega (arith, long, c.pieces.invariant.1))

pub returns-clause-read : goal.returns-clause-read
returns-clause-read c =
    let same : c.args.text.now ≡ c.as_bytes-bytes.result.now = sym c.as_bytes-bytes.ensures.value in
    ap tokens_of same ∙ c.pieces.invariant.0 ∙ read_end (place_of c.pieces.reader) c.pieces.reader.at c.as_bytes-bytes.result.now c.pieces-test.false
    ∙ ap (λ (ts : List Token). Ok ts) (sym c.in_ok-finish.ensures.ok)
