use Rattle.std.proofs.Common.{◌∙◌, sym, arith}
use Rattle.py_lexer.proofs.SizeLaws.{comment_step}
use Rattle.py_lexer.proofs.spelling.comment_size.Goals as goal

pub bytes-preserved : goal.bytes-preserved
bytes-preserved c =
    let step = comment_step c.args.rest.now c.bytes.size c.bytes-test.true (sym c.line_end_size.ensures.value ∙ c.if-line_end_size-eq0.true) in
    (omega arith, c.bytes.invariant.1 ∙ omega (arith, step))
