use Rattle.std.proofs.Common.{◌≤◌, ◌<◌, ◌∙◌, sym, arith}
use Rattle.py_lexer.specs.Layout.{place_of, top}
use Rattle.py_lexer.proofs.LayoutLaws.{close_one, close_none}
use Rattle.py_lexer.proofs.reader.Reader.close_to.Goals as goal

pub suites-preserved : goal.suites-preserved
suites-preserved c =
    let deeper : c.args.width < top c.suites.self.indents = omega (arith, c.suites-test.true, c.top.ensures) in
    (c.suites.invariant.0 ∙ close_one c.args.width c.args.line (place_of c.suites.self) (place_of c.add.new.self) c.pop.new.self deeper c.pop.ensures c.in_ok-add.ensures.ok, c.in_ok-add.ensures.same ∙ c.suites.invariant.1)

pub returns-clause-ok : goal.returns-clause-ok
returns-clause-ok c =
    let rest : top c.suites.self.indents ≤ c.args.width = omega (arith, c.suites-test.false, c.top.ensures) in
    sym (c.suites.invariant.0 ∙ close_none c.args.width c.args.line (place_of c.suites.self) rest)
