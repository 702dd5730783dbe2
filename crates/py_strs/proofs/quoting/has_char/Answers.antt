use Rattle.std.proofs.Common.{◌==◌, rules}
use Rattle.std.proofs.lemmas.Iterator.{YieldsList-from_chars}
use Rattle.std.proofs.lemmas.Iterator.Search.{any_from_yields_List}
use borrow.Author.Tests.{tests}
use Rattle.py_strs.proofs.quoting.has_char.Goals as goal

pub returns : goal.returns
returns c = any_from_yields_List (λ x. x == c.args.wanted) _ _ _ c.any.ensures.ran (YieldsList-from_chars c.args.s.now c.utf8.s cc) (λ x b q k. search (rules, tests))
