use Rattle.std.proofs.Common.{rules, of_calls}
use Rattle.std.proofs.lemmas.Fn.{always_returns_same}
use Rattle.py_strs.proofs.Stripped.{front_by}
use Rattle.py_strs.proofs.splitting.without_front.Goals as goal

pub returns-clause-cut : goal.returns-clause-cut
returns-clause-cut c =
    let cut = front_by _ c.args.s.now c.trim_start_matches.result.now c.utf8.s c.trim_start_matches.ensures.matches (always_returns_same _ _ _ (λ a r f k. search (rules, of_calls))) in
    (cut.0.front, cut.0.split, cut.0.spaces)

pub returns-clause-bare : goal.returns-clause-bare
returns-clause-bare c = (front_by _ c.args.s.now c.trim_start_matches.result.now c.utf8.s c.trim_start_matches.ensures.matches (always_returns_same _ _ _ (λ a r f k. search (rules, of_calls)))).1
