use Rattle.std.proofs.Common.{rules, of_calls}
use Rattle.std.proofs.lemmas.Fn.{always_returns_same}
use Rattle.py_strs.proofs.Stripped.{front_by, back_by, stripped}
use Rattle.py_strs.proofs.stripping.strip_text.Goals as goal

pub returns : goal.returns
returns c =
    let front = front_by _ c.args.s.now c.trim_start_matches.result.now c.utf8.s c.trim_start_matches.ensures.matches (always_returns_same _ _ _ (λ a r f k. search (rules, of_calls))) in
    let back = back_by _ c.trim_start_matches.result.now c.trim_end_matches.result.now c.trim_start_matches.utf8 c.trim_end_matches.ensures.matches (always_returns_same _ _ _ (λ a r f k. search (rules, of_calls))) in
    stripped c.args.s.now c.trim_start_matches.result.now c.trim_end_matches.result.now front back
