use Rattle.std.proofs.Common.{rules, of_calls, ◌∙◌, sym, ap, ◌++◌, ℕ, List, append-nil}
use Rattle.std.proofs.lemmas.Fn.{always_returns_same}
use Rattle.std.proofs.lemmas.Str.{chars-nil}
use Rattle.std.specs.Str.{chars}
use Rattle.py_strs.specs.Splitting.{is_spaced}
use Rattle.py_strs.proofs.Cuts.{WordCut, word_all, word_found, word_some, falls, characters_some}
use Rattle.py_strs.proofs.splitting.first_word.Goals as goal

found : (c : goal.After-split_at) → WordCut c.args.s.now c.split_at.result.0.now c.split_at.result.1.now
found c = word_found _ c.args.s.now c.split_at.result.0.now c.split_at.result.1.now c.in-Some.at c.utf8.s c.split_at.ensures.front c.split_at.ensures.back c.in-Some.ensures.cases (always_returns_same _ _ _ (λ a r f k. search (rules, of_calls)))

pub returns-in-Some-clause-split : goal.returns-in-Some-clause-split
returns-in-Some-clause-split c = (found c).split

pub returns-in-Some-clause-word : goal.returns-in-Some-clause-word
returns-in-Some-clause-word c = (found c).word

pub returns-in-Some-clause-rest : goal.returns-in-Some-clause-rest
returns-in-Some-clause-rest c = (found c).rest

pub returns-in-Some-clause-some : goal.returns-in-Some-clause-some
returns-in-Some-clause-some c = word_some c.args.s.now c.split_at.result.0.now c.split_at.result.1.now c.utf8.s c.requires.some c.requires.bare (found c)

pub returns-in-Some-clause-falls : goal.returns-in-Some-clause-falls
returns-in-Some-clause-falls c = falls c.args.s.now c.split_at.result.0.now c.split_at.result.1.now (found c) (word_some c.args.s.now c.split_at.result.0.now c.split_at.result.1.now c.utf8.s c.requires.some c.requires.bare (found c))

pub returns-in-None-clause-split : goal.returns-in-None-clause-split
returns-in-None-clause-split c = sym (ap (λ (l : List ℕ). chars c.args.s.now ++ l) chars-nil ∙ append-nil (chars c.args.s.now))

pub returns-in-None-clause-word : goal.returns-in-None-clause-word
returns-in-None-clause-word c = word_all _ c.args.s.now c.utf8.s c.in-None.ensures.cases (always_returns_same _ _ _ (λ a r f k. search (rules, of_calls)))

pub returns-in-None-clause-rest : goal.returns-in-None-clause-rest
returns-in-None-clause-rest c = ap is_spaced chars-nil

pub returns-in-None-clause-some : goal.returns-in-None-clause-some
returns-in-None-clause-some c = characters_some c.args.s.now c.utf8.s c.requires.some
