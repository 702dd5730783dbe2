use Rattle.std.proofs.Common.{rules, ◌≡◌, length}
use Rattle.std.proofs.lemmas.List.{nil_from_length}
use Rattle.py_strs.proofs.Cuts.{start_words, step_word, end_words}
use Rattle.py_strs.proofs.splitting.words.Goals as goal

pub words-init : goal.words-init
words-init c =
    let cut = c.without_front-rest.ensures.cut in
    (c.without_front-rest.utf8, c.without_front-rest.ensures.bare, start_words c.args.s.now c.without_front-rest.result.now cut.0 c.new-words.result.items c.new-words.ensures.items cut.1 cut.2)

pub words-preserved : goal.words-preserved
words-preserved c =
    let cut = c.without_front-rest-in-words.ensures.cut in (
      c.without_front-rest-in-words.utf8,
      c.without_front-rest-in-words.ensures.bare,
      step_word c.args.s.now c.words.rest.now c.first_word.result.0.now c.first_word.result.1.now c.without_front-rest-in-words.result.now cut.0 c.words.words.items c.push.new.self.items c.in_ok-from_str.field-0
          c.first_word.ensures.split c.first_word.ensures.word c.first_word.ensures.rest c.first_word.ensures.some cut.1 cut.2 c.in_ok-from_str.ensures.ok c.in_ok-push.ensures.items c.words.invariant.2,
    )

pub returns : goal.returns
returns c =
    let none : length c.words.rest.now ≡ 0 = search rules in
    end_words c.args.s.now c.words.rest.now c.words.words.items (nil_from_length c.words.rest.now none) c.words.invariant.2
