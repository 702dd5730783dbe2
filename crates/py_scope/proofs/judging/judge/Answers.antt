use Rattle.std.proofs.Common.{◌≡◌, ◌∙◌, ap, sym, Some, None, List}
use Rattle.py_mentions.specs.declared.mention.Mention.{Mention}
use Rattle.py_mentions.specs.Walks.{broken_in, mentions_in}
use Rattle.py_mentions.specs.Worst.{worst, worst_with, worst_more}
use Rattle.py_mentions.proofs.WorstLaws.{is_worst, no_worst}
use Rattle.py_scope.specs.Finished.{finished_from, handler_names}
use Rattle.py_scope.specs.Judging.{broken}
use Rattle.py_scope.specs.Rules.{broken_names}
use Rattle.py_scope.proofs.judging.judge.Goals as goal

pub returns-in-Some : goal.returns-in-Some
returns-in-Some c =
    let p = c.args.program in
    let found : c.as_slice.result.now ≡ mentions_in p = c.as_slice.ensures ∙ c.in_ok-places.ensures.mentions in
    let all : c.in_ok-settled.settled.worst ≡ worst (broken p) =
    c.in_ok-settled.ensures.worst ∙ (λ j. worst_with (c.in_ok-places.ensures.worst j) (broken_names (found j) p.functions))
    ∙ sym (worst_more None (broken_in p) (broken_names (mentions_in p) p.functions)) in
    let is : c.in_ok-settled.settled.worst ≡ Some c.in-Some.refused = cc in
    is_worst (broken p) c.in-Some.refused (sym all ∙ is)

pub returns : goal.returns
returns c =
    let p = c.args.program in
    let found : c.as_slice.result.now ≡ mentions_in p = c.as_slice.ensures ∙ c.in_ok-places.ensures.mentions in
    let all : c.in_ok-settled.settled.worst ≡ worst (broken p) =
    c.in_ok-settled.ensures.worst ∙ (λ j. worst_with (c.in_ok-places.ensures.worst j) (broken_names (found j) p.functions))
    ∙ sym (worst_more None (broken_in p) (broken_names (mentions_in p) p.functions)) in
    let none : c.in_ok-settled.settled.worst ≡ None = cc in
    let functions = c.in_ok-settled.ensures.functions ∙ ap (λ (ms : List Mention). finished_from ms p.functions 0 p.functions) found in
    let handlers = c.in_ok-settled.ensures.handlers ∙ ap handler_names found in
    (no_worst (broken p) (sym all ∙ none), λ j. record p { functions = functions j; handler_names = handlers j })
