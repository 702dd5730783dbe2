-- A frame that is pushed goes on with the end of what comes over it.
use Rattle.std.proofs.Common.{◌≡◌, List, [], ◌∷◌, ◌++◌, reverse, Result, Ok, Err, IfOk, sym, ◌∙◌, ap}
use Rattle.std.proofs.lemmas.List.{reverse-append}
use Rattle.rp_base.specs.declared.ends.NoMemory.{NoMemory}
use Rattle.side_trees.proofs.BindLaw.{bind-bind}
use Rattle.side_trees.specs.Trees.{bind}
use Rattle.language_rules.specs.Going.{RuleTree}
use Rattle.eval_frames.specs.declared.frame.Frame.{Frame}
use Rattle.eval_frames.specs.declared.next.Next.{Next}
use Rattle.eval_frames.specs.Meaning.{Means, rest, resume}

pub pushed : (t : RuleTree) (w : Frame) (stack between now : List Frame) (r : Result Next NoMemory)
    → between ≡ stack ++ w ∷ [] → IfOk r (λ n. Means now n t between) → IfOk r (λ n. Means now n (bind t (resume w)) stack)
pushed t w stack between now (Ok n) is h =
    h
    ∙ ap (λ (fs : List Frame). bind t (rest (reverse fs))) is
    ∙ ap (λ (fs : List Frame). bind t (rest fs)) (reverse-append stack (w ∷ []))
    ∙ sym (bind-bind t (resume w) (rest (reverse stack)))
pushed t w stack between now (Err e) is h = h
