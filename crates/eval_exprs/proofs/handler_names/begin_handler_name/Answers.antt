use Rattle.std.proofs.Common.{◌∙◌, ap, List, [], ◌∷◌, reverse}
use Rattle.std.proofs.lemmas.List.{reverse-append}
use Rattle.side_trees.specs.Trees.{Spend}
use Rattle.language_rules.specs.Codes.{Give}
use Rattle.language_rules.specs.Going.{done}
use Rattle.eval_frames.specs.declared.frame.Frame.{Frame}
use Rattle.eval_frames.specs.declared.frame.Frame.TheVariants as frame
use Rattle.eval_frames.specs.declared.handler_frame.HandlerFrame.TheVariants as handler_frame
use Rattle.eval_frames.specs.Meaning.{rest}
use Rattle.eval_exprs.proofs.handler_names.begin_handler_name.Goals as goal

pub returns-clause-means : goal.returns-clause-means
returns-clause-means c =
    ap (λ (fs : List Frame). Spend (Give done) (rest (reverse fs))) c.in_ok-push.ensures.items
    ∙ ap (λ (fs : List Frame). Spend (Give done) (rest fs)) (reverse-append c.args.stack.now.items (frame.Handler (handler_frame.Name c.args.env c.args.name c.args.reading) ∷ []))
