use Rattle.std.proofs.Common.{◌∙◌, [], ap}
use Rattle.rp_base.specs.declared.value.Value.{Value}
use Rattle.object_operations.specs.declared.operation.Operation.{Operation}
use Rattle.object_operations.specs.declared.operation.Operation.TheVariants as operation
use Rattle.object_operations.specs.declared.special.Special.TheVariants as special
use Rattle.eval_comparing.proofs.Moving.{means_as}
use Rattle.eval_frames.specs.Meaning.{operates_over}
use Rattle.eval_frames.specs.declared.frame.Frame.TheVariants as frame
use Rattle.eval_frames.specs.declared.list_frames.AdditionFrame.TheVariants as addition_frame
use Rattle.language_rules.specs.Arithmetic.{adds_length}
use Rattle.language_rules.specs.Going.{asks}
use Rattle.eval_searching.proofs.adding.add_lists.Goals as goal

pub returns-clause-means : goal.returns-clause-means
returns-clause-means c =
    means_as c.operate_over.result c.operate_over.new.stack.items c.args.stack.now.items (operates_over c.special-operation.result (frame.Addition (addition_frame.Length c.args.list c.args.other))) (asks (operation.Special c.args.other special.Len []) (adds_length c.args.list c.args.other))
    (ap (λ (o : Operation). operates_over o (frame.Addition (addition_frame.Length c.args.list c.args.other))) (c.special-operation.ensures ∙ ap (λ (v : Value). operation.Special v special.Len []) c.in_ok-copy.ensures)) c.operate_over.ensures.means
