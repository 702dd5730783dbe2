use Rattle.std.proofs.Common.{◌∙◌, [], ap}
use Rattle.rp_base.specs.declared.value.Value.{Value}
use Rattle.object_operations.specs.declared.operation.Operation.{Operation}
use Rattle.object_operations.specs.declared.operation.Operation.TheVariants as operation
use Rattle.object_operations.specs.declared.special.Special.TheVariants as special
use Rattle.eval_comparing.proofs.Moving.{means_as}
use Rattle.eval_frames.specs.Meaning.{operates_over}
use Rattle.eval_frames.specs.declared.frame.Frame.TheVariants as frame
use Rattle.eval_frames.specs.declared.list_frames.EqualityFrame.TheVariants as equality_frame
use Rattle.eval_frames.specs.declared.list_frames.ListPair.{ListPair}
use Rattle.language_rules.specs.CellComparing.{equal_lists}
use Rattle.eval_searching.proofs.comparing.begin_equality.Goals as goal

pub returns-clause-means : goal.returns-clause-means
returns-clause-means c =
    let pair : ListPair = record { list = c.args.list; other = c.args.other; op = c.args.op } in
    means_as c.operate_over.result c.operate_over.new.stack.items c.args.stack.now.items (operates_over c.special-operation.result (frame.Equality (equality_frame.Length pair))) (equal_lists c.args.list c.args.other c.args.op)
    (ap (λ (o : Operation). operates_over o (frame.Equality (equality_frame.Length pair))) (c.special-operation.ensures ∙ ap (λ (v : Value). operation.Special v special.Len []) c.in_ok-copy.ensures)) c.operate_over.ensures.means
