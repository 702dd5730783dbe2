use Rattle.std.proofs.Common.{[], ◌∷◌}
use Rattle.py_ast.specs.declared.builtin.Builtin.TheVariants as builtin
use Rattle.language_rules.specs.Builtins.{builtin_rule}
use Rattle.object_operations.specs.declared.operation.Operation.TheVariants as operation
use Rattle.eval_frames.specs.declared.frame.Frame.TheVariants as frame
use Rattle.eval_frames.specs.declared.object_frames.OperationFrame.TheVariants as operation_frame
use Rattle.eval_frames.specs.Meaning.{operates_over}
use Rattle.eval_exprs.proofs.Moving.{means_as}
use Rattle.eval_exprs.proofs.Objects.{text_asked}
use Rattle.eval_exprs.proofs.builtins.text.Goals as goal

pub returns-clause-means : goal.returns-clause-means
returns-clause-means c = means_as c.operate_over.result c.operate_over.new.stack.items c.args.stack.now.items (operates_over (operation.Str c.args.value) (frame.Operation operation_frame.Text)) (builtin_rule builtin.Str (c.args.value ∷ [])) (text_asked c.args.value c.requires) c.operate_over.ensures.means
