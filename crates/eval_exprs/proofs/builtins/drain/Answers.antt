use Rattle.std.proofs.Common.{◌∙◌, sym}
use Rattle.eval_exprs.proofs.Objects.{kind_gone_over, kind_refused}
use Rattle.eval_exprs.proofs.builtins.drain.Goals as goal

pub returns-then-is_gone_over-clause-means : goal.returns-then-is_gone_over-clause-means
returns-then-is_gone_over-clause-means c = kind_gone_over c.go_over.result c.go_over.new.stack.items c.args.stack.now.items c.args.function c.args.value c.kind_of-kind.result c.args.store.now.cells c.requires.drained c.requires.object c.kind_of-kind.ensures (sym c.is_gone_over.ensures ∙ c.if-is_gone_over.true) c.go_over.ensures.means

pub returns-else-is_gone_over-clause-means : goal.returns-else-is_gone_over-clause-means
returns-else-is_gone_over-clause-means c = kind_refused c.refuse_kind.result c.args.stack.now.items c.args.function c.args.value c.kind_of-kind.result c.args.store.now.cells c.requires.drained c.requires.object c.kind_of-kind.ensures c.refuse_kind.ensures.means
