use Rattle.std.proofs.Common.{IfOk, ap, sym, subst}
use Rattle.rp_base.specs.declared.value.Value.{Value}
use Rattle.eval_frames.specs.Meaning.{Means}
use Rattle.language_rules.specs.Codes.{AList}
use Rattle.language_rules.specs.Draining.{goes_over, not_iterable}
use Rattle.eval_lists.specs.Extending.{extended, way_taken}
use Rattle.eval_lists.specs.declared.draining.Way.{Way}
use Rattle.eval_lists.proofs.ListLemmas.{any_stack, same_means}
use Rattle.eval_lists.proofs.draining.take_way.Goals as goal

pub returns-in_ok-copy-in-Over-clause-means : goal.returns-in_ok-copy-in-Over-clause-means
returns-in_ok-copy-in-Over-clause-means c =
    let over = goes_over AList c.args.more.now (extended c.args.list) in
    same_means over (way_taken c.args.way over) c.go_over.result c.go_over.new.stack.items c.args.stack.now.items (ap (λ (w : Way). way_taken w over) (sym c.in-Over.is))
    (subst (λ (v : Value). IfOk c.go_over.result (λ n. Means c.go_over.new.stack.items n (goes_over AList v (extended c.args.list)) c.args.stack.now.items)) c.in_ok-copy-in-Over.ensures c.go_over.ensures.means)

pub returns-in-Not-clause-means : goal.returns-in-Not-clause-means
returns-in-Not-clause-means c =
    let over = goes_over AList c.args.more.now (extended c.args.list) in
    same_means not_iterable (way_taken c.args.way over) c.refuse.result c.args.stack.now.items c.args.stack.now.items (ap (λ (w : Way). way_taken w over) (sym c.in-Not.is))
    (any_stack not_iterable c.refuse.result c.args.stack.now.items c.refuse.ensures.means)
