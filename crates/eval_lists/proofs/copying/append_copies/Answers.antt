use Rattle.std.proofs.Common.{length, sym, ◌++◌, List, ap, ◌∙◌}
use Rattle.std.proofs.lemmas.Bool.{eqb-true}
use Rattle.rp_base.specs.declared.value.Value.{Value}
use Rattle.value_operators.proofs.TupleLemmas.{repeat_push, repeat_empty}
use Rattle.eval_lists.proofs.copying.append_copies.Goals as goal

pub returns-then-is_empty : goal.returns-then-is_empty
returns-then-is_empty c = c.new-all.ensures ∙ repeat_empty c.args.n c.args.items.now (eqb-true (length c.args.items.now) 0 (sym c.if-is_empty.ensures))

pub loop-preserved : goal.loop-preserved
loop-preserved c = c.in_ok-append_items.ensures ∙ ap (λ (l : List Value). l ++ c.args.items.now) c.loop.invariant ∙ repeat_push c.loop.counter c.args.items.now
