use Rattle.std.proofs.Common.{[], IfOk, subst, true, false}
use Rattle.rp_base.specs.declared.value.Value.{Value}
use Rattle.object_operations.specs.declared.operation.Operation.TheVariants as operation
use Rattle.object_operations.specs.declared.special.Special.TheVariants as special
use Rattle.eval_frames.specs.Meaning.{Means}
use Rattle.language_rules.specs.Arithmetic.{adds_length, adds_list}
use Rattle.language_rules.specs.Going.{asks, none}
use Rattle.language_rules.specs.Operators.{unsupported}
use Rattle.eval_lists.proofs.ListLemmas.{adds_as, any_stack, same_means}
use Rattle.eval_lists.proofs.specials.add_kind.Goals as goal

pub returns-in_ok-copy-clause-means : goal.returns-in_ok-copy-clause-means
returns-in_ok-copy-clause-means c =
    let asked = asks (operation.Special c.args.other.now special.Len []) (adds_length c.args.number c.args.other.now) in
    same_means asked (adds_list c.args.number c.args.other.now c.args.kind) c.add_lists.result c.add_lists.new.stack.items c.args.stack.now.items
    (adds_as c.args.number c.args.other.now c.args.kind c.is_list.result true (c.is_list.ensures none) c.if-is_list.true)
    (subst (λ (v : Value). IfOk c.add_lists.result (λ n. Means c.add_lists.new.stack.items n (asks (operation.Special v special.Len []) (adds_length c.args.number v)) c.args.stack.now.items)) c.in_ok-copy.ensures c.add_lists.ensures.means)

pub returns-else-is_list-clause-means : goal.returns-else-is_list-clause-means
returns-else-is_list-clause-means c =
    same_means unsupported (adds_list c.args.number c.args.other.now c.args.kind) c.refuse.result c.args.stack.now.items c.args.stack.now.items
    (adds_as c.args.number c.args.other.now c.args.kind c.is_list.result false (c.is_list.ensures none) c.if-is_list.false)
    (any_stack unsupported c.refuse.result c.args.stack.now.items c.refuse.ensures.means)
