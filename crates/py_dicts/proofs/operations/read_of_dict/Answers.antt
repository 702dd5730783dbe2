use Rattle.std.proofs.Common.{[], ◌∷◌}
use Rattle.object_operations.specs.declared.special.Special.TheVariants as special
use Rattle.py_store.specs.declared.cell.Cell.TheVariants as cell
use Rattle.py_dicts.proofs.ArgumentLemmas.{none_left, one_left, special_over}
use Rattle.py_dicts.proofs.operations.read_of_dict.Goals as goal

pub returns-in-empty : goal.returns-in-empty
returns-in-empty c =
    λ n s. special_over c.args.special special.Len c.args.arguments.now [] n s (cell.Dict c.args.entries.now c.args.shape) c.length.result c.in-Len.is (none_left c.args.arguments.now c.in-empty.len_below) (c.length.ensures n s)

pub returns-in-empty-arguments : goal.returns-in-empty-arguments
returns-in-empty-arguments c =
    λ n s. special_over c.args.special special.Bool c.args.arguments.now [] n s (cell.Dict c.args.entries.now c.args.shape) c.truth.result c.in-Bool.is (none_left c.args.arguments.now c.in-empty-arguments.len_below) (c.truth.ensures n s)

pub returns-in-len1 : goal.returns-in-len1
returns-in-len1 c =
    λ n s. special_over c.args.special special.GetItem c.args.arguments.now (c.key-item.result ∷ []) n s (cell.Dict c.args.entries.now c.args.shape) c.get_item.result c.in-GetItem.is
    (one_left c.args.arguments.now c.key-item.result c.in-len1.len_at_least c.in-len1.len_below c.key-item.is) (c.get_item.ensures n s)

pub returns-in-len1-arguments : goal.returns-in-len1-arguments
returns-in-len1-arguments c =
    λ n s. special_over c.args.special special.Contains c.args.arguments.now (c.key-item-then-arguments-lt2-2.result ∷ []) n s (cell.Dict c.args.entries.now c.args.shape) c.contains.result c.in-Contains.is
    (one_left c.args.arguments.now c.key-item-then-arguments-lt2-2.result c.in-len1-arguments.len_at_least c.in-len1-arguments.len_below c.key-item-then-arguments-lt2-2.is) (c.contains.ensures n s)
