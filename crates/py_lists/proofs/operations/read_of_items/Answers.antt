use Rattle.object_operations.specs.declared.special.Special.TheVariants as special
use Rattle.py_store.specs.declared.cell.Cell.TheVariants as cell
use Rattle.py_lists.proofs.ArgumentLemmas.{no_arguments_of_len, no_arguments_of_bool, without, with_one}
use Rattle.py_lists.proofs.operations.read_of_items.Goals as goal

pub returns-in-Len : goal.returns-in-Len
returns-in-Len c = λ n s. without c.args.special special.Len c.args.arguments.now n s (cell.List c.args.items.now) c.length.result c.in-Len.is (no_arguments_of_len c.args.special c.args.arguments.now c.in-Len.is c.requires) (c.length.ensures n s)

pub returns-in-Bool : goal.returns-in-Bool
returns-in-Bool c = λ n s. without c.args.special special.Bool c.args.arguments.now n s (cell.List c.args.items.now) c.truth.result c.in-Bool.is (no_arguments_of_bool c.args.special c.args.arguments.now c.in-Bool.is c.requires) (c.truth.ensures n s)

pub returns-in-len1 : goal.returns-in-len1
returns-in-len1 c =
    λ n s. with_one c.args.special special.GetItem c.args.arguments.now c.key-item.result n s (cell.List c.args.items.now) c.get_item.result c.in-GetItem.is c.in-len1.len_at_least c.in-len1.len_below c.key-item.is (c.get_item.ensures n s)
