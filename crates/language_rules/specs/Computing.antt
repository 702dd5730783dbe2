-- The name that opens the recursions of this crate too: a worked example is `refl` under `unfolding rules_computing`.
use Rattle.std.specs.Prelude.{ℕ}
use Rattle.std.specs.Fmt.{digits}
use Rattle.ucd_category.specs.GeneralCategory.{general_category}
use Rattle.ucd_category.specs.GeneralCategoryRows.{general_category_rows}
use Rattle.ucd_table.specs.Rows.{value_in}
use Rattle.py_plain.specs.Computing.{plain_computing}
use Rattle.language_rules.specs.Boxing.{boxed, part_of, crossed}
use Rattle.language_rules.specs.Builtins.{builtin_rule}
use Rattle.language_rules.specs.Chains.{link_rule}
use Rattle.language_rules.specs.Comparing.{plain_equals, equals_step}
use Rattle.language_rules.specs.Operators.{unary_rule, binary_rule}
use Rattle.language_rules.specs.PlainItems.{item_of}
use Rattle.language_rules.specs.Printing.{repr_step}
use Rattle.language_rules.specs.References.{identities_in_value}

unfoldable pub rules_computing : ℕ
unfolding plain_computing digits general_category general_category_rows value_in plain_equals equals_step repr_step unary_rule binary_rule item_of link_rule builtin_rule boxed part_of crossed identities_in_value
rules_computing = 0
