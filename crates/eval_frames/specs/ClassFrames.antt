-- What waits for the end of a statement of a class body, and what it makes of a value.
use Rattle.std.specs.Prelude.{ℕ, List, Option, reverse}
use Rattle.rp_base.specs.declared.value.Value.{Value}
use Rattle.rp_base.specs.declared.value.Value.TheVariants as value
use Rattle.py_store.specs.declared.cell.Binding.{Binding}
use Rattle.py_store.specs.declared.cell.Cell.TheVariants as cell
use Rattle.side_trees.specs.Trees.{Return}
use Rattle.language_rules.specs.Classes.{on_members, remembered, with_member}
use Rattle.language_rules.specs.Codes.{Env}
use Rattle.language_rules.specs.Going.{RuleTree, changes, done, makes}
use Rattle.language_rules.specs.Names.{binds_name}
use Rattle.language_rules.specs.Texts.{on_statement}
use Rattle.eval_frames.specs.declared.class_frame.ClassFrame.{ClassFrame}

-- the class with these attributes is made, and its name bound
abbrev pub ends_class : Env → List ℕ → Option ℕ → List Binding → RuleTree
ends_class env name base attributes = makes (cell.Class name base attributes) (λ number. changes (remembered env name number) (binds_name env name (value.Own number) (Return done)))

-- the statement's attribute, and the statements behind it
abbrev pub through_class : ClassFrame → Value → RuleTree
through_class f v = on_statement f.env f.member (with_member f.env f.attributes v (λ attributes. on_members f.env (reverse f.waiting) attributes (ends_class f.env f.name f.base)))
