-- Class statements (Python Language Reference, "Class definitions").
use Rattle.std.specs.Prelude.{ℕ, ◌==◌, ◌&&◌, List, [], ◌∷◌, Option, Some, None, if◌then◌else◌}
use Rattle.std.specs.Str.{bytes_eq}
use Rattle.rp_base.specs.declared.exceptions.Beyond.TheVariants as beyond
use Rattle.rp_base.specs.declared.value.Value.{Value}
use Rattle.rp_base.specs.declared.value.Value.TheVariants as value
use Rattle.py_ast.specs.declared.name.Name.{Name}
use Rattle.py_ast.specs.declared.statement.Statement.{Statement}
use Rattle.py_ast.specs.declared.statement.Statement.TheVariants as statement
use Rattle.py_ast.specs.declared.target.Target.{Target}
use Rattle.py_ast.specs.declared.target.Target.TheVariants as target
use Rattle.py_store.specs.Bindings.{bound_value, with_binding}
use Rattle.py_store.specs.declared.cell.Binding.{Binding}
use Rattle.py_store.specs.declared.cell.Cell.{Cell}
use Rattle.py_store.specs.declared.cell.Cell.TheVariants as cell
use Rattle.side_trees.specs.Trees.{Return, Stop, Spend}
use Rattle.language_rules.specs.Codes.{Env, Gives, Member}
use Rattle.language_rules.specs.States.{MadeClass, State, cell_at, namespace_number}
use Rattle.language_rules.specs.Going.{RuleTree, nowhere, done, looks, changes, makes, gives_new, on_value, evaluates}
use Rattle.language_rules.specs.Texts.{on_statement, on_target, on_suite, on_function}
use Rattle.language_rules.specs.Names.{binds_name}

-- ---- the base

-- what a global name stands for now
abbrev pub global_value : List ℕ → Option Cell → Option Value
global_value name (Some (cell.Namespace names reserved)) = bound_value name names
global_value name _ = None

-- the class that the last class statement of this name made in this run of the text
abbrev pub made_class : ℕ → List ℕ → List MadeClass → Option ℕ
made_class text name [] = None
made_class text name (c ∷ cs) = if (c.text == text) && bytes_eq name c.name then Some c.number else made_class text name cs

-- on with the class, where both are the same
abbrev pub on_same : (ℕ → RuleTree) → Option Value → Option ℕ → RuleTree
on_same f (Some (value.Own bound)) (Some made) = if bound == made then f bound else Stop beyond.Base
on_same f _ _ = Stop beyond.Base

-- the name of the base must stand now for the class that its own statement made
abbrev pub on_base : Env → Option Name → (Option ℕ → RuleTree) → RuleTree
on_base env None f = f None
on_base env (Some base) f = looks (λ s. on_same (λ n. f (Some n)) (global_value base.text (cell_at s namespace_number)) (made_class env.text base.text s.classes))

-- ---- the body

-- A method gives its function, and an attribute its value. A text by itself is evaluated.
abbrev pub member_rule : Env → Statement → RuleTree
member_rule env (statement.Def function) = gives_new (cell.Function env.text function env.scope)
member_rule env (statement.Assign place right) = evaluates env right (λ v. Return (Gives v))
member_rule env (statement.Alone n) = evaluates env n (λ v. Return done)
member_rule env statement.Pass = Return done
member_rule env _ = nowhere

-- on with the name, where the target is one
abbrev pub on_name : (List ℕ → RuleTree) → Target → RuleTree
on_name f (target.Name name) = f name
on_name f _ = nowhere

-- the attributes, with what a statement of the body gave
abbrev pub with_member : Env → List Binding → Value → (List Binding → RuleTree) → Statement → RuleTree
with_member env bindings v f (statement.Def function) = on_function env.text function (λ info. f (with_binding info.name v bindings))
with_member env bindings v f (statement.Assign place right) = on_target env place (on_name (λ name. f (with_binding name v bindings)))
with_member env bindings v f _ = f bindings

-- the attributes that the statements of a body make, each at one unit
abbrev pub on_members : Env → List ℕ → List Binding → (List Binding → RuleTree) → RuleTree
on_members env [] bindings f = f bindings
on_members env (n ∷ ns) bindings f =
    Spend (Member env n) (on_value (λ v. on_statement env n (with_member env bindings v (λ more. on_members env ns more f))))

-- ---- the statement

-- the class that the statement made is kept with its text and name
abbrev pub remembered : Env → List ℕ → ℕ → State → State
remembered env name number s = record s { classes = record { text = env.text; name = name; number = number } ∷ s.classes }

-- the base first, then the body, whose functions are made before the class, then the class and its name
abbrev pub class_rule : Env → List ℕ → Option Name → ℕ → RuleTree
class_rule env name base body =
    on_base env base (λ b. on_suite env body (λ statements. on_members env statements [] (λ attributes.
    makes (cell.Class name b attributes) (λ number. changes (remembered env name number) (binds_name env name (value.Own number) (Return done))))))
