-- What a look at the state finds, with which a class statement goes on.
use Rattle.std.specs.Prelude.{ℕ, List, Option, Some, None}
use Rattle.rp_base.specs.declared.exceptions.Beyond.TheVariants as beyond
use Rattle.py_ast.specs.declared.node.Node.{Node}
use Rattle.py_ast.specs.declared.node.Node.TheVariants as node
use Rattle.py_ast.specs.declared.target.Target.{Target}
use Rattle.py_ast.specs.declared.target.Target.TheVariants as target
use Rattle.py_store.specs.declared.cell.Binding.{Binding}
use Rattle.side_trees.specs.Trees.{Stop, bind}
use Rattle.language_rules.specs.Codes.{Completion}
use Rattle.language_rules.specs.Going.{RuleTree, nowhere}
use Rattle.language_rules.specs.States.{State}
use Rattle.eval_frames.specs.Meaning.{RunsAs}

-- on with the class, where there is one
abbrev pub on_class : {A : Type 0} → (A → RuleTree) → Option A → RuleTree
on_class f (Some base) = f base
on_class f None = Stop beyond.Base

-- In this state the computation goes on with this base, whatever it goes on with: no run tells them apart.
abbrev pub FindsBase : State → ((Option ℕ → RuleTree) → RuleTree) → Option (Option ℕ) → Type 0
FindsBase s t found = (f : Option ℕ → RuleTree) (k : Completion → RuleTree) → RunsAs s (bind (t f) k) (bind (on_class f found) k)

-- on with the attributes, where the text has what gives them
abbrev pub on_attributes : (List Binding → RuleTree) → Option (List Binding) → RuleTree
on_attributes f (Some attributes) = f attributes
on_attributes f None = nowhere

-- In this state the computation goes on with these attributes, whatever it goes on with: no run tells them apart.
abbrev pub FindsAttributes : State → ((List Binding → RuleTree) → RuleTree) → Option (List Binding) → Type 0
FindsAttributes s t found = (f : List Binding → RuleTree) (k : Completion → RuleTree) → RunsAs s (bind (t f) k) (bind (on_attributes f found) k)

-- the name that the node is, where it is a target that is one
abbrev pub name_of_target : Target → Option (List ℕ)
name_of_target (target.Name name) = Some name
name_of_target _ = None

abbrev pub named_target : Option Node → Option (List ℕ)
named_target (Some (node.Target t)) = name_of_target t
named_target _ = None
