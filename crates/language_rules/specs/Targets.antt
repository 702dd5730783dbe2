-- What stands on the left: assignments, augmented assignments and `del` (Python Language Reference, "Assignment statements", "Augmented assignment statements", "The del statement").
use Rattle.std.specs.Prelude.{ℕ, List, [], ◌∷◌, length}
use Rattle.rp_base.specs.declared.operators.BinaryOp.{BinaryOp}
use Rattle.rp_base.specs.declared.value.Value.{Value}
use Rattle.py_ast.specs.declared.target.Target.{Target}
use Rattle.py_ast.specs.declared.target.Target.TheVariants as target
use Rattle.object_operations.specs.declared.operation.Operation.TheVariants as operation
use Rattle.object_operations.specs.declared.special.Special.TheVariants as special
use Rattle.side_trees.specs.Trees.{Return, bind}
use Rattle.language_rules.specs.Codes.{Env}
use Rattle.language_rules.specs.Going.{RuleTree, nowhere, done, on_value, evaluates, asks}
use Rattle.language_rules.specs.Texts.{on_target}
use Rattle.language_rules.specs.Names.{reads_name, binds_name}
use Rattle.language_rules.specs.Draining.{unpacks}
use Rattle.language_rules.specs.Operators.{augmented_rule}
use Rattle.language_rules.specs.PlainItems.{item_of}

-- ---- storing

-- a value becomes an attribute of an object, or an item of it
abbrev pub stores_attribute : Value → List ℕ → Value → RuleTree
stores_attribute receiver name v = asks (operation.SetAttr receiver name v) (λ a. Return done)

abbrev pub stores_item : Value → Value → Value → RuleTree
stores_item receiver key v = asks (operation.Special receiver special.SetItem (key ∷ v ∷ [])) (λ a. Return done)

-- ---- assignment

-- a name, an attribute or an item; the receiver is evaluated before the key
abbrev pub assigns_place : Env → Value → Target → RuleTree
assigns_place env v (target.Name name) = binds_name env name v (Return done)
assigns_place env v (target.Attribute receiver name) = evaluates env receiver (λ r. stores_attribute r name v)
assigns_place env v (target.Item receiver key) = evaluates env receiver (λ r. evaluates env key (λ k. stores_item r k v))
assigns_place env v (target.Tuple targets) = nowhere

-- targets with their values, from the left
abbrev pub assigns_each : Env → List ℕ → List Value → RuleTree
assigns_each env (n ∷ ns) (v ∷ vs) = bind (on_target env n (assigns_place env v)) (on_value (λ a. assigns_each env ns vs))
assigns_each env _ _ = Return done

-- targets with a comma take the items of the value, which are all unpacked first
abbrev pub assigns_target : Env → Value → Target → RuleTree
assigns_target env v (target.Tuple targets) = unpacks v (length targets) (assigns_each env targets)
assigns_target env v t = assigns_place env v t

-- the value goes to the target of this number
abbrev pub assigns : Env → ℕ → Value → RuleTree
assigns env n v = on_target env n (assigns_target env v)

-- ---- augmented assignment

-- the right side, behind the old value, and what the operator makes of both
abbrev pub augments : Env → BinaryOp → ℕ → Value → (Value → RuleTree) → RuleTree
augments env op right old f = evaluates env right (λ v. bind (augmented_rule op old v) (on_value f))

-- the parts of the target are evaluated once, then the old value, the right side and the operator, and the result is stored
abbrev pub augments_target : Env → BinaryOp → ℕ → Target → RuleTree
augments_target env op right (target.Name name) =
    reads_name env name (λ old. augments env op right old (λ v. binds_name env name v (Return done)))
augments_target env op right (target.Attribute receiver name) =
    evaluates env receiver (λ r. asks (operation.GetAttr r name) (λ old. augments env op right old (stores_attribute r name)))
augments_target env op right (target.Item receiver key) =
    evaluates env receiver (λ r. evaluates env key (λ k. bind (item_of r k) (on_value (λ old. augments env op right old (stores_item r k)))))
augments_target env op right (target.Tuple targets) = nowhere

-- `target op= right`
abbrev pub augmented_assignment_rule : Env → ℕ → BinaryOp → ℕ → RuleTree
augmented_assignment_rule env n op right = on_target env n (augments_target env op right)

-- ---- del

-- an attribute or an item is taken out by an operation
abbrev pub deletes_target : Env → Target → RuleTree
deletes_target env (target.Attribute receiver name) = evaluates env receiver (λ r. asks (operation.DelAttr r name) (λ a. Return done))
deletes_target env (target.Item receiver key) =
    evaluates env receiver (λ r. evaluates env key (λ k. asks (operation.Special r special.DelItem (k ∷ [])) (λ a. Return done)))
deletes_target env _ = nowhere

-- `del target`
abbrev pub delete_rule : Env → ℕ → RuleTree
delete_rule env n = on_target env n (deletes_target env)
