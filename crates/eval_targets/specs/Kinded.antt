-- Augmented assignment, by the kinds of its operands, which are looked up before.
use Rattle.std.specs.Prelude.{◌≡◌, ◌||◌, [], ◌∷◌, is_some, Option, Some, None, Result, Ok, Err, if◌then◌else◌}
use Rattle.rp_base.specs.declared.ends.OpEnd.{OpEnd}
use Rattle.rp_base.specs.declared.operators.BinaryOp.{BinaryOp}
use Rattle.rp_base.specs.declared.operators.BinaryOp.TheVariants as op
use Rattle.rp_base.specs.declared.value.Value.{Value}
use Rattle.object_operations.specs.declared.operation.Operation.TheVariants as operation
use Rattle.object_operations.specs.declared.special.Special.{Special}
use Rattle.object_operations.specs.declared.special.Special.TheVariants as special
use Rattle.side_trees.specs.Trees.{Return}
use Rattle.language_rules.specs.Answers.{asked}
use Rattle.language_rules.specs.AtOnce.{Computes}
use Rattle.language_rules.specs.Codes.{Gives}
use Rattle.language_rules.specs.Going.{RuleTree}
use Rattle.language_rules.specs.Kinds.{is_reference}
use Rattle.language_rules.specs.Operators.{Operand, binary_rule, is_class, is_defined, is_dict, is_iterable, is_list, left_out, special_for}
use Rattle.language_rules.specs.TextFunctions.{as_int}
use Rattle.eval_targets.specs.declared.operands.Outcome.{Outcome}
use Rattle.eval_targets.specs.declared.operands.Outcome.TheVariants as outcome

-- what is decided where the code runs
abbrev pub unasked_by : BinaryOp → Operand → Operand → RuleTree
unasked_by o a b = left_out (is_defined o a b)

-- an object on the left
abbrev pub object_by : Option Special → BinaryOp → Operand → Operand → RuleTree
object_by (Some s) o a b = asked (operation.Special a.0 s (b.0 ∷ []))
object_by None o a b = unasked_by o a b

-- a binary operator
abbrev pub binary_by : BinaryOp → Operand → Operand → RuleTree
binary_by o a b =
    if is_reference a.0 then object_by (special_for o) o a b
    else (if is_reference b.0 then unasked_by o a b else binary_rule o a.0 b.0)

-- `|=` of a dict
abbrev pub update_by : Operand → RuleTree
update_by b = left_out (is_iterable b || is_class b)

-- what `x op= y` binds
abbrev pub augmented_by : BinaryOp → Operand → Operand → RuleTree
augmented_by op.Add a b = if is_list a then asked (operation.Special a.0 special.IAdd (b.0 ∷ [])) else binary_by op.Add a b
augmented_by op.Mul a b = if is_list a then left_out (is_some (as_int b.0)) else binary_by op.Mul a b
augmented_by op.Or a b = if is_dict a then update_by b else binary_by op.Or a b
augmented_by o a b = binary_by o a b

-- The operator comes to a value, or it is asked of the left operand, or it ends otherwise.
abbrev pub Becomes : RuleTree → Value → Value → Result Outcome OpEnd → Type 0
Becomes t a b (Ok (outcome.Made v)) = t ≡ Return (Gives v)
Becomes t a b (Ok (outcome.Asked s)) = t ≡ asked (operation.Special a s (b ∷ []))
Becomes t a b (Err e) = Computes t (Err e)
