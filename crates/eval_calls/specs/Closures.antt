-- What is called: a function, a bound method, a class, or what can't be called.
use Rattle.std.specs.Prelude.{ℕ, List, ◌∷◌}
use Rattle.rp_base.specs.declared.value.Value.{Value}
use Rattle.object_operations.specs.declared.operation.Operation.TheVariants as operation
use Rattle.language_rules.specs.Answers.{asked}
use Rattle.language_rules.specs.Calls.{makes_instance, method_rule, not_callable}
use Rattle.language_rules.specs.Functions.{calls_function}
use Rattle.language_rules.specs.Going.{RuleTree}
use Rattle.eval_calls.specs.declared.calling.Callee.{Callee}
use Rattle.eval_calls.specs.declared.calling.Callee.TheVariants as callee

-- the cell of this number is called
abbrev pub calls_callee : ℕ → Callee → List Value → RuleTree
calls_callee n (callee.Function c) arguments = calls_function c.text c.function c.scope arguments
calls_callee n (callee.Method receiver function) arguments = asked (operation.Call function (receiver ∷ arguments))
calls_callee n (callee.Builtin receiver m) arguments = method_rule receiver m arguments
calls_callee n callee.Class arguments = makes_instance n arguments
calls_callee n callee.Other arguments = not_callable
