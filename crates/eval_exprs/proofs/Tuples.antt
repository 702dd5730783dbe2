-- The text of a tuple that is the only argument of `str` or `repr`.
use Rattle.std.proofs.Common.{◌≡◌, [], ◌∷◌, ◌∙◌, ap, refl, subst, List, Option, Some, None, Result, Ok, Err}
use Rattle.std.specs.Prelude.{IfOk, IfSome}
use Rattle.rp_base.specs.declared.ends.NoMemory.{NoMemory}
use Rattle.rp_base.specs.declared.value.Value.{Value}
use Rattle.py_ast.specs.declared.builtin.Builtin.{Builtin}
use Rattle.py_ast.specs.declared.builtin.Builtin.TheVariants as builtin
use Rattle.side_trees.specs.Trees.{bind}
use Rattle.language_rules.specs.Builtins.{builtin_rule}
use Rattle.language_rules.specs.Codes.{Step}
use Rattle.language_rules.specs.Going.{carry}
use Rattle.language_rules.specs.Printing.{gives_text, on_repr, on_str, on_text}
use Rattle.eval_exprs.specs.Steps.{IsOnlyTuple}

pub shown_so : (function : Builtin) (vs : List Value) (v : Value) (found : Option Value) → found ≡ Some v → IfSome found (λ w. builtin_rule function vs ≡ on_repr w gives_text) → builtin_rule function vs ≡ on_repr v gives_text
shown_so function vs v found is h = subst (λ (o : Option Value). IfSome o (λ w. builtin_rule function vs ≡ on_repr w gives_text)) is h

str_of_one : (v : Value) → builtin_rule builtin.Str (v ∷ []) ≡ on_str v gives_text
unfolding builtin_rule
str_of_one v = refl

repr_of_one : (v : Value) → builtin_rule builtin.Repr (v ∷ []) ≡ on_repr v gives_text
unfolding builtin_rule
repr_of_one v = refl

pub tuple_str : (function : Builtin) (vs : List Value) (r : Result (Option Value) NoMemory) → function ≡ builtin.Str → IfOk r (λ found. IfSome found (λ v. IsOnlyTuple vs v)) → IfOk r (λ found. IfSome found (λ v. builtin_rule function vs ≡ on_repr v gives_text))
tuple_str function vs (Ok (Some v)) is h = ap (λ (f : Builtin). builtin_rule f vs) is ∙ ap (λ (ws : List Value). builtin_rule builtin.Str ws) h.0 ∙ str_of_one v ∙ ap (λ (t : Step). bind (carry t) (on_text gives_text)) h.1
tuple_str function vs (Ok None) is h = tt
tuple_str function vs (Err e) is h = tt

pub tuple_repr : (function : Builtin) (vs : List Value) (r : Result (Option Value) NoMemory) → function ≡ builtin.Repr → IfOk r (λ found. IfSome found (λ v. IsOnlyTuple vs v)) → IfOk r (λ found. IfSome found (λ v. builtin_rule function vs ≡ on_repr v gives_text))
tuple_repr function vs (Ok (Some v)) is h = ap (λ (f : Builtin). builtin_rule f vs) is ∙ ap (λ (ws : List Value). builtin_rule builtin.Repr ws) h.0 ∙ repr_of_one v
tuple_repr function vs (Ok None) is h = tt
tuple_repr function vs (Err e) is h = tt
