-- Worked examples: rules and scopes of small scripts.
use Rattle.std.proofs.Common.{◌≡◌, ℕ, true, false, List, [], ◌∷◌, codes, Option, Some, None, refl}
use Rattle.rp_base.specs.declared.rules.Rule.TheVariants as rule
use Rattle.py_ast.specs.declared.program.FunctionInfo.{FunctionInfo}
use Rattle.py_mentions.specs.declared.mention.Form.{Form}
use Rattle.py_mentions.specs.declared.mention.Form.TheVariants as form
use Rattle.py_mentions.specs.declared.mention.Mention.{Mention}
use Rattle.py_scope.specs.Words.{is_left_out, is_special}
use Rattle.py_scope.specs.Finished.{free_names, other_locals}
use Rattle.py_scope.specs.Rules.{broken_names}
use Rattle.py_scope.specs.Computing.{scopes_compute}

abbrev at : ℕ → Option ℕ → Form → List ℕ → Mention
at line f how name = record { name = name; line = line; function = f; form = how; is_guarded = false; class = None }

abbrev inside : Option ℕ → FunctionInfo
inside parent = record { name = codes "f"; parameters = []; locals = []; free = []; has_inner = false; parent = parent; body = 0 }

-- def f(): print(b); a = 1; b = 2
--     def g(): nonlocal a; a = b
abbrev two_functions : List Mention
two_functions =
    at 1 None form.Function (codes "f") ∷ at 1 (Some 0) form.Read (codes "print") ∷ at 1 (Some 0) form.Read (codes "b") ∷ at 1 (Some 0) form.Target (codes "a") ∷ at 1 (Some 0) form.Target (codes "b")
    ∷ at 2 (Some 0) form.Function (codes "g") ∷ at 2 (Some 1) form.Nonlocal (codes "a") ∷ at 2 (Some 1) form.Target (codes "a") ∷ at 2 (Some 1) form.Read (codes "b") ∷ []

pub locals_by_first_binding : other_locals two_functions two_functions 0 ≡ codes "a" ∷ codes "b" ∷ codes "g" ∷ []
unfolding scopes_compute
locals_by_first_binding = refl

pub declared_is_no_local : other_locals two_functions two_functions 1 ≡ []
unfolding scopes_compute
declared_is_no_local = refl

pub free_by_first_mention : free_names two_functions (inside None ∷ inside (Some 0) ∷ []) two_functions 1 ≡ codes "a" ∷ codes "b" ∷ []
unfolding scopes_compute
free_by_first_mention = refl

pub nothing_is_broken : broken_names two_functions (inside None ∷ inside (Some 0) ∷ []) ≡ []
unfolding scopes_compute
nothing_is_broken = refl

-- x = 1
-- def f(): nonlocal x
pub nonlocal_of_a_global : broken_names (at 1 None form.Target (codes "x") ∷ at 2 None form.Function (codes "f") ∷ at 2 (Some 0) form.Nonlocal (codes "x") ∷ []) (inside None ∷ []) ≡ record { line = 2; rule = rule.S11 } ∷ []
unfolding scopes_compute
nonlocal_of_a_global = refl

-- raise oops: no class, and no handler's name
pub raise_of_a_name : broken_names (at 1 None form.Raised (codes "oops") ∷ []) [] ≡ record { line = 1; rule = rule.S2 } ∷ []
unfolding scopes_compute
raise_of_a_name = refl

pub other_errors : is_left_out (codes "OSError") ≡ true
unfolding scopes_compute
other_errors = refl

pub own_errors : is_left_out (codes "KeyError") ≡ false
unfolding scopes_compute
own_errors = refl

pub init_has_a_receiver : is_special (codes "__init__") 0 ≡ false
unfolding scopes_compute
init_has_a_receiver = refl
