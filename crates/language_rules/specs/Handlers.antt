-- The exceptions that are being handled, and what the name of a handler stands for (Python Language Reference, "The try statement").
use Rattle.std.specs.Prelude.{ℕ, ◌==◌, Bool, true, false, ◌&&◌, List, [], ◌∷◌, map, Option, Some, None, if◌then◌else◌}
use Rattle.std.specs.Str.{bytes_eq}
use Rattle.rp_base.specs.Values.{tuple_of}
use Rattle.rp_base.specs.declared.exceptions.Raised.{Raised}
use Rattle.rp_base.specs.declared.plain.Plain.TheVariants as plain
use Rattle.rp_base.specs.declared.value.Value.TheVariants as value
use Rattle.py_plain.specs.Arithmetic.{limited}
use Rattle.side_trees.specs.Trees.{Return, bind}
use Rattle.language_rules.specs.Codes.{Env}
use Rattle.language_rules.specs.States.{Handling, State}
use Rattle.language_rules.specs.Going.{RuleTree, nowhere, looks, changes}
use Rattle.language_rules.specs.Answers.{answers, tuple_answers}
use Rattle.language_rules.specs.Texts.{has_name, text_at, handler_names_of}
use Rattle.language_rules.specs.Names.{unbound_local, unbound_name}
use Rattle.language_rules.specs.Exceptions.{exception_str, exception_repr}

-- ---- the exceptions that are being handled

-- whether it is the same run of code that handles it: the same text, and the same scope
abbrev pub is_of : Env → Handling → Bool
is_of env h = (h.text == env.text) && (h.scope == env.scope)

-- whether it has this name
abbrev pub is_called : List ℕ → Option (List ℕ) → Bool
is_called name None = false
is_called name (Some other) = bytes_eq name other

-- whether it has this name in this run of code
abbrev pub is_named : Env → List ℕ → Handling → Bool
is_named env name h = is_of env h && is_called name h.name

-- the innermost that passes the test
abbrev pub first_handling : (Handling → Bool) → List Handling → Option Handling
first_handling test [] = None
first_handling test (h ∷ hs) = if test h then Some h else first_handling test hs

-- the handler around this one that has the same name leaves the name unbound behind it
abbrev pub unbinds : Env → List ℕ → List Handling → List Handling
unbinds env name [] = []
unbinds env name (h ∷ hs) = if is_named env name h then record h { bound = false } ∷ hs else h ∷ unbinds env name hs

-- one without a name leaves the others as they are
abbrev pub unbinds_behind : Env → Option (List ℕ) → List Handling → List Handling
unbinds_behind env None hs = hs
unbinds_behind env (Some name) hs = unbinds env name hs

-- without the innermost one
abbrev pub without_first : List Handling → List Handling
without_first [] = []
without_first (h ∷ hs) = hs

-- the exception is being handled, innermost
abbrev pub entered : Env → Option (List ℕ) → Raised → State → State
entered env name r s = record s { handled = record { text = env.text; scope = env.scope; name = name; raised = r; bound = true } ∷ s.handled }

-- it is no longer being handled
abbrev pub left : Env → Option (List ℕ) → State → State
left env name s = record s { handled = unbinds_behind env name (without_first s.handled) }

-- code that runs while the exception is being handled; it is left by any end
abbrev pub handling : Env → Option (List ℕ) → Raised → RuleTree → RuleTree
handling env name r t = changes (entered env name r) (bind t (λ a. changes (left env name) (Return a)))

-- ---- the name of a handler

-- whether a text uses the name after `as`: then it stands for an exception wherever it stands
abbrev pub is_handler_name : State → Env → List ℕ → Bool
is_handler_name s env name = has_name name (handler_names_of (text_at s env.text))

-- the name after a handler inside has left it unbound: as a variable of a function, or as a global name
abbrev pub unbound_handler : Option ℕ → List ℕ → RuleTree
unbound_handler None name = unbound_name name
unbound_handler (Some f) name = unbound_local name

-- on with the exception, where the name still stands for it
abbrev pub handled_or : Env → List ℕ → (Raised → RuleTree) → Option Handling → RuleTree
handled_or env name f None = nowhere
handled_or env name f (Some h) = if h.bound then f h.raised else unbound_handler env.function name

-- the exception that the name stands for
abbrev pub on_handled : Env → List ℕ → (Raised → RuleTree) → RuleTree
on_handled env name f = looks (λ s. handled_or env name f (first_handling (is_named env name) s.handled))

-- `str(e)`, `repr(e)` and `e.args`, behind the units of their nodes
abbrev pub handled_str : Env → List ℕ → RuleTree
handled_str env name = on_handled env name (λ r. answers (limited (plain.Text (exception_str r.kind r.args))))

abbrev pub handled_repr : Env → List ℕ → RuleTree
handled_repr env name = on_handled env name (λ r. answers (limited (plain.Text (exception_repr r.kind r.args))))

abbrev pub handled_args : Env → List ℕ → RuleTree
handled_args env name = on_handled env name (λ r. tuple_answers (tuple_of (map value.Plain r.args)))
