-- How a text runs (Python Language Reference, "Structure of a program").
use Rattle.std.specs.Prelude.{ℕ, ◌==◌, ◌&&◌, ◌||◌, Bool, true, false, List, [], ◌∷◌, ◌++◌, length, Option, Some, None, if◌then◌else◌}
use Rattle.rp_base.specs.declared.exceptions.Beyond.TheVariants as beyond
use Rattle.py_ast.specs.declared.program.Program.{Program}
use Rattle.py_store.specs.declared.cell.Binding.{Binding}
use Rattle.py_store.specs.declared.cell.Cell.{Cell}
use Rattle.py_store.specs.declared.cell.Cell.TheVariants as cell
use Rattle.side_trees.specs.Trees.{Act, Stop}
use Rattle.language_rules.specs.Codes.{Env}
use Rattle.language_rules.specs.Going.{RuleTree, nowhere, looks, reads_cell, sets_cell}
use Rattle.language_rules.specs.Texts.{has_name, text_at}
use Rattle.language_rules.specs.Functions.{runs_body}
use Rattle.language_rules.specs.States.{Handling, namespace_number}

-- ---- the names of handlers

-- whether one of the bound names is among these
abbrev pub binds_one : List (List ℕ) → List Binding → Bool
binds_one names [] = false
binds_one names (b ∷ bs) = if has_name b.name names then true else binds_one names bs

-- each name once
abbrev pub with_names : List (List ℕ) → List (List ℕ) → List (List ℕ)
with_names [] reserved = reserved
with_names (n ∷ ns) reserved = with_names ns (if has_name n reserved then reserved else reserved ++ n ∷ [])

abbrev pub is_among : Option (List ℕ) → List (List ℕ) → Bool
is_among None names = false
is_among (Some name) names = has_name name names

-- whether one of these names stands now for an exception that the top of some text handles
abbrev pub handles_one : List (List ℕ) → List Handling → Bool
handles_one names [] = false
handles_one names (h ∷ hs) = if (h.scope == namespace_number) && h.bound && is_among h.name names then true else handles_one names hs

-- Such a name is reserved in the namespace from now on, and a text that has one that is bound there is outside the subset.
abbrev pub reserves_in : List Handling → List (List ℕ) → RuleTree → Cell → RuleTree
reserves_in handled names t (cell.Namespace bindings reserved) =
    if binds_one names bindings || handles_one names handled then Stop beyond.Name
    else sets_cell namespace_number (cell.Namespace bindings (with_names names reserved)) t
reserves_in handled names t _ = nowhere

-- the names are reserved, and then the rest comes
abbrev pub reserves : List (List ℕ) → RuleTree → RuleTree
reserves names t = looks (λ s. reads_cell namespace_number (reserves_in s.handled names t))

-- ---- a text

-- at the top of a text names are global
abbrev pub top_of : ℕ → Env
top_of number = record { text = number; function = None; scope = namespace_number }

-- its statements in turn, or an expression and its value
abbrev pub runs_program : ℕ → Option Program → RuleTree
runs_program number (Some p) = reserves p.handler_names (runs_body (top_of number) p.root)
runs_program number None = nowhere

-- the text of this number
abbrev pub runs_text : ℕ → RuleTree
runs_text number = looks (λ s. runs_program number (text_at s number))

-- a text becomes one of the side's, and runs
abbrev pub begins_text : Program → RuleTree
begins_text p = Act (λ s. record s { texts = s.texts ++ p ∷ [] }) (λ s. runs_text (length s.texts))
