-- States in which code reads its texts, and an exception that begins to be handled.
use Rattle.std.specs.Prelude.{◌≡◌, ℕ, true, List, ◌∷◌, reverse, Option}
use Rattle.rp_base.specs.declared.exceptions.Raised.{Raised}
use Rattle.py_ast.specs.declared.program.Program.{Program}
use Rattle.language_rules.specs.Codes.{Env}
use Rattle.language_rules.specs.States.{Handling, State}

-- the state with these texts
abbrev pub reading : State → List Program → State
reading s texts = record s { texts = texts }

-- it is the innermost, and so the last
abbrev pub IsEntered : Env → Option (List ℕ) → Raised → List Handling → List Handling → Type 0
IsEntered env name r before after = reverse after ≡ record { text = env.text; scope = env.scope; name = name; raised = r; bound = true } ∷ reverse before
