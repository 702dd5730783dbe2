-- What is read and not yet used.
use Rattle.std.specs.Prelude.{ℕ, List, [], ◌∷◌, Option, Some, None, slice_get, slice_set}
use Rattle.py_ast.specs.declared.program.FunctionInfo.{FunctionInfo}
use Rattle.py_parser.specs.declared.parts.Form.{Form}
use Rattle.py_parser.specs.declared.parts.Form.TheVariants as form

abbrev pub front : {A : Type 0} → List A → Option A
front [] = None
front (x ∷ xs) = Some x

-- places with a comma are targets as long as each is a place
abbrev pub joined : Form → Form → Form
joined form.Places form.Place = form.Places
joined _ _ = form.Value

abbrev pub with_body_at : ℕ → ℕ → Option FunctionInfo → List FunctionInfo → List FunctionInfo
with_body_at number body (Some f) fs = slice_set fs number (record f { body = body })
with_body_at number body None fs = fs

-- the function of this number gets its body
abbrev pub with_body : ℕ → ℕ → List FunctionInfo → List FunctionInfo
with_body number body fs = with_body_at number body (slice_get fs number) fs
