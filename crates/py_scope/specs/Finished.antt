-- What the functions of a script keep: their locals, and the names that they take from around.
use Rattle.std.specs.Prelude.{ℕ, suc, Bool, ◌&&◌, ◌||◌, ◌==◌, not, List, [], ◌∷◌, ◌++◌, map}
use Rattle.std.specs.List.{list_any}
use Rattle.py_ast.specs.declared.program.FunctionInfo.{FunctionInfo}
use Rattle.py_ast.specs.declared.program.Program.{Program}
use Rattle.py_mentions.specs.declared.mention.Mention.{Mention}
use Rattle.py_scope.specs.declared.locals.LocalFacts.{LocalFacts}
use Rattle.py_scope.specs.Forms.{binds, is_caught, looks_up, is_number}
use Rattle.py_scope.specs.Tables.{local_facts}
use Rattle.py_scope.specs.Scopes.{around, is_kept, passing}
use Rattle.py_scope.specs.Names.{names_where}

-- it is neither a parameter nor declared
abbrev pub is_plain : LocalFacts → Bool
is_plain l = not (l.is_parameter || (l.is_global || l.is_nonlocal))

-- the mention binds a local of the function that is no parameter
abbrev pub binds_local : List Mention → ℕ → Mention → Bool
binds_local ms f m = is_number f m.function && (binds m.form && is_plain (local_facts ms f m.name))

unfoldable pub other_locals : List Mention → List Mention → ℕ → List (List ℕ)
other_locals ms some f = names_where (binds_local ms f) some

abbrev pub is_among : List ℕ → ℕ → Bool
is_among gs f = list_any (λ g. g == f) gs

-- the mention takes its name, through the function, from a function around that one
abbrev pub takes_through : List Mention → List FunctionInfo → ℕ → Mention → Bool
takes_through ms fs f m = (looks_up m.form && is_kept ms (around fs m.function) m.name) && is_among (passing ms (around fs m.function) m.name) f

unfoldable pub free_names : List Mention → List FunctionInfo → List Mention → ℕ → List (List ℕ)
free_names ms fs some f = names_where (takes_through ms fs f) some

-- a function stands inside it
unfoldable pub has_inner : List FunctionInfo → ℕ → Bool
has_inner fs f = list_any (λ i. is_number f i.parent) fs

abbrev pub parameter_names : FunctionInfo → List (List ℕ)
parameter_names info = map (λ n. n.text) info.parameters

abbrev pub finished_function : List Mention → List FunctionInfo → ℕ → FunctionInfo → FunctionInfo
finished_function ms fs f info = record info {
  locals = parameter_names info ++ other_locals ms ms f;
  free = free_names ms fs ms f;
  has_inner = has_inner fs f;
}

unfoldable pub finished_from : List Mention → List FunctionInfo → ℕ → List FunctionInfo → List FunctionInfo
finished_from ms fs f [] = []
finished_from ms fs f (info ∷ rest) = finished_function ms fs f info ∷ finished_from ms fs (suc f) rest

abbrev pub handled : Mention → Bool
handled m = is_caught m.form

unfoldable pub handler_names : List Mention → List (List ℕ)
handler_names ms = names_where handled ms

-- the script with what its functions keep, and its handlers' names
abbrev pub finished : List Mention → Program → Program
finished ms p = record p { functions = finished_from ms p.functions 0 p.functions; handler_names = handler_names ms }
