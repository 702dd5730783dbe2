-- Where a name is looked up (Python Language Reference, "Resolution of names").
use Rattle.std.specs.Prelude.{ℕ, zero, suc, Bool, true, false, ◌||◌, List, [], ◌∷◌, length, slice_get, Option, Some, None, if◌then◌else◌}
use Rattle.py_ast.specs.declared.program.FunctionInfo.{FunctionInfo}
use Rattle.py_mentions.specs.declared.mention.Mention.{Mention}
use Rattle.py_scope.specs.declared.holding.Holding.{Holding}
use Rattle.py_scope.specs.declared.holding.Holding.TheVariants as holding
use Rattle.py_scope.specs.declared.locals.LocalFacts.{LocalFacts}
use Rattle.py_scope.specs.Tables.{local_facts}

-- ---- functions around functions

abbrev pub parent_in : Option FunctionInfo → Option ℕ
parent_in None = None
parent_in (Some info) = info.parent

abbrev pub parent_of : List FunctionInfo → ℕ → Option ℕ
parent_of fs f = parent_in (slice_get fs f)

-- a function and the functions around it, from the inside out, at most so many
unfoldable pub outwards : ℕ → List FunctionInfo → Option ℕ → List ℕ
outwards zero fs o = []
outwards (suc most) fs None = []
outwards (suc most) fs (Some f) = f ∷ outwards most fs (parent_of fs f)

-- a function and all functions around it
abbrev pub around : List FunctionInfo → Option ℕ → List ℕ
around fs o = outwards (length fs) fs o

-- ---- what a function does with a name

-- a declaration decides, else a binding
abbrev pub holding_by : LocalFacts → Holding
holding_by l = if l.is_global then holding.Global else if l.is_nonlocal then holding.Passes else if l.is_parameter || l.is_bound then holding.Own else holding.Passes

abbrev pub holding_of : List Mention → ℕ → List ℕ → Holding
holding_of ms f n = holding_by (local_facts ms f n)

abbrev pub passes : Holding → Bool
passes holding.Passes = true
passes _ = false

abbrev pub decided : Holding → Bool → Bool
decided holding.Own further = true
decided holding.Global further = false
decided holding.Passes further = further

-- of these functions the first that does not pass the name on has it as its own
unfoldable pub is_kept : List Mention → List ℕ → List ℕ → Bool
is_kept ms [] n = false
is_kept ms (f ∷ fs) n = decided (holding_of ms f n) (is_kept ms fs n)

-- the functions in front of the first that does not pass the name on
unfoldable pub passing : List Mention → List ℕ → List ℕ → List ℕ
passing ms [] n = []
passing ms (f ∷ fs) n = if passes (holding_of ms f n) then f ∷ passing ms fs n else []
