-- One step of the search for the function around that has a name as its own.
use Rattle.std.proofs.Common.{◌≡◌, ℕ, suc, ◌+◌, ◌-◌, ◌<◌, ◌≤◌, Bool, true, false, if◌then◌else◌, List, Option, Some, None, sym, ◌∙◌, ap, arith}
use Rattle.py_ast.specs.declared.program.FunctionInfo.{FunctionInfo}
use Rattle.py_store.specs.Cells.{cell_of}
use Rattle.language_rules.specs.Names.{Place, Outer, Missing, around, outer_place}
use Rattle.language_rules.specs.States.{State, cell_at}
use Rattle.language_rules.specs.Texts.{has_name, function_at}

-- what is left begins with the function at hand
left : (s : State) (text : ℕ) (name : List ℕ) (most at : ℕ) (function : Option ℕ) (scope : ℕ) → at < most → outer_place s text name (most - at) function scope ≡ outer_place s text name (suc (most - (at + 1))) function scope
left s text name most at function scope within =
    let e : most - at ≡ suc (most - (at + 1)) = omega arith in
    ap (λ k. outer_place s text name k function scope) e

-- no function is left
pub ended : (s : State) (text : ℕ) (name : List ℕ) (most at : ℕ) (function : Option ℕ) (scope : ℕ) → at < most → function ≡ None → outer_place s text name (most - at) function scope ≡ Missing
ended s text name most at function scope within none =
    left s text name most at function scope within ∙ ap (λ f. outer_place s text name (suc (most - (at + 1))) f scope) none

-- the place where the function at hand has this information
abbrev at_function : State → ℕ → List ℕ → ℕ → ℕ → Option FunctionInfo → Place
at_function s text name k scope o =
    elim o as (λ _. Place) [
      | None ↦ Missing
      | Some info ↦ if has_name name info.locals then Outer scope else outer_place s text name k info.parent (around (cell_at s scope))
    ]

at_hand : (s : State) (text : ℕ) (name : List ℕ) (most at : ℕ) (function : Option ℕ) (scope f : ℕ) (o : Option FunctionInfo) → at < most → function ≡ Some f → o ≡ function_at s text f
    → outer_place s text name (most - at) function scope ≡ at_function s text name (most - (at + 1)) scope o
at_hand s text name most at function scope f o within is info =
    left s text name most at function scope within
    ∙ ap (λ g. outer_place s text name (suc (most - (at + 1))) g scope) is
    ∙ ap (at_function s text name (most - (at + 1)) scope) (sym info)

-- the function is not there
pub lost : (s : State) (text : ℕ) (name : List ℕ) (most at : ℕ) (function : Option ℕ) (scope f : ℕ) → at < most → function ≡ Some f → None ≡ function_at s text f
    → outer_place s text name (most - at) function scope ≡ Missing
lost s text name most at function scope f within is info = at_hand s text name most at function scope f None within is info

-- it has the name as its own
pub found : (s : State) (text : ℕ) (name : List ℕ) (most at : ℕ) (function : Option ℕ) (scope f : ℕ) (info : FunctionInfo) → at < most → function ≡ Some f → Some info ≡ function_at s text f → has_name name info.locals ≡ true
    → outer_place s text name (most - at) function scope ≡ Outer scope
found s text name most at function scope f info within is there own =
    at_hand s text name most at function scope f (Some info) within is there
    ∙ ap (λ (b : Bool). if b then Outer scope else outer_place s text name (most - (at + 1)) info.parent (around (cell_at s scope))) own

-- it has not
pub passed : (s : State) (text : ℕ) (name : List ℕ) (most at : ℕ) (function : Option ℕ) (scope f : ℕ) (info : FunctionInfo) (next : ℕ) → at < most → function ≡ Some f → Some info ≡ function_at s text f
    → next ≡ around (cell_of s.cells scope) → has_name name info.locals ≡ false → outer_place s text name (most - at) function scope ≡ outer_place s text name (most - (at + 1)) info.parent next
passed s text name most at function scope f info next within is there around_is other =
    at_hand s text name most at function scope f (Some info) within is there
    ∙ ap (λ (b : Bool). if b then Outer scope else outer_place s text name (most - (at + 1)) info.parent (around (cell_at s scope))) other
    ∙ ap (λ (k : ℕ). outer_place s text name (most - (at + 1)) info.parent k) (sym around_is)

-- none is left to look at
pub over_all : (s : State) (text : ℕ) (name : List ℕ) (most at : ℕ) (function : Option ℕ) (scope : ℕ) → most ≤ at → outer_place s text name (most - at) function scope ≡ Missing
over_all s text name most at function scope past =
    let e : most - at ≡ 0 = omega arith in
    ap (λ k. outer_place s text name k function scope) e
