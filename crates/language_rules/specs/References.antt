-- The references to the other side's cells that a value or a cell holds.
use Rattle.std.specs.Prelude.{List, [], ◌∷◌, ◌++◌, map, Option, Some, None}
use Rattle.rp_base.specs.declared.identity.IdPack.{IdPack}
use Rattle.rp_base.specs.declared.value.Value.{Value}
use Rattle.rp_base.specs.declared.value.Value.TheOpen.{Value-F}
use Rattle.rp_base.specs.Values.{gather_value}
use Rattle.py_store.specs.declared.cell.Cell.{Cell}
use Rattle.py_store.specs.declared.cell.Cell.TheVariants as cell
use Rattle.py_store.specs.declared.cell.Method.{Method}
use Rattle.py_store.specs.declared.cell.Method.TheVariants as method

abbrev pub in_turn : {A : Type 0} → List (List A) → List A
in_turn [] = []
in_turn (xs ∷ xss) = xs ++ in_turn xss

abbrev pub identities_step : Value-F (List IdPack) → List IdPack
identities_step (Value-F.Tuple ids) = in_turn ids
identities_step (Value-F.Proxy id) = id ∷ []
identities_step _ = []

-- the identities that stand in a value
unfoldable pub identities_in_value : Value → List IdPack
identities_in_value = gather_value (List IdPack) identities_step

abbrev pub values_of_method : Method → List Value
values_of_method (method.Function f) = f ∷ []
values_of_method (method.Builtin m) = []

abbrev pub values_of_source : Option Value → List Value
values_of_source None = []
values_of_source (Some v) = v ∷ []

-- the values that a cell holds
abbrev pub values_in : Cell → List Value
values_in (cell.List items) = items
values_in (cell.Dict entries shape) = map (λ e. e.1) entries
values_in (cell.Scope names parent) = map (λ b. b.value) names
values_in (cell.Namespace names reserved) = map (λ b. b.value) names
values_in (cell.Class name base attributes) = map (λ b. b.value) attributes
values_in (cell.Instance class_no attributes) = map (λ b. b.value) attributes
values_in (cell.Bound receiver m) = receiver ∷ values_of_method m
values_in (cell.Iter source at shape) = values_of_source source
values_in (cell.Conn root namespace modules) = root ∷ namespace ∷ []
values_in (cell.Modules root) = root ∷ []
values_in _ = []

abbrev pub identities_in : Cell → List IdPack
identities_in c = in_turn (map identities_in_value (values_in c))
