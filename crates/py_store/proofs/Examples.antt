-- Worked examples, computed by the checker.
use Rattle.std.proofs.Common.{◌≡◌, ℕ, List, [], ◌∷◌, Some, None, true, pos, codes, refl}
use Rattle.rp_base.specs.declared.plain.Plain.TheVariants as plain
use Rattle.rp_base.specs.declared.value.Value.{Value}
use Rattle.rp_base.specs.declared.value.Value.TheVariants as value
use Rattle.py_store.specs.declared.cell.Binding.{Binding}
use Rattle.py_store.specs.declared.cell.Cell.{Cell}
use Rattle.py_store.specs.declared.cell.Cell.TheVariants as cell
use Rattle.py_store.specs.declared.cell.Method.TheVariants as method
use Rattle.py_store.specs.declared.cell.Which.TheVariants as which
use Rattle.py_store.specs.Attributes.{lineage, first_holder, attribute_value}
use Rattle.py_store.specs.Bindings.{bound_value, with_binding, without_binding}
use Rattle.py_store.specs.Cells.{cell_of, with_cell}
use Rattle.py_store.specs.Computing.{store_computing}
use Rattle.py_store.specs.EntryLists.{EntryList, entry_place, entry_value, with_entry, without_entry}
use Rattle.py_store.specs.Identities.{identity, identity_of}

abbrev int : ℕ → Value
int n = value.Plain (plain.Int (pos n))

-- {1: 7, "b": 8}
abbrev two : EntryList
two = (plain.Int (pos 1), int 7) ∷ (plain.Text (codes "b"), int 8) ∷ []

-- `True` and `1` are one key
pub true_is_one : entry_value (plain.Bool true) two ≡ Some (int 7)
unfolding store_computing
true_is_one = refl

pub place_of_text : entry_place (plain.Text (codes "b")) two ≡ Some 1
unfolding store_computing
place_of_text = refl

pub no_such_key : entry_place (plain.Tuple (plain.Text (codes "b") ∷ [])) two ≡ None
unfolding store_computing
no_such_key = refl

-- the first spelling and the place stay
pub spelling_stays : with_entry (plain.Bool true) (int 9) two ≡ (plain.Int (pos 1), int 9) ∷ (plain.Text (codes "b"), int 8) ∷ []
unfolding store_computing
spelling_stays = refl

-- a new key goes last
pub new_key_goes_last : with_entry plain.None (int 9) two ≡ (plain.Int (pos 1), int 7) ∷ (plain.Text (codes "b"), int 8) ∷ (plain.None, int 9) ∷ []
unfolding store_computing
new_key_goes_last = refl

pub key_is_taken_out : without_entry (plain.Bool true) two ≡ (plain.Text (codes "b"), int 8) ∷ []
unfolding store_computing
key_is_taken_out = refl

-- names
abbrev bindings : List Binding
bindings = record { name = codes "a"; value = int 1 } ∷ record { name = codes "b"; value = int 2 } ∷ []

pub name_is_bound : bound_value (codes "b") bindings ≡ Some (int 2)
name_is_bound = refl

pub name_keeps_its_place : with_binding (codes "a") (int 3) bindings ≡ record { name = codes "a"; value = int 3 } ∷ record { name = codes "b"; value = int 2 } ∷ []
name_keeps_its_place = refl

pub new_name_goes_last : with_binding (codes "c") (int 3) bindings ≡ record { name = codes "a"; value = int 1 } ∷ record { name = codes "b"; value = int 2 } ∷ record { name = codes "c"; value = int 3 } ∷ []
new_name_goes_last = refl

pub name_is_taken_out : without_binding (codes "a") bindings ≡ record { name = codes "b"; value = int 2 } ∷ []
name_is_taken_out = refl

-- A side with its namespace, its root, a class `Base` with an attribute `b`, a class `C` on it with `a` and `b`, and an instance of `C` with `a`.
abbrev cells : List Cell
cells =
    cell.Namespace [] [] ∷
    cell.Root ∷
    cell.Class (codes "Base") None (record { name = codes "b"; value = int 1 } ∷ record { name = codes "c"; value = int 2 } ∷ []) ∷
    cell.Class (codes "C") (Some 3) (record { name = codes "a"; value = int 3 } ∷ record { name = codes "b"; value = int 4 } ∷ []) ∷
    cell.Instance 4 (record { name = codes "a"; value = int 5 } ∷ []) ∷
    []

pub order_of_the_search : lineage cells 5 ≡ 5 ∷ 4 ∷ 3 ∷ []
order_of_the_search = refl

pub found_in_itself : attribute_value cells 5 (codes "a") ≡ Some (5, int 5)
found_in_itself = refl

pub found_in_its_class : attribute_value cells 5 (codes "b") ≡ Some (4, int 4)
found_in_its_class = refl

pub found_in_the_base : first_holder cells 5 (codes "c") ≡ Some (3, 1)
found_in_the_base = refl

pub value_in_the_base : attribute_value cells 4 (codes "c") ≡ Some (3, int 2)
value_in_the_base = refl

pub found_nowhere : attribute_value cells 5 (codes "d") ≡ None
found_nowhere = refl

pub root_has_no_attributes : first_holder cells 2 (codes "a") ≡ None
root_has_no_attributes = refl

-- a cell of each kind has its identity
pub identity_of_namespace : identity_of cells 1 ≡ identity (codes "builtins.dict") 0 1
identity_of_namespace = refl

pub identity_of_root : identity_of cells 2 ≡ identity (codes "rpyc.core.service.SlaveService") 0 2
identity_of_root = refl

pub identity_of_class : identity_of cells 4 ≡ identity (codes "__main__.C") 4 0
identity_of_class = refl

pub identity_of_instance : identity_of cells 5 ≡ identity (codes "__main__.C") 4 5
identity_of_instance = refl

pub identity_of_none : identity_of cells 6 ≡ identity [] 0 0
identity_of_none = refl

pub identity_of_list : identity_of (cell.List [] ∷ []) 1 ≡ identity (codes "builtins.list") 0 1
identity_of_list = refl

pub identity_of_dict : identity_of (cell.Root ∷ cell.Dict two 0 ∷ []) 2 ≡ identity (codes "builtins.dict") 0 2
identity_of_dict = refl

pub identity_of_scope : identity_of (cell.Scope bindings 1 ∷ []) 1 ≡ identity [] 0 0
identity_of_scope = refl

pub identity_of_function : identity_of (cell.Function 0 0 1 ∷ []) 1 ≡ identity (codes "builtins.function") 0 1
identity_of_function = refl

pub identity_of_bound : identity_of (cell.Bound (int 1) (method.Function (value.Own 1)) ∷ []) 1 ≡ identity (codes "builtins.method") 0 1
identity_of_bound = refl

pub identity_of_iter : identity_of (cell.Iter None 0 0 ∷ []) 1 ≡ identity (codes "builtins.iterator") 0 1
identity_of_iter = refl

pub identity_of_view : identity_of (cell.View 2 which.Keys ∷ []) 1 ≡ identity (codes "builtins.view") 0 1
identity_of_view = refl

pub identity_of_range : identity_of (cell.Range (pos 0) (pos 3) (pos 1) ∷ []) 1 ≡ identity (codes "builtins.range") 0 1
identity_of_range = refl

pub identity_of_host : identity_of (cell.Host 0 ∷ []) 1 ≡ identity (codes "builtins.module") 0 1
identity_of_host = refl

pub identity_of_host_function : identity_of (cell.HostFunc 0 (codes "next") ∷ []) 1 ≡ identity (codes "builtins.hostfunc") 0 1
identity_of_host_function = refl

pub identity_of_connection : identity_of (cell.Conn (int 0) (int 0) 4 ∷ []) 1 ≡ identity (codes "rpyc.core.protocol.Connection") 0 1
identity_of_connection = refl

pub identity_of_modules : identity_of (cell.Modules (int 0) ∷ []) 1 ≡ identity (codes "rpyc.core.service.ModuleNamespace") 0 1
identity_of_modules = refl

-- a cell is replaced
pub cell_is_replaced : cell_of (with_cell cells 2 (cell.Host 0)) 2 ≡ Some (cell.Host 0)
cell_is_replaced = refl
