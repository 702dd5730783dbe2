-- The identities by which the other side knows cells, after the `id_pack` of RPyC's module `netref`.
use Rattle.std.specs.Prelude.{◌≡◌, ◌↔◌, ℕ, ◌==◌, if◌then◌else◌, List, [], ◌++◌, codes, Option, Some, None}
use Rattle.rp_base.specs.declared.identity.IdPack.{IdPack}
use Rattle.rp_base.specs.declared.identity.Kind.{Kind}
use Rattle.rp_base.specs.declared.identity.Kind.TheVariants as kind
use Rattle.py_store.specs.declared.cell.Cell.{Cell}
use Rattle.py_store.specs.declared.cell.Cell.TheVariants as cell
use Rattle.py_store.specs.Cells.{cell_of}

abbrev pub identity : List ℕ → ℕ → ℕ → IdPack
identity name class_no inst_no = record { name = name; class_no = class_no; inst_no = inst_no }

-- the class's name
abbrev pub class_name : Option Cell → List ℕ
class_name (Some (cell.Class name base attributes)) = name
class_name _ = []

-- the name of a class of the script with its module
abbrev pub full_name : List ℕ → List ℕ
full_name name = codes "__main__." ++ name

-- The identity of this cell, which has this number. A scope has none, since no value refers to it.
abbrev pub identity_as : List Cell → ℕ → Option Cell → IdPack
identity_as cells number (Some (cell.List items)) = identity (codes "builtins.list") 0 number
identity_as cells number (Some (cell.Dict entries shape)) = identity (codes "builtins.dict") 0 number
identity_as cells number (Some (cell.Scope names parent)) = identity [] 0 0
identity_as cells number (Some (cell.Namespace names reserved)) = identity (codes "builtins.dict") 0 number
identity_as cells number (Some (cell.Function text function scope)) = identity (codes "builtins.function") 0 number
identity_as cells number (Some (cell.Class name base attributes)) = identity (full_name name) number 0
identity_as cells number (Some (cell.Instance class_no attributes)) = identity (full_name (class_name (cell_of cells class_no))) class_no number
identity_as cells number (Some (cell.Bound receiver method)) = identity (codes "builtins.method") 0 number
identity_as cells number (Some (cell.Iter source at shape)) = identity (codes "builtins.iterator") 0 number
identity_as cells number (Some (cell.View dict which)) = identity (codes "builtins.view") 0 number
identity_as cells number (Some (cell.Range start stop step)) = identity (codes "builtins.range") 0 number
identity_as cells number (Some (cell.Host host)) = identity (codes "builtins.module") 0 number
identity_as cells number (Some (cell.HostFunc host name)) = identity (codes "builtins.hostfunc") 0 number
identity_as cells number (Some (cell.Conn root namespace modules)) = identity (codes "rpyc.core.protocol.Connection") 0 number
identity_as cells number (Some (cell.Modules root)) = identity (codes "rpyc.core.service.ModuleNamespace") 0 number
identity_as cells number (Some cell.Root) = identity (codes "rpyc.core.service.SlaveService") 0 number
identity_as cells number None = identity [] 0 0

-- the identity of the cell of this number
abbrev pub identity_of : List Cell → ℕ → IdPack
identity_of cells number = identity_as cells number (cell_of cells number)

-- the number of the cell that the identity names
abbrev pub number_of : IdPack → ℕ
number_of id = if id.inst_no == 0 then id.class_no else id.inst_no

-- the kind of a cell that values may refer to
abbrev pub cell_kind : Cell → Option Kind
cell_kind (cell.List items) = Some kind.List
cell_kind (cell.Dict entries shape) = Some kind.Dict
cell_kind (cell.Scope names parent) = None
cell_kind (cell.Namespace names reserved) = Some kind.Namespace
cell_kind (cell.Function text function scope) = Some kind.Function
cell_kind (cell.Class name base attributes) = Some kind.Class
cell_kind (cell.Instance class_no attributes) = Some kind.Instance
cell_kind (cell.Bound receiver method) = Some kind.Bound
cell_kind (cell.Iter source at shape) = Some kind.Iter
cell_kind (cell.View dict which) = Some kind.View
cell_kind (cell.Range start stop step) = Some kind.Range
cell_kind (cell.Host host) = Some kind.Host
cell_kind (cell.HostFunc host name) = Some kind.HostFunc
cell_kind (cell.Conn root namespace modules) = Some kind.Conn
cell_kind (cell.Modules root) = Some kind.Modules
cell_kind cell.Root = Some kind.Root

-- a side's namespace is its first cell, and no other
abbrev pub NamespaceIsFirst : List Cell → Type 0
NamespaceIsFirst cells = (number : ℕ) (c : Cell) → cell_of cells number ≡ Some c → (cell_kind c ≡ Some kind.Namespace) ↔ (number ≡ 1)
