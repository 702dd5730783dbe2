-- Attributes (Python Language Reference, "Attribute references" and "The standard type hierarchy"; for the objects of a connection, RPyC's module `service`).
use Rattle.std.specs.Prelude.{ℕ, Bool, ◌||◌, ◌==◌, List, [], ◌∷◌, codes, is_some, Option, Some, None, option_map, slice_get, if◌then◌else◌}
use Rattle.std.specs.Str.{bytes_eq}
use Rattle.rp_base.specs.declared.exceptions.Beyond.TheVariants as beyond
use Rattle.rp_base.specs.declared.exceptions.ExcKind.TheVariants as exception
use Rattle.rp_base.specs.declared.identity.Kind.{Kind}
use Rattle.rp_base.specs.declared.identity.Kind.TheVariants as kind
use Rattle.rp_base.specs.declared.plain.Plain.TheVariants as plain
use Rattle.rp_base.specs.declared.value.Value.{Value}
use Rattle.rp_base.specs.declared.value.Value.TheVariants as value
use Rattle.object_operations.specs.declared.method.BuiltinMethod.{BuiltinMethod}
use Rattle.object_operations.specs.declared.operation.Operation.TheVariants as operation
use Rattle.object_operations.specs.declared.special.Special.TheVariants as special
use Rattle.object_operations.specs.Names.{list_methods, dict_methods, namespace_methods, text_methods, root_methods, method_among}
use Rattle.py_store.specs.declared.cell.Binding.{Binding}
use Rattle.py_store.specs.declared.cell.Cell.{Cell}
use Rattle.py_store.specs.declared.cell.Cell.TheVariants as cell
use Rattle.py_store.specs.declared.cell.Method.TheVariants as method
use Rattle.py_store.specs.Attributes.{attribute_value}
use Rattle.py_store.specs.Bindings.{bound_value, with_binding, without_binding}
use Rattle.host_api.specs.Modules.{Module}
use Rattle.side_trees.specs.Trees.{Return, Stop}
use Rattle.language_rules.specs.Answers.{gives, asked}
use Rattle.language_rules.specs.Going.{RuleTree, text, done, nowhere, fails, looks, reads_cell, sets_cell, gives_new, asks}
use Rattle.language_rules.specs.Kinds.{kind_of}
use Rattle.language_rules.specs.States.{State, cell_at, namespace_number}
use Rattle.language_rules.specs.TextFunctions.{begins_with}

-- a name that begins with two underscores ("Reserved classes of identifiers") is no attribute of anything
abbrev pub is_private : List ℕ → Bool
is_private name = begins_with name (codes "__")

-- an exception whose argument is the name
abbrev pub no_attribute : List ℕ → RuleTree
no_attribute name = fails exception.AttributeError name

-- ---- special methods ("Special method lookup")

-- the class of an instance
abbrev pub class_of : Option Cell → Option ℕ
class_of (Some (cell.Instance class_no attributes)) = Some class_no
class_of _ = None

-- what a class or its base holds under a name
abbrev pub held_by : State → List ℕ → Option ℕ → Option Value
held_by s name (Some class_no) = option_map (λ p. p.1) (attribute_value s.cells class_no name)
held_by s name None = None

-- The method of this special name of an instance. It is looked up in class and base, and not among the instance's own attributes.
abbrev pub class_method : State → ℕ → List ℕ → Option Value
class_method s n name = held_by s name (class_of (cell_at s n))

-- a method is called with the instance first, by a call operation of its own, and f goes on with its value
abbrev pub calls_or : ℕ → List Value → (Value → RuleTree) → RuleTree → Option Value → RuleTree
calls_or n arguments f missing (Some callee) = asks (operation.Call callee (value.Own n ∷ arguments)) f
calls_or n arguments f missing None = missing

-- the method of this special name of an instance is called; where it has none, `missing` comes
abbrev pub calls_method : ℕ → List ℕ → List Value → (Value → RuleTree) → RuleTree → RuleTree
calls_method n name arguments f missing = looks (λ s. calls_or n arguments f missing (class_method s n name))

-- by whether an instance has a method of this special name
abbrev pub by_method : ℕ → List ℕ → RuleTree → RuleTree → RuleTree
by_method n name there missing = looks (λ s. if is_some (class_method s n name) then there else missing)

-- ---- reading

-- what is found in a class, for an instance: a function is bound to the instance ("Instance methods")
abbrev pub found_in_class : ℕ → Value → Option Kind → RuleTree
found_in_class n v (Some kind.Function) = gives_new (cell.Bound (value.Own n) (method.Function v))
found_in_class n v _ = gives v

-- of an instance: its own attributes, then its class, then the base
abbrev pub instance_attribute : State → ℕ → List ℕ → Option (ℕ × Value) → RuleTree
instance_attribute s n name (Some found) = if found.0 == n then gives found.1 else found_in_class n found.1 (kind_of s found.1)
instance_attribute s n name None = no_attribute name

-- a class's `mro` is a method of its type in Python, which is outside the subset
abbrev pub missing_in_class : List ℕ → RuleTree
missing_in_class name = if bytes_eq name (codes "mro") then Stop beyond.Attribute else no_attribute name

-- of a class: its own attributes, then the base
abbrev pub class_attribute : List ℕ → Option (ℕ × Value) → RuleTree
class_attribute name (Some found) = gives found.1
class_attribute name None = missing_in_class name

-- a method of a builtin kind is bound to its object; no other attribute of these kinds is in the subset
abbrev pub bound_method : Value → Option BuiltinMethod → RuleTree
bound_method receiver (Some m) = gives_new (cell.Bound receiver (method.Builtin m))
bound_method receiver None = Stop beyond.Attribute

-- the method of this name among those of a kind
abbrev pub method_attribute : Value → List BuiltinMethod → List ℕ → RuleTree
method_attribute receiver methods name = bound_method receiver (method_among methods name)

-- the namespace, which is a side's first cell
abbrev pub gives_namespace : Cell → RuleTree
gives_namespace (cell.Namespace names reserved) = gives (value.Own namespace_number)
gives_namespace _ = nowhere

-- of the root: the namespace, and its methods (RPyC's `SlaveService`)
abbrev pub root_attribute : ℕ → List ℕ → RuleTree
root_attribute n name =
    if bytes_eq name (codes "namespace") then reads_cell namespace_number gives_namespace
    else method_attribute (value.Own n) root_methods name

-- of the connection: what its cell holds; `eval` and `execute` are asked of the root (RPyC's `Connection` and `SlaveService`)
abbrev pub conn_attribute : Value → Value → ℕ → List ℕ → RuleTree
conn_attribute root namespace modules name =
    if bytes_eq name (codes "root") then gives root
    else (if bytes_eq name (codes "namespace") then gives namespace
    else (if bytes_eq name (codes "modules") then gives (value.Own modules)
    else (if bytes_eq name (codes "eval") || bytes_eq name (codes "execute") then asked (operation.GetAttr root name)
    else Stop beyond.Attribute)))

-- of a module that the program around the side offers: its functions
abbrev pub host_attribute : ℕ → List ℕ → Option Module → RuleTree
host_attribute host name (Some m) = if m.has name then gives_new (cell.HostFunc host name) else no_attribute name
host_attribute host name None = nowhere

-- an attribute of a cell; of the modules of a connection it is the module of this name, asked of the root (RPyC's `ModuleNamespace`)
abbrev pub cell_attribute : State → ℕ → List ℕ → Cell → RuleTree
cell_attribute s n name (cell.Instance class_no attributes) = instance_attribute s n name (attribute_value s.cells n name)
cell_attribute s n name (cell.Class class_name base attributes) = class_attribute name (attribute_value s.cells n name)
cell_attribute s n name (cell.List items) = method_attribute (value.Own n) list_methods name
cell_attribute s n name (cell.Dict entries shape) = method_attribute (value.Own n) dict_methods name
cell_attribute s n name (cell.Namespace names reserved) = method_attribute (value.Own n) namespace_methods name
cell_attribute s n name (cell.Conn root namespace modules) = conn_attribute root namespace modules name
cell_attribute s n name (cell.Modules root) = asked (operation.Special root special.GetModule (text name ∷ []))
cell_attribute s n name (cell.Host host) = host_attribute host name (slice_get s.modules host)
cell_attribute s n name cell.Root = root_attribute n name
cell_attribute s n name _ = Stop beyond.Attribute

-- a text has methods too, and no other value has an attribute in the subset
abbrev pub attribute_of : Value → List ℕ → RuleTree
attribute_of (value.Own n) name = reads_cell n (λ c. looks (λ s. cell_attribute s n name c))
attribute_of (value.Plain (plain.Text t)) name = method_attribute (text t) text_methods name
attribute_of _ name = Stop beyond.Attribute

-- `v.name`
abbrev pub get_attribute : Value → List ℕ → RuleTree
get_attribute v name = if is_private name then no_attribute name else attribute_of v name

-- ---- writing and deleting ("Assignment statements", "The del statement"): own attributes of instances and classes

-- an instance or a class gets an attribute of its own
abbrev pub sets_in_cell : ℕ → List ℕ → Value → Cell → RuleTree
sets_in_cell n name v (cell.Instance class_no attributes) = sets_cell n (cell.Instance class_no (with_binding name v attributes)) (Return done)
sets_in_cell n name v (cell.Class class_name base attributes) = sets_cell n (cell.Class class_name base (with_binding name v attributes)) (Return done)
sets_in_cell n name v _ = Stop beyond.Attribute

-- no value but an object has attributes to set
abbrev pub sets_in : Value → List ℕ → Value → RuleTree
sets_in (value.Own n) name v = reads_cell n (sets_in_cell n name v)
sets_in _ name v = Stop beyond.Attribute

-- `receiver.name = v`
abbrev pub set_attribute : Value → List ℕ → Value → RuleTree
set_attribute receiver name v = if is_private name then no_attribute name else sets_in receiver name v

-- the attribute is there to be taken out
abbrev pub where_bound : List ℕ → List Binding → RuleTree → RuleTree
where_bound name attributes t = if is_some (bound_value name attributes) then t else no_attribute name

-- an instance or a class loses an attribute of its own
abbrev pub deletes_in_cell : ℕ → List ℕ → Cell → RuleTree
deletes_in_cell n name (cell.Instance class_no attributes) = where_bound name attributes (sets_cell n (cell.Instance class_no (without_binding name attributes)) (Return done))
deletes_in_cell n name (cell.Class class_name base attributes) = where_bound name attributes (sets_cell n (cell.Class class_name base (without_binding name attributes)) (Return done))
deletes_in_cell n name _ = Stop beyond.Attribute

-- no value but an object has attributes to delete
abbrev pub deletes_in : Value → List ℕ → RuleTree
deletes_in (value.Own n) name = reads_cell n (deletes_in_cell n name)
deletes_in _ name = Stop beyond.Attribute

-- `del receiver.name`
abbrev pub delete_attribute : Value → List ℕ → RuleTree
delete_attribute receiver name = if is_private name then no_attribute name else deletes_in receiver name
