-- Names: of special operations, and of the methods of each kind of object.
use Rattle.std.specs.Prelude.{ℕ, List, [], ◌∷◌, codes, Option, Some, None, if◌then◌else◌}
use Rattle.std.specs.Str.{bytes_eq}
use Rattle.object_operations.specs.declared.special.Special.{Special}
use Rattle.object_operations.specs.declared.special.Special.TheVariants as special
use Rattle.object_operations.specs.declared.method.BuiltinMethod.{BuiltinMethod}
use Rattle.object_operations.specs.declared.method.BuiltinMethod.TheVariants as method

abbrev pub special_name : Special → List ℕ
special_name special.Len = codes "__len__"
special_name special.Bool = codes "__bool__"
special_name special.GetItem = codes "__getitem__"
special_name special.SetItem = codes "__setitem__"
special_name special.DelItem = codes "__delitem__"
special_name special.Contains = codes "__contains__"
special_name special.Iter = codes "__iter__"
special_name special.Next = codes "__next__"
special_name special.Add = codes "__add__"
special_name special.Sub = codes "__sub__"
special_name special.Mul = codes "__mul__"
special_name special.FloorDiv = codes "__floordiv__"
special_name special.Mod = codes "__mod__"
special_name special.Neg = codes "__neg__"
special_name special.IAdd = codes "__iadd__"
special_name special.GetModule = codes "getmodule"

-- the special names that travel, in the order of their table
abbrev pub specials : List Special
specials = special.Len ∷ special.Bool ∷ special.GetItem ∷ special.SetItem ∷ special.DelItem ∷ special.Contains ∷ special.Iter ∷ special.Next ∷ special.Add ∷ special.Sub ∷ special.Mul ∷ special.FloorDiv ∷ special.Mod ∷ special.Neg ∷ special.IAdd ∷ []

-- the special operation of this name among these
abbrev pub special_among : List Special → List ℕ → Option Special
special_among [] name = None
special_among (s ∷ ss) name = if bytes_eq name (special_name s) then Some s else special_among ss name

abbrev pub special_of : List ℕ → Option Special
special_of = special_among specials

abbrev pub method_name : BuiltinMethod → List ℕ
method_name method.Append = codes "append"
method_name method.Clear = codes "clear"
method_name method.Extend = codes "extend"
method_name method.Index = codes "index"
method_name method.Insert = codes "insert"
method_name method.Pop = codes "pop"
method_name method.Remove = codes "remove"
method_name method.Reverse = codes "reverse"
method_name method.Get = codes "get"
method_name method.Items = codes "items"
method_name method.Keys = codes "keys"
method_name method.SetDefault = codes "setdefault"
method_name method.Values = codes "values"
method_name method.EndsWith = codes "endswith"
method_name method.Find = codes "find"
method_name method.Join = codes "join"
method_name method.Replace = codes "replace"
method_name method.Split = codes "split"
method_name method.StartsWith = codes "startswith"
method_name method.Strip = codes "strip"
method_name method.Eval = codes "eval"
method_name method.Execute = codes "execute"
method_name method.GetModule = codes "getmodule"

-- the methods of each kind, in the order of their table
abbrev pub list_methods : List BuiltinMethod
list_methods = method.Append ∷ method.Clear ∷ method.Extend ∷ method.Index ∷ method.Insert ∷ method.Pop ∷ method.Remove ∷ method.Reverse ∷ []

abbrev pub dict_methods : List BuiltinMethod
dict_methods = method.Clear ∷ method.Get ∷ method.Items ∷ method.Keys ∷ method.Pop ∷ method.SetDefault ∷ method.Values ∷ []

abbrev pub namespace_methods : List BuiltinMethod
namespace_methods = method.Get ∷ []

abbrev pub text_methods : List BuiltinMethod
text_methods = method.EndsWith ∷ method.Find ∷ method.Join ∷ method.Replace ∷ method.Split ∷ method.StartsWith ∷ method.Strip ∷ []

abbrev pub root_methods : List BuiltinMethod
root_methods = method.Eval ∷ method.Execute ∷ method.GetModule ∷ []

-- the method of this name among these
abbrev pub method_among : List BuiltinMethod → List ℕ → Option BuiltinMethod
method_among [] name = None
method_among (m ∷ ms) name = if bytes_eq name (method_name m) then Some m else method_among ms name
