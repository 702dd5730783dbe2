-- The names of builtin functions.
use Rattle.std.specs.Prelude.{ℕ, List, [], ◌∷◌, codes, Option, Some, None, if◌then◌else◌}
use Rattle.std.specs.Str.{bytes_eq}
use Rattle.py_ast.specs.declared.builtin.Builtin.{Builtin}
use Rattle.py_ast.specs.declared.builtin.Builtin.TheVariants as builtin

abbrev pub builtin_name : Builtin → List ℕ
builtin_name builtin.Print = codes "print"
builtin_name builtin.Len = codes "len"
builtin_name builtin.Str = codes "str"
builtin_name builtin.Repr = codes "repr"
builtin_name builtin.Int = codes "int"
builtin_name builtin.Bool = codes "bool"
builtin_name builtin.Abs = codes "abs"
builtin_name builtin.Ord = codes "ord"
builtin_name builtin.Chr = codes "chr"
builtin_name builtin.Range = codes "range"
builtin_name builtin.List = codes "list"
builtin_name builtin.Tuple = codes "tuple"
builtin_name builtin.Dict = codes "dict"
builtin_name builtin.Min = codes "min"
builtin_name builtin.Max = codes "max"
builtin_name builtin.Sum = codes "sum"
builtin_name builtin.Sorted = codes "sorted"

abbrev pub builtins : List Builtin
builtins = builtin.Print ∷ builtin.Len ∷ builtin.Str ∷ builtin.Repr ∷ builtin.Int ∷ builtin.Bool ∷ builtin.Abs ∷ builtin.Ord ∷ builtin.Chr ∷ builtin.Range ∷ builtin.List ∷ builtin.Tuple ∷ builtin.Dict ∷ builtin.Min ∷ builtin.Max ∷ builtin.Sum ∷ builtin.Sorted ∷ []

abbrev pub first_named : List Builtin → List ℕ → Option Builtin
first_named [] t = None
first_named (b ∷ bs) t = if bytes_eq t (builtin_name b) then Some b else first_named bs t

-- the function of this name
unfoldable pub builtin_of : List ℕ → Option Builtin
builtin_of t = first_named builtins t
