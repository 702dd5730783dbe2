-- The rules that a node with its surroundings shows, and the lines at which it breaks them.
use Rattle.std.specs.Prelude.{ℕ, Bool, true, false, ◌==◌, ◌&&◌, ◌||◌, nat_lt, not, List, [], ◌∷◌, ◌++◌, flat_map, length, codes, Option, Some, None, slice_get, if◌then◌else◌}
use Rattle.std.specs.Str.{bytes_eq}
use Rattle.rp_base.specs.Names.{exception_name}
use Rattle.rp_base.specs.declared.plain.Plain.TheVariants as plain
use Rattle.rp_base.specs.declared.exceptions.ExcKind.{ExcKind}
use Rattle.rp_base.specs.declared.exceptions.ExcKind.TheVariants as exception
use Rattle.rp_base.specs.declared.rules.Rule.{Rule}
use Rattle.rp_base.specs.declared.rules.Rule.TheVariants as rule
use Rattle.rp_base.specs.declared.rules.Refused.{Refused}
use Rattle.py_ast.specs.Builtins.{builtin_name, builtin_of}
use Rattle.py_ast.specs.declared.builtin.Builtin.{Builtin}
use Rattle.py_ast.specs.declared.builtin.Builtin.TheVariants as builtin
use Rattle.py_ast.specs.declared.name.Name.{Name}
use Rattle.py_ast.specs.declared.expression.Comparison.{Comparison}
use Rattle.py_ast.specs.declared.expression.Comparison.TheVariants as comparison
use Rattle.py_ast.specs.declared.expression.Link.{Link}
use Rattle.py_ast.specs.declared.expression.Expression.{Expression}
use Rattle.py_ast.specs.declared.expression.Expression.TheVariants as expression
use Rattle.py_ast.specs.declared.target.Target.TheVariants as target
use Rattle.py_ast.specs.declared.statement.Statement.{Statement}
use Rattle.py_ast.specs.declared.statement.Statement.TheVariants as statement
use Rattle.py_ast.specs.declared.node.Node.{Node}
use Rattle.py_ast.specs.declared.node.Node.TheVariants as node
use Rattle.py_ast.specs.declared.program.FunctionInfo.{FunctionInfo}
use Rattle.py_ast.specs.declared.program.Program.{Program}
use Rattle.py_mentions.specs.declared.place.Construct.{Construct}
use Rattle.py_mentions.specs.declared.place.Role.{Role}
use Rattle.py_mentions.specs.declared.place.Role.TheVariants as role
use Rattle.py_mentions.specs.Surroundings.{class_at, may_return, may_break, may_raise}
use Rattle.py_mentions.specs.Mentions.{line_of}

-- the rule is broken at this line unless it is kept
abbrev pub unless : Bool → ℕ → Rule → List Refused
unless true l r = []
unless false l r = record { line = l; rule = r } ∷ []

-- ---- names of the language

abbrev pub exceptions : List ExcKind
exceptions = exception.Exception ∷ exception.ArithmeticError ∷ exception.ZeroDivisionError ∷ exception.OverflowError ∷ exception.AssertionError ∷ exception.AttributeError ∷ exception.EOFError ∷ exception.ImportError ∷ exception.ModuleNotFoundError ∷ exception.LookupError ∷ exception.IndexError ∷ exception.KeyError ∷ exception.NameError ∷ exception.UnboundLocalError ∷ exception.RuntimeError ∷ exception.NotImplementedError ∷ exception.StopIteration ∷ exception.TypeError ∷ exception.ValueError ∷ []

abbrev pub first_exception : List ExcKind → List ℕ → Option ExcKind
first_exception [] t = None
first_exception (e ∷ es) t = if bytes_eq t (exception_name e) then Some e else first_exception es t

-- the exception class of this name
unfoldable pub exception_of : List ℕ → Option ExcKind
exception_of t = first_exception exceptions t

abbrev pub is_some : {A : Type 0} → Option A → Bool
is_some None = false
is_some (Some x) = true

abbrev pub names_exception : List ℕ → Bool
names_exception t = is_some (exception_of t)

-- the name of an exception class or of a builtin function
abbrev pub is_reserved : List ℕ → Bool
is_reserved t = names_exception t || is_some (builtin_of t)

-- the numbers of arguments that a builtin function takes (Python Library Reference, "Built-in Functions")
abbrev pub takes : Builtin → ℕ → Bool
takes builtin.Print n = true
takes builtin.Len n = n == 1
takes builtin.Str n = nat_lt n 2
takes builtin.Repr n = n == 1
takes builtin.Int n = nat_lt n 2
takes builtin.Bool n = nat_lt n 2
takes builtin.Abs n = n == 1
takes builtin.Ord n = n == 1
takes builtin.Chr n = n == 1
takes builtin.Range n = nat_lt 0 n && nat_lt n 4
takes builtin.List n = nat_lt n 2
takes builtin.Tuple n = nat_lt n 2
takes builtin.Dict n = n == 0
takes builtin.Min n = nat_lt 0 n
takes builtin.Max n = nat_lt 0 n
takes builtin.Sum n = n == 1
takes builtin.Sorted n = n == 1

-- a builtin function is called (S2), with a number of arguments that it takes (S3)
abbrev pub builtin_breaks : Builtin → Role → ℕ → List Refused
builtin_breaks b (role.Called n) l = unless (takes b n) l rule.S3
builtin_breaks b _ l = unless false l rule.S2

-- the name of an exception class or of a builtin function stands where it may not (S2)
abbrev pub name_breaks : Name → List Refused
name_breaks n = unless (not (is_reserved n.text)) n.line rule.S2

abbrev pub maybe_name_breaks : Option Name → List Refused
maybe_name_breaks None = []
maybe_name_breaks (Some n) = name_breaks n

-- an `except` names exception classes (S2)
abbrev pub kind_breaks : Name → List Refused
kind_breaks n = unless (names_exception n.text) n.line rule.S2

-- ---- comparisons

abbrev pub is_none : Option Node → Bool
is_none (Some (node.Expression (expression.Constant plain.None))) = true
is_none _ = false

abbrev pub asks_identity : Comparison → Bool
asks_identity comparison.Is = true
asks_identity comparison.IsNot = true
asks_identity _ = false

-- `is` and `is not` have None on their right (S5; Python Language Reference, "Identity comparisons")
abbrev pub link_breaks : Program → Link → List Refused
link_breaks p k = unless (not (asks_identity k.comparison) || is_none (slice_get p.nodes k.right)) k.line rule.S5

-- ---- class bodies

-- the name that a statement directly in a suite binds, by `name =` or `def`
abbrev pub target_name : Option Node → Option (List ℕ)
target_name (Some (node.Target (target.Name t))) = Some t
target_name _ = None

abbrev pub function_name : Option FunctionInfo → Option (List ℕ)
function_name None = None
function_name (Some info) = Some info.name

abbrev pub bound_name : Program → Option Node → Option (List ℕ)
bound_name p (Some (node.Statement (statement.Assign a e))) = target_name (slice_get p.nodes a)
bound_name p (Some (node.Statement (statement.Def f))) = function_name (slice_get p.functions f)
bound_name p _ = None

abbrev pub is_it : List ℕ → Option (List ℕ) → Bool
is_it t None = false
is_it t (Some u) = bytes_eq u t

abbrev pub any_binds : Program → List ℕ → List ℕ → Bool
any_binds p t [] = false
any_binds p t (n ∷ ns) = is_it t (bound_name p (slice_get p.nodes n)) || any_binds p t ns

abbrev pub suite_binds : Program → List ℕ → Option Node → Bool
suite_binds p t (Some (node.Statement (statement.Suite ns))) = any_binds p t ns
suite_binds p t _ = false

-- the class body around a place binds this name
abbrev pub class_binds : Program → List ℕ → Option ℕ → Bool
class_binds p t None = false
class_binds p t (Some c) = suite_binds p t (slice_get p.nodes c)

-- an expression of a class body reads no name that the body binds (S9; Python Language Reference, "Resolution of names")
abbrev pub read_breaks : Program → List Construct → ℕ → List ℕ → List Refused
read_breaks p cs l t = unless (not (class_binds p t (class_at cs))) l rule.S9

abbrev pub is_name : Option Node → Bool
is_name (Some (node.Target (target.Name t))) = true
is_name _ = false

abbrev pub is_text : Option Node → Bool
is_text (Some (node.Expression (expression.Constant (plain.Text t)))) = true
is_text _ = false

abbrev pub fits_class : Program → Statement → Bool
fits_class p (statement.Def f) = true
fits_class p (statement.Assign t e) = is_name (slice_get p.nodes t)
fits_class p (statement.Alone e) = is_text (slice_get p.nodes e)
fits_class p statement.Pass = true
fits_class p _ = false

-- directly in a class body stand a `def`, an assignment to one name, a text and `pass` (S9)
abbrev pub member_breaks : Program → Role → ℕ → Statement → List Refused
member_breaks p role.InClass l s = unless (fits_class p s) l rule.S9
member_breaks p _ l s = []

-- ---- functions

-- a parameter's name does not repeat an earlier one (S12; Python Language Reference, "Function definitions")
abbrev pub has_name : List ℕ → List Name → Bool
has_name t [] = false
has_name t (n ∷ ns) = bytes_eq t n.text || has_name t ns

abbrev pub repeat_breaks : List Name → List Name → List Refused
repeat_breaks earlier [] = []
repeat_breaks earlier (n ∷ ns) = unless (not (has_name n.text earlier)) n.line rule.S12 ++ repeat_breaks (earlier ++ n ∷ []) ns

abbrev pub parameters_break : Option FunctionInfo → List Refused
parameters_break None = []
parameters_break (Some info) = repeat_breaks [] info.parameters

-- ---- nodes

abbrev pub expression_breaks : Program → List Construct → Role → ℕ → Expression → List Refused
expression_breaks p cs r l (expression.Name t) = unless (not (is_reserved t)) l rule.S2 ++ read_breaks p cs l t
expression_breaks p cs r l (expression.Builtin b) = builtin_breaks b r l ++ read_breaks p cs l (builtin_name b)
expression_breaks p cs r l (expression.Compare n ks) = flat_map (link_breaks p) ks
expression_breaks p cs r l (expression.Lambda f) = parameters_break (slice_get p.functions f)
expression_breaks p cs r l _ = []

-- a StopIteration is raised without arguments (S7)
abbrev pub raise_breaks : Name → List ℕ → List Refused
raise_breaks n es = unless (not (bytes_eq n.text (codes "StopIteration")) || (length es == 0)) n.line rule.S7

-- a handler without a kind is the last of its `try` (S7; Python Language Reference, "The try statement")
abbrev pub may_be_bare : Role → List Name → Bool
may_be_bare role.EarlierHandler [] = false
may_be_bare _ _ = true

abbrev pub is_at_top : Role → Bool
is_at_top role.AtTop = true
is_at_top _ = false

abbrev pub own_breaks : Program → List Construct → Role → ℕ → Statement → List Refused
own_breaks p cs r l (statement.Return e) = unless (may_return cs) l rule.S10
own_breaks p cs r l statement.Break = unless (may_break cs) l rule.S10
own_breaks p cs r l statement.Continue = unless (may_break cs) l rule.S10
own_breaks p cs r l statement.RaiseAgain = unless (may_raise cs) l rule.S7
own_breaks p cs r l (statement.RaiseCall n es) = raise_breaks n es
own_breaks p cs r l (statement.Global ns) = flat_map name_breaks ns
own_breaks p cs r l (statement.Nonlocal ns) = flat_map name_breaks ns
own_breaks p cs r l (statement.Except kinds name s) = unless (may_be_bare r kinds) l rule.S7 ++ flat_map kind_breaks kinds
own_breaks p cs r l (statement.Def f) = parameters_break (slice_get p.functions f)
own_breaks p cs r l (statement.Class name base s) = unless (is_at_top r) l rule.S8 ++ maybe_name_breaks base
own_breaks p cs r l _ = []

abbrev pub node_breaks : Program → List Construct → Role → ℕ → Option Node → List Refused
node_breaks p cs r l (Some (node.Expression e)) = expression_breaks p cs r l e
node_breaks p cs r l (Some (node.Target t)) = []
node_breaks p cs r l (Some (node.Statement s)) = own_breaks p cs r l s ++ member_breaks p r l s
node_breaks p cs r l None = []

-- what the node of this number breaks, within these constructs
unfoldable pub broken_at : Program → List Construct → Role → ℕ → List Refused
broken_at p cs r n = node_breaks p cs r (line_of p n) (slice_get p.nodes n)
