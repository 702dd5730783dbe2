-- The exception classes, and how an exception prints (Python Library Reference, "Built-in Exceptions").
use Rattle.std.specs.Prelude.{ℕ, Bool, true, false, List, [], ◌∷◌, ◌++◌, map, codes, Option, Some, None, if◌then◌else◌}
use Rattle.std.specs.Str.{bytes_eq}
use Rattle.rp_base.specs.Names.{exception_name}
use Rattle.rp_base.specs.declared.exceptions.ExcKind.{ExcKind}
use Rattle.rp_base.specs.declared.exceptions.ExcKind.TheVariants as kind
use Rattle.rp_base.specs.declared.plain.Plain.{Plain}
use Rattle.rp_base.specs.declared.plain.Plain.TheVariants as plain
use Rattle.py_ast.specs.declared.name.Name.{Name}
use Rattle.py_strs.specs.Joining.{joined}
use Rattle.py_plain.specs.Printing.{repr_of, str_of}
use Rattle.language_rules.specs.Texts.{has_name}

-- ---- classes

-- the classes above each class, the nearest first (Library Reference, "Exception hierarchy")
abbrev pub bases_of : ExcKind → List ExcKind
bases_of kind.Exception = []
bases_of kind.ArithmeticError = kind.Exception ∷ []
bases_of kind.ZeroDivisionError = kind.ArithmeticError ∷ kind.Exception ∷ []
bases_of kind.OverflowError = kind.ArithmeticError ∷ kind.Exception ∷ []
bases_of kind.AssertionError = kind.Exception ∷ []
bases_of kind.AttributeError = kind.Exception ∷ []
bases_of kind.EOFError = kind.Exception ∷ []
bases_of kind.ImportError = kind.Exception ∷ []
bases_of kind.ModuleNotFoundError = kind.ImportError ∷ kind.Exception ∷ []
bases_of kind.LookupError = kind.Exception ∷ []
bases_of kind.IndexError = kind.LookupError ∷ kind.Exception ∷ []
bases_of kind.KeyError = kind.LookupError ∷ kind.Exception ∷ []
bases_of kind.NameError = kind.Exception ∷ []
bases_of kind.UnboundLocalError = kind.NameError ∷ kind.Exception ∷ []
bases_of kind.RuntimeError = kind.Exception ∷ []
bases_of kind.NotImplementedError = kind.RuntimeError ∷ kind.Exception ∷ []
bases_of kind.StopIteration = kind.Exception ∷ []
bases_of kind.TypeError = kind.Exception ∷ []
bases_of kind.ValueError = kind.Exception ∷ []

-- all classes
abbrev pub exceptions : List ExcKind
exceptions = kind.Exception ∷ kind.ArithmeticError ∷ kind.ZeroDivisionError ∷ kind.OverflowError ∷ kind.AssertionError ∷ kind.AttributeError ∷ kind.EOFError ∷ kind.ImportError ∷ kind.ModuleNotFoundError ∷ kind.LookupError ∷ kind.IndexError ∷ kind.KeyError ∷ kind.NameError ∷ kind.UnboundLocalError ∷ kind.RuntimeError ∷ kind.NotImplementedError ∷ kind.StopIteration ∷ kind.TypeError ∷ kind.ValueError ∷ []

-- the first of these classes that has the name
abbrev pub first_named : List ExcKind → List ℕ → Option ExcKind
first_named [] name = None
first_named (k ∷ ks) name = if bytes_eq name (exception_name k) then Some k else first_named ks name

-- the class of this name
abbrev pub exception_named : List ℕ → Option ExcKind
exception_named name = first_named exceptions name

-- the names of a class and of all above it
abbrev pub names_of : ExcKind → List (List ℕ)
names_of k = map exception_name (k ∷ bases_of k)

-- whether one of the names is that of the class or of one above it
abbrev pub names_one : List Name → ExcKind → Bool
names_one [] k = false
names_one (n ∷ ns) k = if has_name n.text (names_of k) then true else names_one ns k

-- A handler takes the classes that it names and all below them, and every exception where it names none (Language Reference, "The try statement").
abbrev pub catches : List Name → ExcKind → Bool
catches [] k = true
catches ns k = names_one ns k

-- whether it is the end of an iteration
abbrev pub is_stop : ExcKind → Bool
is_stop kind.StopIteration = true
is_stop _ = false

-- ---- texts

-- the text of one argument; the key of a KeyError is printed by its repr
abbrev pub argument_text : ExcKind → Plain → List ℕ
argument_text kind.KeyError p = repr_of p
argument_text k p = str_of p

-- `str` of an exception
abbrev pub exception_str : ExcKind → List Plain → List ℕ
exception_str k [] = []
exception_str k (p ∷ []) = argument_text k p
exception_str k ps = repr_of (plain.Tuple ps)

-- `repr` of an exception
abbrev pub exception_repr : ExcKind → List Plain → List ℕ
exception_repr k ps = exception_name k ++ codes "(" ++ joined (codes ", ") (map repr_of ps) ++ codes ")"
