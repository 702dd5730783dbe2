-- What a side writes of an exception is read as that exception.
use Rattle.std.proofs.Common.{◌≡◌, List, [], ◌∷◌, codes, refl, ◌∙◌, ap}
use Rattle.rp_base.specs.declared.exceptions.ExcKind.{ExcKind}
use Rattle.rp_base.specs.declared.exceptions.ExcKind.TheVariants as kind
use Rattle.rp_base.specs.declared.exceptions.Raised.{Raised}
use Rattle.rp_base.specs.declared.plain.Plain.{Plain}
use Rattle.rp_base.specs.declared.plain.Plain.TheVariants as plain
use Rattle.rp_base.specs.Names.{exception_name}
use Rattle.rp_base.specs.PlainLaws.{look_tuple}
use Rattle.rp_base.specs.PlainValues.{look}
use Rattle.language_rules.specs.Exceptions.{exception_named}
use Rattle.language_rules.specs.ExceptionContents.{kind_or, kind_in, four_parts, content_of, exception_content, arguments_in, raised_at, raised_in}

name_read : (k : ExcKind) → kind_or (exception_named (exception_name k)) ≡ k
name_read kind.Exception = refl
name_read kind.ArithmeticError = refl
name_read kind.ZeroDivisionError = refl
name_read kind.OverflowError = refl
name_read kind.AssertionError = refl
name_read kind.AttributeError = refl
name_read kind.EOFError = refl
name_read kind.ImportError = refl
name_read kind.ModuleNotFoundError = refl
name_read kind.LookupError = refl
name_read kind.IndexError = refl
name_read kind.KeyError = refl
name_read kind.NameError = refl
name_read kind.UnboundLocalError = refl
name_read kind.RuntimeError = refl
name_read kind.NotImplementedError = refl
name_read kind.StopIteration = refl
name_read kind.TypeError = refl
name_read kind.ValueError = refl

class_read : (k : ExcKind) → kind_in (look (plain.Tuple (plain.Text (codes "builtins") ∷ plain.Text (exception_name k) ∷ []))) ≡ k
class_read k = ap kind_in (look_tuple (plain.Text (codes "builtins") ∷ plain.Text (exception_name k) ∷ [])) ∙ name_read k

parts_read : (k : ExcKind) (args : List Plain) → raised_in (four_parts k args) ≡ record { kind = k; args = args }
parts_read k args =
    ap raised_at (look_tuple (plain.Tuple (plain.Text (codes "builtins") ∷ plain.Text (exception_name k) ∷ []) ∷ plain.Tuple args ∷ plain.Tuple [] ∷ plain.Text [] ∷ []))
    ∙ (λ i. record { kind = class_read k i; args = ap arguments_in (look_tuple args) i })

content_read : (k : ExcKind) (args : List Plain) → raised_in (content_of k args) ≡ record { kind = k; args = args }
content_read kind.Exception args = parts_read kind.Exception args
content_read kind.ArithmeticError args = parts_read kind.ArithmeticError args
content_read kind.ZeroDivisionError args = parts_read kind.ZeroDivisionError args
content_read kind.OverflowError args = parts_read kind.OverflowError args
content_read kind.AssertionError args = parts_read kind.AssertionError args
content_read kind.AttributeError args = parts_read kind.AttributeError args
content_read kind.EOFError args = parts_read kind.EOFError args
content_read kind.ImportError args = parts_read kind.ImportError args
content_read kind.ModuleNotFoundError args = parts_read kind.ModuleNotFoundError args
content_read kind.LookupError args = parts_read kind.LookupError args
content_read kind.IndexError args = parts_read kind.IndexError args
content_read kind.KeyError args = parts_read kind.KeyError args
content_read kind.NameError args = parts_read kind.NameError args
content_read kind.UnboundLocalError args = parts_read kind.UnboundLocalError args
content_read kind.RuntimeError args = parts_read kind.RuntimeError args
content_read kind.NotImplementedError args = parts_read kind.NotImplementedError args
content_read kind.StopIteration [] = refl
content_read kind.StopIteration (a ∷ more) = parts_read kind.StopIteration (a ∷ more)
content_read kind.TypeError args = parts_read kind.TypeError args
content_read kind.ValueError args = parts_read kind.ValueError args

pub exceptions_are_read : (r : Raised) → raised_in (exception_content r) ≡ r
exceptions_are_read r = content_read r.kind r.args
