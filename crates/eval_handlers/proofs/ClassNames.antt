-- The class of exceptions that has a name.
use Rattle.std.proofs.Common.{◌≡◌, ℕ, List, [], ◌∷◌, Option, Some, if◌then◌else◌, refl, ap}
use Rattle.std.specs.Str.{bytes_eq}
use Rattle.rp_base.specs.Names.{exception_name}
use Rattle.rp_base.specs.declared.exceptions.ExcKind.{ExcKind}
use Rattle.py_mentions.specs.Rules.{exception_of, first_exception}
use Rattle.language_rules.specs.Exceptions.{exception_named, exceptions, first_named}

same_first : (ks : List ExcKind) (name : List ℕ) → first_exception ks name ≡ first_named ks name
same_first [] name = refl
same_first (k ∷ ks) name = ap (λ (o : Option ExcKind). if bytes_eq name (exception_name k) then Some k else o) (same_first ks name)

pub class_of : (name : List ℕ) → exception_of name ≡ exception_named name
unfolding exception_of
class_of name = same_first exceptions name
