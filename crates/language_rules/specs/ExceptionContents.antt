-- Exceptions as they cross, after RPyC's module `vinegar`.
use Rattle.std.specs.Prelude.{pos, List, [], ◌∷◌, codes, map, Option, Some, None, if◌then◌else◌}
use Rattle.std.specs.Str.{bytes_eq}
use Rattle.rp_base.specs.declared.exceptions.ExcKind.{ExcKind}
use Rattle.rp_base.specs.declared.exceptions.ExcKind.TheVariants as kind
use Rattle.rp_base.specs.declared.exceptions.Raised.{Raised}
use Rattle.rp_base.specs.declared.plain.Plain.{Plain}
use Rattle.rp_base.specs.declared.plain.Plain.TheOpen.{Plain-F}
use Rattle.rp_base.specs.declared.plain.Plain.TheVariants as plain
use Rattle.rp_base.specs.Names.{exception_name}
use Rattle.rp_base.specs.PlainValues.{look}
use Rattle.language_rules.specs.Exceptions.{exception_named}

-- the class and the arguments, with no attributes and no text
abbrev pub four_parts : ExcKind → List Plain → Plain
four_parts k args = plain.Tuple (
    plain.Tuple (plain.Text (codes "builtins") ∷ plain.Text (exception_name k) ∷ [])
    ∷ plain.Tuple args ∷ plain.Tuple [] ∷ plain.Text [] ∷ [])

-- a StopIteration without arguments is the int 1
abbrev pub content_of : ExcKind → List Plain → Plain
content_of kind.StopIteration [] = plain.Int (pos 1)
content_of k args = four_parts k args

abbrev pub exception_content : Raised → Plain
exception_content r = content_of r.kind r.args

-- the exception class of this name; one that is not known is an Exception
abbrev pub kind_or : Option ExcKind → ExcKind
kind_or (Some k) = k
kind_or None = kind.Exception

abbrev pub class_in : List (Plain-F Plain) → ExcKind
class_in (Plain-F.Text module_name ∷ Plain-F.Text name ∷ []) = if bytes_eq module_name (codes "builtins") then kind_or (exception_named name) else kind.Exception
class_in _ = kind.Exception

abbrev pub kind_in : Plain-F Plain → ExcKind
kind_in (Plain-F.Tuple items) = class_in (map look items)
kind_in _ = kind.Exception

abbrev pub arguments_in : Plain-F Plain → List Plain
arguments_in (Plain-F.Tuple args) = args
arguments_in _ = []

abbrev pub parts_raised : List Plain → Raised
parts_raised (class ∷ args ∷ attributes ∷ words ∷ []) = record { kind = kind_in (look class); args = arguments_in (look args) }
parts_raised _ = record { kind = kind.Exception; args = [] }

abbrev pub raised_at : Plain-F Plain → Raised
raised_at (Plain-F.Tuple parts) = parts_raised parts
raised_at _ = record { kind = kind.StopIteration; args = [] }

-- the exception that a content stands for
abbrev pub raised_in : Plain → Raised
raised_in p = raised_at (look p)
