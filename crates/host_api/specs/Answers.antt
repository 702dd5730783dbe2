-- What the rules of modules answer, and how they look at a plain value.
use Rattle.std.specs.Prelude.{ℕ, List, [], ◌∷◌, codes}
use Rattle.rp_base.specs.PlainValues.{look}
use Rattle.rp_base.specs.declared.plain.Plain.{Plain}
use Rattle.rp_base.specs.declared.plain.Plain.TheOpen.{Plain-F}
use Rattle.rp_base.specs.declared.plain.Plain.TheVariants as plain
use Rattle.rp_base.specs.declared.exceptions.ExcKind.{ExcKind}
use Rattle.rp_base.specs.declared.exceptions.ExcKind.TheVariants as kind
use Rattle.host_api.specs.declared.host.HostAnswer.{HostAnswer}
use Rattle.host_api.specs.declared.host.HostAnswer.TheVariants as answer

-- an exception with one argument
abbrev pub raised : ExcKind → Plain → HostAnswer
raised k argument = answer.Raise (record { kind = k; args = argument ∷ [] })

-- to arguments of another number or kind than the function takes, and to a name that no function has
abbrev pub wrong_arguments : HostAnswer
wrong_arguments = raised kind.TypeError (plain.Text (codes "module arguments"))

-- where there is no room for one more
abbrev pub full : HostAnswer
full = raised kind.ValueError (plain.Text (codes "full"))

-- as many entries as a module keeps at most
abbrev pub most_entries : ℕ
most_entries = 65536

abbrev pub items_at : Plain-F Plain → List Plain
items_at (Plain-F.Tuple items) = items
items_at _ = []

-- the items of a tuple; no other value has any
abbrev pub items_of : Plain → List Plain
items_of p = items_at (look p)
