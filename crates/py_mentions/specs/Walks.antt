-- All of a script's tree: each node with the constructs that are open around it.
use Rattle.std.specs.Prelude.{ℕ, zero, suc, Bool, nat_lt, List, [], ◌∷◌, ◌++◌, flat_map, filter, Option, Some, None}
use Rattle.rp_base.specs.declared.rules.Refused.{Refused}
use Rattle.py_ast.specs.declared.program.Program.{Program}
use Rattle.py_mentions.specs.declared.mention.Mention.{Mention}
use Rattle.py_mentions.specs.declared.place.Construct.{Construct}
use Rattle.py_mentions.specs.declared.place.Role.{Role}
use Rattle.py_mentions.specs.declared.place.Role.TheVariants as role
use Rattle.py_mentions.specs.declared.place.Part.{Part}
use Rattle.py_mentions.specs.Parts.{parts}
use Rattle.py_mentions.specs.Mentions.{mentions_at}
use Rattle.py_mentions.specs.Rules.{broken_at}

-- what is found at a node, within these constructs
abbrev pub Finds : Type 0 → Type 0
Finds A = List Construct → Role → ℕ → List A

abbrev pub within : List Construct → Option Construct → List Construct
within cs None = cs
within cs (Some c) = cs ++ c ∷ []

-- the parts of a node, which have smaller numbers
abbrev pub smaller : ℕ → Part → Bool
smaller n part = nat_lt part.number n

abbrev pub smaller_parts : Program → Role → ℕ → List Part
smaller_parts p r n = filter (smaller n) (parts p r n)

-- what is found at a node and then in its parts; more levels than its number change nothing
unfoldable pub walk : {A : Type 0} → Program → Finds A → ℕ → Finds A
walk p here zero cs r n = []
walk p here (suc levels) cs r n = here cs r n ++ flat_map (λ part. walk p here levels (within cs part.around) part.role part.number) (smaller_parts p r n)

-- what is found in the whole script
abbrev pub found_in : {A : Type 0} → Program → Finds A → List A
found_in p here = walk p here (suc p.root) [] role.Whole p.root

-- the mentions of names in a script
unfoldable pub mentions_in : Program → List Mention
mentions_in p = found_in p (mentions_at p)

-- the places that break a rule
unfoldable pub broken_in : Program → List Refused
broken_in p = found_in p (broken_at p)
