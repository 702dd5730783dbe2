-- Where the nodes of a script stand, said without a walk.
use Rattle.std.specs.Prelude.{◌≡◌, ℕ, ◌<◌, List, [], ◌∷◌}
use Rattle.py_ast.specs.declared.program.Program.{Program}
use Rattle.py_mentions.specs.declared.place.Construct.{Construct}
use Rattle.py_mentions.specs.declared.place.Role.{Role}
use Rattle.py_mentions.specs.declared.place.Role.TheVariants as role
use Rattle.py_mentions.specs.declared.place.Part.{Part}
use Rattle.py_mentions.specs.Parts.{parts}
use Rattle.py_mentions.specs.Worst.{IsIn}
use Rattle.py_mentions.specs.Walks.{Finds, within}

-- from a node within constructs, the path leads to another: each step is a part of the node before, with a smaller number,
-- and is within the construct that this node opens around it
abbrev pub Leads : Program → List Construct → Role → ℕ → List Part → List Construct → Role → ℕ → Type 0
Leads p cs r n [] ds s m = (cs ≡ ds) × (r ≡ s) × (n ≡ m)
Leads p cs r n (q ∷ path) ds s m = IsIn q (parts p r n) × (q.number < n) × Leads p (within cs q.around) q.role q.number path ds s m

-- a node of the script stands within these constructs, and is this to the node around it
abbrev pub Stands : Program → List Construct → Role → ℕ → Type 0
Stands p cs r n = (path : List Part) × Leads p [] role.Whole p.root path cs r n

-- x is found at a node that stands in the script
abbrev pub IsFound : {A : Type 0} → Program → Finds A → A → Type 0
IsFound p here x = (cs : List Construct) × (r : Role) × (n : ℕ) × Stands p cs r n × IsIn x (here cs r n)
