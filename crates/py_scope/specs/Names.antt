-- Names of mentions, each once.
use Rattle.std.specs.Prelude.{◌≡◌, ℕ, Bool, List, [], ◌∷◌, ◌++◌, map, fold, filter, length, slice_get, Some, if◌then◌else◌}
use Rattle.std.specs.List.{list_any}
use Rattle.std.specs.Option.{option_map}
use Rattle.std.specs.Str.{bytes_eq}
use Rattle.py_mentions.specs.declared.mention.Mention.{Mention}

abbrev pub with_name : List (List ℕ) → List ℕ → List (List ℕ)
with_name ns n = if list_any (bytes_eq n) ns then ns else ns ++ n ∷ []

-- each name once, in the order in which they come
abbrev pub once : List (List ℕ) → List (List ℕ)
once ns = fold with_name [] ns

-- the names of the mentions that pass the test, each once, in the order in which they come
unfoldable pub names_where : (Mention → Bool) → List Mention → List (List ℕ)
names_where p ms = once (map (λ m. m.name) (filter p ms))

-- ---- sets of names, one for each function

abbrev pub Sets : Type 0
Sets = List (List (List ℕ))

abbrev pub added_if : Bool → List ℕ → List (List ℕ) → List (List ℕ)
added_if b n ns = if b then with_name ns n else ns

-- the name was added where the test says so
abbrev pub Added : (ℕ → Bool) → List ℕ → Sets → Sets → Type 0
Added p n old new = (length new ≡ length old) × ((g : ℕ) → slice_get new g ≡ option_map (added_if (p g) n) (slice_get old g))

-- so many sets, each that of its place
abbrev pub Each : ℕ → (ℕ → List (List ℕ)) → Sets → Type 0
Each count names sets = (length sets ≡ count) × ((g : ℕ) → (s : List (List ℕ)) → slice_get sets g ≡ Some s → s ≡ names g)
