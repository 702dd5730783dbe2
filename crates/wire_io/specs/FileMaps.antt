-- Files as a map from names to bytes.
use Rattle.std.specs.Prelude.{◌≡◌, nat_eq, ℕ, List, Option, Some, None, find}
use Rattle.std.specs.Cmp.Lexicographic.{pointwise}
use Rattle.std.specs.Option.{option_map}
use Rattle.wire_io.specs.declared.files.FileAnswer.{FileAnswer}
use Rattle.wire_io.specs.declared.files.FileAnswer.TheVariants.{Bytes, NotThere, Failed, NoMemory}

-- the bytes of the first entry that has this name
abbrev pub first_named : {A : Type 0} → (A → List ℕ) → (A → List ℕ) → List A → List ℕ → Option (List ℕ)
first_named name bytes entries wanted = option_map bytes (find (λ e. pointwise nat_eq (name e) wanted) entries)

-- Where the files tell, the bytes are those of the map, and what is not there is not in the map.
abbrev pub AnswersFrom : Option (List ℕ → Option (List ℕ)) → List ℕ → FileAnswer → Type 0
AnswersFrom None name answer = Unit {0}
AnswersFrom (Some held) name (Bytes b) = held name ≡ Some b
AnswersFrom (Some held) name NotThere = held name ≡ None
AnswersFrom (Some held) name Failed = Unit {0}
AnswersFrom (Some held) name NoMemory = Unit {0}
