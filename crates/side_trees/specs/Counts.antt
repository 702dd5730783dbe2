-- Export and proxy counts as functions of what a side wrote and read.
-- given p are the identities of the sender's cells that p holds, each as often as it stands there; same compares identities.
use Rattle.std.specs.Prelude.{Bool, List, [], ◌∷◌, ◌++◌, if◌then◌else◌, ℕ, zero, suc, ◌+◌, ◌-◌, ◌≤◌, ◌≡◌}
use Rattle.side_trees.specs.Sides.{Lang, Message}
use Rattle.side_trees.specs.FreeMessages.{Packet, Carries, Releases, Released, Pings, Ponged, Closes}

-- how often i stands in a list
abbrev pub occurrences : {I : Type 0} → (I → I → Bool) → I → List I → ℕ
occurrences same i [] = zero
occurrences same i (j ∷ js) = if same i j then suc (occurrences same i js) else occurrences same i js

-- the references to i that packets give, and those that they give up
abbrev pub references : (L : Lang) {I : Type 0} → (I → I → Bool) → (Message L → List I) → I → List (Packet L I) → ℕ
references L same given i [] = zero
references L same given i (Carries m ∷ ps) = occurrences same i (given m) + references L same given i ps
references L same given i (Releases j n ∷ ps) = references L same given i ps
references L same given i (Released ∷ ps) = references L same given i ps
references L same given i (Pings ∷ ps) = references L same given i ps
references L same given i (Ponged ∷ ps) = references L same given i ps
references L same given i (Closes ∷ ps) = references L same given i ps

abbrev pub releases : (L : Lang) {I : Type 0} → (I → I → Bool) → I → List (Packet L I) → ℕ
releases L same i [] = zero
releases L same i (Carries m ∷ ps) = releases L same i ps
releases L same i (Releases j n ∷ ps) = if same i j then n + releases L same i ps else releases L same i ps
releases L same i (Released ∷ ps) = releases L same i ps
releases L same i (Pings ∷ ps) = releases L same i ps
releases L same i (Ponged ∷ ps) = releases L same i ps
releases L same i (Closes ∷ ps) = releases L same i ps

-- the export count of an own i: given in what was written, less given up in what was read; the proxy count of another's i: given in what was read, less given up in what was written
abbrev pub exports : (L : Lang) {I : Type 0} → (I → I → Bool) → (Message L → List I) → I → List (Packet L I) → List (Packet L I) → ℕ
exports L same given i written read = references L same given i written - releases L same i read

abbrev pub proxies : (L : Lang) {I : Type 0} → (I → I → Bool) → (Message L → List I) → I → List (Packet L I) → List (Packet L I) → ℕ
proxies L same given i written read = references L same given i read - releases L same i written

-- A message written adds what it gives to the exports, and one read to the proxies. A release read lowers the exports of its identity, and one written the proxies.
-- balanced: between two sides of which each has read all but what is in flight from the other, and which give up no more than they were given, the exports are the proxies, the references in flight, and the releases in flight.
pub record Counted (L : Lang) (I : Type 0) (same : I → I → Bool) (given : Message L → List I) : Type 0 where
  pub exported : (i : I) (m : Message L) (written read : List (Packet L I)) → releases L same i read ≤ references L same given i written
      → exports L same given i (Carries m ∷ written) read ≡ occurrences same i (given m) + exports L same given i written read
  pub held : (i : I) (m : Message L) (written read : List (Packet L I)) → releases L same i written ≤ references L same given i read
      → proxies L same given i written (Carries m ∷ read) ≡ occurrences same i (given m) + proxies L same given i written read
  pub given_back : (i j : I) (n : ℕ) (written read : List (Packet L I))
      → exports L same given i written (Releases j n ∷ read) ≡ (if same i j then exports L same given i written read - n else exports L same given i written read)
  pub given_up : (i j : I) (n : ℕ) (written read : List (Packet L I))
      → proxies L same given i (Releases j n ∷ written) read ≡ (if same i j then proxies L same given i written read - n else proxies L same given i written read)
  pub balanced : (i : I) (flight back out taken : List (Packet L I)) → releases L same i (back ++ taken) ≤ references L same given i out
      → exports L same given i (flight ++ out) taken ≡ proxies L same given i (back ++ taken) out + references L same given i flight + releases L same i back
