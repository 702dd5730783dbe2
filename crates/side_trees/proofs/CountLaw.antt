-- The counts of references, for every language and every way of giving them.
use Rattle.std.proofs.Common.{◌≡◌, Bool, true, false, List, [], ◌∷◌, ◌++◌, if◌then◌else◌, ℕ, zero, ◌+◌, ◌-◌, ◌≤◌, refl, ap, ◌∙◌, arith}
use Rattle.side_trees.specs.Sides.{Lang, Message}
use Rattle.side_trees.specs.FreeMessages.{Packet, Carries, Releases, Released, Pings, Ponged, Closes}
use Rattle.side_trees.specs.Counts.{occurrences, references, releases, Counted}

three-plus : (a b c : ℕ) → a + (b + c) ≡ a + b + c
three-plus a b c = omega arith

zero-first : (n : ℕ) → n ≡ zero + n
zero-first n = omega arith

references-append : (L : Lang) {I : Type 0} (same : I → I → Bool) (given : Message L → List I) (i : I) (ps qs : List (Packet L I))
    → references L same given i (ps ++ qs) ≡ references L same given i ps + references L same given i qs
references-append L same given i [] qs = zero-first (references L same given i qs)
references-append L same given i (Carries m ∷ ps) qs =
    ap (λ n. occurrences same i (given m) + n) (references-append L same given i ps qs)
    ∙ three-plus (occurrences same i (given m)) (references L same given i ps) (references L same given i qs)
references-append L same given i (Releases j n ∷ ps) qs = references-append L same given i ps qs
references-append L same given i (Released ∷ ps) qs = references-append L same given i ps qs
references-append L same given i (Pings ∷ ps) qs = references-append L same given i ps qs
references-append L same given i (Ponged ∷ ps) qs = references-append L same given i ps qs
references-append L same given i (Closes ∷ ps) qs = references-append L same given i ps qs

either-plus : (b : Bool) (n x y z : ℕ) → x ≡ y + z → (if b then n + x else x) ≡ (if b then n + y else y) + z
either-plus true n x y z h = omega arith
either-plus false n x y z h = h

releases-append : (L : Lang) {I : Type 0} (same : I → I → Bool) (i : I) (ps qs : List (Packet L I))
    → releases L same i (ps ++ qs) ≡ releases L same i ps + releases L same i qs
releases-append L same i [] qs = zero-first (releases L same i qs)
releases-append L same i (Carries m ∷ ps) qs = releases-append L same i ps qs
releases-append L same i (Releases j n ∷ ps) qs =
    either-plus (same i j) n (releases L same i (ps ++ qs)) (releases L same i ps) (releases L same i qs) (releases-append L same i ps qs)
releases-append L same i (Released ∷ ps) qs = releases-append L same i ps qs
releases-append L same i (Pings ∷ ps) qs = releases-append L same i ps qs
releases-append L same i (Ponged ∷ ps) qs = releases-append L same i ps qs
releases-append L same i (Closes ∷ ps) qs = releases-append L same i ps qs

more-given : (n all back : ℕ) → back ≤ all → (n + all) - back ≡ n + (all - back)
more-given n all back h = omega arith

either-less : (b : Bool) (n all back : ℕ) → all - (if b then n + back else back) ≡ (if b then (all - back) - n else all - back)
either-less true n all back = omega arith
either-less false n all back = refl

balance : (flight out back taken given up : ℕ) → given ≡ flight + out → up ≡ back + taken → up ≤ out → given - taken ≡ (out - up) + flight + back
balance flight out back taken given up g u h = omega arith

pub counted : (L : Lang) (I : Type 0) (same : I → I → Bool) (given : Message L → List I) → Counted L I same given
counted L I same given = record {
  exported = λ i m written read h. more-given (occurrences same i (given m)) (references L same given i written) (releases L same i read) h;
  held = λ i m written read h. more-given (occurrences same i (given m)) (references L same given i read) (releases L same i written) h;
  given_back = λ i j n written read. either-less (same i j) n (references L same given i written) (releases L same i read);
  given_up = λ i j n written read. either-less (same i j) n (references L same given i read) (releases L same i written);
  balanced = λ i flight back out taken h.
      balance (references L same given i flight) (references L same given i out) (releases L same i back) (releases L same i taken)
      (references L same given i (flight ++ out)) (releases L same i (back ++ taken))
      (references-append L same given i flight out) (releases-append L same i back taken) h;
}
