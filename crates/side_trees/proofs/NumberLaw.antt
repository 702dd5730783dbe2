-- Over messages numbered by place a numbered side is the side itself, for every language.
use Rattle.std.proofs.Common.{◌≡◌, Bool, true, false, if◌then◌else◌, List, [], ◌∷◌, ◌++◌, ℕ, ◌==◌, refl, sym, ap, ◌∙◌, subst, arith}
use Rattle.std.specs.Prelude.{IsFalse}
use Rattle.side_trees.specs.Sides.{Lang, Message, Request, Reply, Event, Got, Begin, Half, react, half, written, sent}
use Rattle.side_trees.specs.FreeMessages.{since}
use Rattle.side_trees.specs.Numbers.{Arrival, Brings, Opens, Tally, number_due, tallied, puts_all, moves, breaks, arrives, tally, numbered_one, by_place, message_list, request_numbers, all_before, ByNumbers}
use Rattle.side_trees.proofs.Lists.{sent-extends}
use Rattle.side_trees.proofs.GrowthLaw.{react-extends}
use Rattle.side_trees.proofs.FreeLaw.{since-append}

equal-itself : (n : ℕ) → (n == n) ≡ true
equal-itself n = grind arith

-- what is put out has the messages, and the requests their numbers
puts-messages : (L : Lang) (x : Tally L) (ms : List (Message L)) → message_list L (puts_all L x ms).out ≡ ms ++ message_list L x.out
puts-messages L x [] = refl
puts-messages L x (Request r ∷ ms) = ap (λ l. Request r ∷ l) (puts-messages L x ms)
puts-messages L x (Reply m ∷ ms) = ap (λ l. Reply m ∷ l) (puts-messages L x ms)

puts-numbers : (L : Lang) (x : Tally L) (ms : List (Message L)) → request_numbers L x.out ≡ all_before x.next
    → request_numbers L (puts_all L x ms).out ≡ all_before (puts_all L x ms).next
puts-numbers L x [] h = h
puts-numbers L x (Request r ∷ ms) h = ap (λ l. (puts_all L x ms).next ∷ l) (puts-numbers L x ms h)
puts-numbers L x (Reply m ∷ ms) h = puts-numbers L x ms h

tallied-out : (L : Lang) (x : Tally L) (m : Message L) → (tallied L x m).out ≡ x.out
tallied-out L x (Request r) = refl
tallied-out L x (Reply m) = refl

tallied-side : (L : Lang) (x : Tally L) (m : Message L) → (tallied L x m).side ≡ x.side
tallied-side L x (Request r) = refl
tallied-side L x (Reply m) = refl

tallied-numbers : (L : Lang) (x : Tally L) (m : Message L) → request_numbers L x.out ≡ all_before x.next
    → request_numbers L (tallied L x m).out ≡ all_before (tallied L x m).next
tallied-numbers L x (Request r) h = h
tallied-numbers L x (Reply m) h = h

-- the messages of a side that moves on are those of its record
moves-messages : (L : Lang) (x : Tally L) (y : Half L) → (since (sent L (written L y)) (sent L (written L x.side)) ++ sent L (written L x.side) ≡ sent L (written L y))
    → message_list L x.out ≡ sent L (written L x.side) → message_list L (moves L x y).out ≡ sent L (written L y)
moves-messages L x y more h =
    let new : List (Message L) = since (sent L (written L y)) (sent L (written L x.side)) in
    puts-messages L x new ∙ ap (λ l. new ++ l) h ∙ more

-- it writes on from what it has written
more-sent : (L : Lang) (s : Half L) (e : Event L) → since (sent L (written L (react L s e))) (sent L (written L s)) ++ sent L (written L s) ≡ sent L (written L (react L s e))
more-sent L s e =
    since-append (sent L (written L (react L s e))) (sent L (written L s)) (sent-extends L (written L (react L s e)) (written L s) (react-extends L s e))

abbrev Stands : (L : Lang) → Tally L → Half L → Type 0
Stands L x y = (x.side ≡ y) × (message_list L x.out ≡ sent L (written L x.side))

reads-stands : (L : Lang) (x : Tally L) (m : Message L) → message_list L x.out ≡ sent L (written L x.side)
    → message_list L (moves L (tallied L x m) (react L x.side (Got m))).out ≡ sent L (written L (react L x.side (Got m)))
reads-stands L x (Request r) h = moves-messages L (tallied L x (Request r)) (react L x.side (Got (Request r))) (more-sent L x.side (Got (Request r))) h
reads-stands L x (Reply m) h = moves-messages L (tallied L x (Reply m)) (react L x.side (Got (Reply m))) (more-sent L x.side (Got (Reply m))) h

taken : (L : Lang) (x : Tally L) (m : Message L) (b : Bool) → b ≡ true
    → (if b then moves L (tallied L x m) (react L x.side (Got m)) else record x { side = breaks L x.side }) ≡ moves L (tallied L x m) (react L x.side (Got m))
taken L x m true h = refl
taken L x m false h = cc

refused : (L : Lang) (x : Tally L) (m : Message L) (b : Bool) → IsFalse b
    → (if b then moves L (tallied L x m) (react L x.side (Got m)) else record x { side = breaks L x.side }).side ≡ breaks L x.side
refused L x m true h = cc
refused L x m false h = refl

one-stands : (L : Lang) (x : Tally L) (y : Half L) (e : Event L) → Stands L x y → Stands L (arrives L x (numbered_one L x e)) (react L y e)
one-stands L x y (Begin t) (a, b) = (ap (λ s. react L s (Begin t)) a, moves-messages L x (react L x.side (Begin t)) (more-sent L x.side (Begin t)) b)
one-stands L x y (Got m) (a, b) =
    let n : ℕ = number_due L x m in
    let P : Tally L → Type 0 = λ z. Stands L z (react L y (Got m)) in
    let now : Stands L (moves L (tallied L x m) (react L x.side (Got m))) (react L y (Got m)) = (ap (λ s. react L s (Got m)) a, reads-stands L x m b) in
    subst P (sym (taken L x m (n == n) (equal-itself n))) now

all-stands : (L : Lang) (start : Half L) (es : List (Event L)) → sent L (written L start) ≡ [] → Stands L (tally L start (by_place L start es)) (half L start es)
all-stands L start [] h = (refl, sym h)
all-stands L start (e ∷ es) h = one-stands L (tally L start (by_place L start es)) (half L start es) e (all-stands L start es h)

-- whatever comes, requests are numbered by place
arrives-numbers : (L : Lang) (x : Tally L) (n : ℕ) (m : Message L) (b : Bool) → request_numbers L x.out ≡ all_before x.next →
    (let y : Tally L = (if b then moves L (tallied L x m) (react L x.side (Got m)) else record x { side = breaks L x.side }) in request_numbers L y.out ≡ all_before y.next)
arrives-numbers L x n m true h =
    puts-numbers L (tallied L x m) (since (sent L (written L (react L x.side (Got m)))) (sent L (written L (tallied L x m).side))) (tallied-numbers L x m h)
arrives-numbers L x n m false h = h

tally-numbers : (L : Lang) (start : Half L) (es : List (Arrival L)) → request_numbers L (tally L start es).out ≡ all_before (tally L start es).next
tally-numbers L start [] = refl
tally-numbers L start (Brings n m ∷ es) =
    let x : Tally L = tally L start es in arrives-numbers L x n m (n == number_due L x m) (tally-numbers L start es)
tally-numbers L start (Opens t ∷ es) =
    let x : Tally L = tally L start es in
    puts-numbers L x (since (sent L (written L (react L x.side (Begin t)))) (sent L (written L x.side))) (tally-numbers L start es)

pub by_numbers : (L : Lang) → ByNumbers L
by_numbers L start none = record {
  by_its_numbers = λ es. (all-stands L start es none).0;
  writes = λ es. (all-stands L start es none).1 ∙ ap (λ s. sent L (written L s)) (all-stands L start es none).0;
  another_number = λ es n m h. refused L (tally L start es) m (n == number_due L (tally L start es) m) h;
  in_order = tally-numbers L start;
}
