-- Messages that cost nothing change nothing else, for every language.
use Rattle.std.proofs.Common.{◌≡◌, Bool, true, false, List, [], ◌∷◌, ◌++◌, map, length, take, ℕ, ◌-◌, ◌+◌, refl, sym, ap, ◌∙◌, subst, arith, if◌then◌else◌}
use Rattle.std.proofs.lemmas.List.{length-append}
use Rattle.std.proofs.Math.Seq.{take-append_seam}
use Rattle.side_trees.specs.Sides.{Lang, Message, Event, Got, Begin, Half, Going, Failed, react, half, written, sent, got}
use Rattle.side_trees.specs.Growing.{Extends}
use Rattle.side_trees.specs.FreeMessages.{Packet, Carries, Releases, Released, Pings, Ponged, Closes, Happening, Reads, Starts, Sweeps, Shuts, Line, since, carried, talks, answers, reads, line, is_close, read_close, heard_of, conversation, messages, packets, FreeOfCost}
use Rattle.side_trees.proofs.Lists.{sent-extends}
use Rattle.side_trees.proofs.GrowthLaw.{react-extends}

less-the-old : (a b c : ℕ) → a ≡ b + c → a - c ≡ b
less-the-old a b c h = omega arith

pub since-more : {M : Type 0} (more new old : List M) → new ≡ more ++ old → since new old ≡ more
since-more more new old e =
    ap (λ n. take n new) (less-the-old (length new) (length more) (length old) (ap length e ∙ length-append more old)) ∙ ap (take (length more)) e ∙ take-append_seam more old

pub since-append : {M : Type 0} (new old : List M) → Extends new old → since new old ++ old ≡ new
since-append new old (more, e) = ap (λ l. l ++ old) (since-more more new old e) ∙ sym e

messages-append : (L : Lang) (I : Type 0) (ps qs : List (Packet L I)) → messages L I (ps ++ qs) ≡ messages L I ps ++ messages L I qs
messages-append L I [] qs = refl
messages-append L I (Carries m ∷ ps) qs = ap (λ l. m ∷ l) (messages-append L I ps qs)
messages-append L I (Releases i n ∷ ps) qs = messages-append L I ps qs
messages-append L I (Released ∷ ps) qs = messages-append L I ps qs
messages-append L I (Pings ∷ ps) qs = messages-append L I ps qs
messages-append L I (Ponged ∷ ps) qs = messages-append L I ps qs
messages-append L I (Closes ∷ ps) qs = messages-append L I ps qs

messages-carried : (L : Lang) (I : Type 0) (ms : List (Message L)) → messages L I (carried L I ms) ≡ ms
messages-carried L I [] = refl
messages-carried L I (m ∷ ms) = ap (λ l. m ∷ l) (messages-carried L I ms)

messages-swept : (L : Lang) (I : Type 0) (rs : List (I × ℕ)) (ps : List (Packet L I)) → messages L I (map (λ r. Releases r.0 r.1) rs ++ ps) ≡ messages L I ps
messages-swept L I [] ps = refl
messages-swept L I (r ∷ rs) ps = messages-swept L I rs ps

answers-released : (L : Lang) (I : Type 0) (s : Half L) (ps : List (Packet L I)) → messages L I (answers L I s Released ps) ≡ messages L I ps
answers-released L I (Going p s u w) ps = refl
answers-released L I (Failed x s u w) ps = refl

answers-ponged : (L : Lang) (I : Type 0) (s : Half L) (ps : List (Packet L I)) → messages L I (answers L I s Ponged ps) ≡ messages L I ps
answers-ponged L I (Going p s u w) ps = refl
answers-ponged L I (Failed x s u w) ps = refl

-- a line that stands where its conversation does
abbrev Kept : (L : Lang) (I : Type 0) → Half L → Line L I → List (Event L) → Bool → Type 0
Kept L I start x es c = (x.side ≡ half L start es) × (messages L I x.out ≡ sent L (written L x.side)) × (x.closed ≡ c)

talks-messages : (L : Lang) (I : Type 0) (x : Line L I) (e : Event L) → messages L I x.out ≡ sent L (written L x.side)
    → messages L I (talks L I x e).out ≡ sent L (written L (react L x.side e))
talks-messages L I x e h =
    let new : List (Message L) = sent L (written L (react L x.side e)) in
    let old : List (Message L) = sent L (written L x.side) in
    messages-append L I (carried L I (since new old)) x.out
    ∙ ap (λ l. l ++ messages L I x.out) (messages-carried L I (since new old))
    ∙ ap (λ l. since new old ++ l) h
    ∙ since-append new old (sent-extends L (written L (react L x.side e)) (written L x.side) (react-extends L x.side e))

reads-kept : (L : Lang) (I : Type 0) (start : Half L) (x : Line L I) (es : List (Event L)) (p : Packet L I) → Kept L I start x es false
    → Kept L I start (reads L I x p) (heard_of L I p es) (is_close L I p)
reads-kept L I start x es (Carries m) (a, b, c) = (ap (λ s. react L s (Got m)) a, talks-messages L I x (Got m) b, c)
reads-kept L I start x es (Releases i n) (a, b, c) = (a, answers-released L I x.side x.out ∙ b, c)
reads-kept L I start x es Released (a, b, c) = (a, b, c)
reads-kept L I start x es Pings (a, b, c) = (a, answers-ponged L I x.side x.out ∙ b, c)
reads-kept L I start x es Ponged (a, b, c) = (a, b, c)
reads-kept L I start x es Closes (a, b, c) = (a, b, refl)

-- where no close was read, and where one was
meets-kept : (L : Lang) (I : Type 0) (start : Half L) (x : Line L I) (es : List (Event L)) (p : Packet L I) (c : Bool) → Kept L I start x es c
    → Kept L I start (if c then x else reads L I x p) (if c then es else heard_of L I p es) (if c then true else is_close L I p)
meets-kept L I start x es p true h = h
meets-kept L I start x es p false h = reads-kept L I start x es p h

line-kept : (L : Lang) (I : Type 0) (start : Half L) (es : List (Happening L I)) → Kept L I start (line L I start es) (conversation L I es) (read_close L I es)
line-kept L I start [] = (refl, messages-carried L I (sent L (written L start)), refl)
line-kept L I start (Reads p ∷ es) =
    let x : Line L I = line L I start es in
    let h : Kept L I start x (conversation L I es) (read_close L I es) = line-kept L I start es in
    let P : Bool → Type 0 = λ b. Kept L I start (if b then x else reads L I x p) (conversation L I (Reads p ∷ es)) (read_close L I (Reads p ∷ es)) in
    subst P (sym h.2) (meets-kept L I start x (conversation L I es) p (read_close L I es) h)
line-kept L I start (Starts t ∷ es) =
    let x : Line L I = line L I start es in
    let h : Kept L I start x (conversation L I es) (read_close L I es) = line-kept L I start es in
    (ap (λ s. react L s (Begin t)) h.0, talks-messages L I x (Begin t) h.1, h.2)
line-kept L I start (Sweeps rs ∷ es) =
    let x : Line L I = line L I start es in
    let h : Kept L I start x (conversation L I es) (read_close L I es) = line-kept L I start es in
    (h.0, messages-swept L I rs x.out ∙ h.1, h.2)
line-kept L I start (Shuts ∷ es) = line-kept L I start es

not-closed : (a b : Bool) → (if a then true else b) ≡ false → a ≡ false
not-closed true b h = cc
not-closed false b h = refl

hears-packet : (L : Lang) (I : Type 0) (p : Packet L I) (es : List (Event L)) (ps : List (Packet L I)) → got L es ≡ messages L I ps → got L (heard_of L I p es) ≡ messages L I (p ∷ ps)
hears-packet L I (Carries m) es ps h = ap (λ l. m ∷ l) h
hears-packet L I (Releases i n) es ps h = h
hears-packet L I Released es ps h = h
hears-packet L I Pings es ps h = h
hears-packet L I Ponged es ps h = h
hears-packet L I Closes es ps h = h

hears-all : (L : Lang) (I : Type 0) (es : List (Happening L I)) → read_close L I es ≡ false → got L (conversation L I es) ≡ messages L I (packets L I es)
hears-all L I [] h = refl
hears-all L I (Reads p ∷ es) h =
    let still : (read_close L I es ≡ false) = not-closed (read_close L I es) (is_close L I p) h in
    ap (λ b. got L (if b then conversation L I es else heard_of L I p (conversation L I es))) still
    ∙ hears-packet L I p (conversation L I es) (packets L I es) (hears-all L I es still)
hears-all L I (Starts t ∷ es) h = hears-all L I es h
hears-all L I (Sweeps rs ∷ es) h = hears-all L I es h
hears-all L I (Shuts ∷ es) h = hears-all L I es h

messages-extend : (L : Lang) (I : Type 0) (new old : List (Packet L I)) → Extends new old → Extends (messages L I new) (messages L I old)
messages-extend L I new old (more, e) = (messages L I more, ap (messages L I) e ∙ messages-append L I more old)

pub free_of_cost : (L : Lang) (I : Type 0) → FreeOfCost L I
free_of_cost L I = record {
  sides = λ start es. (line-kept L I start es).0;
  writes = λ start es. (line-kept L I start es).1 ∙ ap (λ s. sent L (written L s)) (line-kept L I start es).0;
  closes = λ start es. (line-kept L I start es).2;
  hears = hears-all L I;
  follows = messages-extend L I;
}
