-- The one interpreter: code of both homes on one heap, each operation carried out where its cell lives.
-- It is run itself, at the language of both sides: codes with their home, the whole heap as state, and no question left to ask.
-- Lists of entries and texts are newest first.
use Rattle.std.specs.Prelude.{Bool, true, false, ◌&&◌, List, [], ◌∷◌, ℕ, ◌≡◌}
use Rattle.std.proofs.Common.{refl}
use Rattle.side_trees.specs.Trees.{Tree, Ended, Return, Act, Tell, Stop, Spend, Do, Ask, Done, Asked, Stopped, NoFuel, bind, run}
use Rattle.side_trees.specs.Sides.{Lang, TreeOf, Request, Reply, Item, Sends, Shows, Event, Got, Begin}

pub data Side : Type 0 where
  A B : Side

abbrev pub other : Side → Side
other A = B
other B = A

-- something of each side
pub record Two (X : Type 0) : Type 0 where
  pub of_a : X
  pub of_b : X

abbrev pub part : {X : Type 0} → Side → Two X → X
part A st = st.of_a
part B st = st.of_b

abbrev pub over : {X : Type 0} → Side → (X → X) → Two X → Two X
over A g st = record st { of_a = g st.of_a }
over B g st = record st { of_b = g st.of_b }

-- One heap: any state in which each side has its part, which can be changed without touching the other's.
pub record Heap (L : Lang) : Type 1 where
  pub W : Type 0
  pub seen_by : Side → W → L.S
  pub changed_by : Side → (L.S → L.S) → W → W
  pub seen_changed : (h : Side) (g : L.S → L.S) (w : W) → seen_by h (changed_by h g w) ≡ g (seen_by h w)
  pub seen_across : (h : Side) (g : L.S → L.S) (w : W) → seen_by (other h) (changed_by h g w) ≡ seen_by (other h) w

-- two heaps side by side are one
pub part_over : {X : Type 0} (h : Side) (g : X → X) (st : Two X) → part h (over h g st) ≡ g (part h st)
part_over A g st = refl
part_over B g st = refl

pub part_across : {X : Type 0} (h : Side) (g : X → X) (st : Two X) → part (other h) (over h g st) ≡ part (other h) st
part_across A g st = refl
part_across B g st = refl

abbrev pub two_parts : (L : Lang) → Heap L
two_parts L = record { W = Two L.S; seen_by = part; changed_by = over; seen_changed = part_over; seen_across = part_across }

-- what a side of the shared run puts on record, and the log: that, and where a text begins
pub record Put (L : Lang) : Type 0 where
  pub side : Side
  pub what : Item L

pub data Entry (L : Lang) : Type 0 where
  Puts : Side → Item L → Entry L
  Begins : Side → TreeOf L → Entry L

-- Own h c: the code c at home h. Cross h r c: what h asked is carried out at the other home, its answer comes back, and h goes on as the code c of it.
pub data Code2 (L : Lang) : Type 0 where
  Own : Side → L.C → Code2 L
  Cross : Side → L.Req → (L.A → L.C) → Code2 L

abbrev pub Tree2 : (L : Lang) → Heap L → Type 0
Tree2 L H = Tree (Code2 L) H.W ⊥ L.A L.K (Put L)

abbrev pub puts : (L : Lang) (H : Heap L) → Side → Item L → Tree2 L H → Tree2 L H
puts L H h i t = Tell (record { side = h; what = i }) t

-- the outcome a of what h was asked: its mark in the log, and the other home goes on with it as it reads it
abbrev pub answer : (L : Lang) (H : Heap L) → Side → L.A → (L.A → Tree2 L H) → Tree2 L H
answer L H h a k =
    Act (λ w. w) (λ w.
    puts L H h (Sends (Reply (L.box_a (H.seen_by h w) a))) (
    k (L.read_a (H.seen_by (other h) w) (L.box_a (H.seen_by h w) a))))

-- h asks q: its mark in the log, one unit, and the operation at the other home
abbrev pub ask : (L : Lang) (H : Heap L) → Side → L.Q → (L.A → L.C) → (L.A → Tree2 L H) → Tree2 L H
ask L H h q c k =
    Act (λ w. w) (λ w.
    puts L H h (Sends (Request (L.box_q (H.seen_by h w) q))) (
    Spend (Cross h (L.box_q (H.seen_by h w) q) c) k))

-- a tree of one home on the one heap
abbrev pub both : (L : Lang) (H : Heap L) → Side → TreeOf L → Tree2 L H
both L H h (Return a) = Return a
both L H h (Act g f) = Act (H.changed_by h g) (λ w. both L H h (f (H.seen_by h w)))
both L H h (Tell o t) = puts L H h (Shows o) (both L H h t)
both L H h (Stop x) = Stop x
both L H h (Spend c k) = Spend (Own h c) (λ a. both L H h (k a))
both L H h (Do o c k) = Do (Own h o) (λ a. Own h (c a)) (λ a. both L H h (k a))
both L H h (Ask q c k) = ask L H h q c (λ a. both L H h (k a))

-- the rule book of both homes
abbrev pub expand2 : (L : Lang) (H : Heap L) → Code2 L → Tree2 L H
expand2 L H (Own h c) = both L H h (L.expand c)
expand2 L H (Cross h r c) = bind (both L H (other h) (L.expand (L.read_q r))) (λ a. answer L H (other h) a (λ a'. both L H h (L.expand (c a'))))

abbrev pub Ended2 : (L : Lang) → Heap L → Type 0
Ended2 L H = Ended (Code2 L) H.W ⊥ L.A L.K (Put L) (List (Entry L))

abbrev pub run2 : (L : Lang) (H : Heap L) → ℕ → Tree2 L H → H.W → List (Entry L) → Ended2 L H
run2 L H u t w talk = run (expand2 L H) (λ p es. Puts p.side p.what ∷ es) u t w talk

-- f where the two sides are the same
abbrev pub where_same : {X : Type 0} → Side → Side → (X → X) → X → X
where_same A A f x = f x
where_same A B f x = x
where_same B A f x = x
where_same B B f x = f x

-- what the log has that side h wrote, and what it has for side h to read and begin
abbrev pub wrote : (L : Lang) → Side → List (Entry L) → List (Item L)
wrote L h [] = []
wrote L h (Puts g i ∷ es) = where_same h g (λ is. i ∷ is) (wrote L h es)
wrote L h (Begins g t ∷ es) = wrote L h es

abbrev pub heard : (L : Lang) → Side → List (Entry L) → List (Event L)
heard L h [] = []
heard L h (Puts g (Sends m) ∷ es) = where_same h (other g) (λ l. Got m ∷ l) (heard L h es)
heard L h (Puts g (Shows o) ∷ es) = heard L h es
heard L h (Begins g t ∷ es) = where_same h g (λ l. Begin t ∷ l) (heard L h es)

-- a text with its home, and those that a log has begun
pub record Text (L : Lang) : Type 0 where
  pub side : Side
  pub tree : TreeOf L

abbrev pub begun : (L : Lang) → List (Entry L) → List (Text L)
begun L [] = []
begun L (Puts g i ∷ es) = begun L es
begun L (Begins g t ∷ es) = record { side = g; tree = t } ∷ begun L es

-- Where a course of texts has come to, with the heap, the units left and the log.
-- Rests: the last text ended, with the last outcome of each side. Leaves: out of the subset. Dry: a unit was due and none was left.
pub data Course (L : Lang) (H : Heap L) : Type 0 where
  Rests : Two L.A → H.W → ℕ → List (Entry L) → Course L H
  Leaves : L.K → H.W → ℕ → List (Entry L) → Course L H
  Dry : H.W → List (Entry L) → Course L H

abbrev pub log_of : (L : Lang) (H : Heap L) → Course L H → List (Entry L)
log_of L H (Rests outs w u talk) = talk
log_of L H (Leaves k w u talk) = talk
log_of L H (Dry w talk) = talk

-- the course after a text of side h
abbrev pub closes : (L : Lang) (H : Heap L) → Side → Two L.A → Ended2 L H → Course L H
closes L H h outs (Done a w u talk) = Rests (over h (λ o. a) outs) w u talk
closes L H h outs (Stopped k w u talk) = Leaves k w u talk
closes L H h outs (NoFuel w talk) = Dry w talk
closes L H h outs (Asked q k w u talk) = absurd q

-- a text may begin where both sides' last outcomes go on
abbrev pub may_begin : (L : Lang) → Two L.A → Bool
may_begin L outs = L.goes_on outs.of_a && L.goes_on outs.of_b

-- One text more. Where it may not begin, the course stays as it is: nothing is done at its home.
abbrev pub text_if : (L : Lang) (H : Heap L) → Bool → Text L → Two L.A → H.W → ℕ → List (Entry L) → Course L H
text_if L H true x outs w u talk = closes L H x.side outs (run2 L H u (both L H x.side x.tree) w (Begins x.side x.tree ∷ talk))
text_if L H false x outs w u talk = Rests outs w u talk

abbrev pub one_text : (L : Lang) (H : Heap L) → Text L → Course L H → Course L H
one_text L H x (Rests outs w u talk) = text_if L H (may_begin L outs) x outs w u talk
one_text L H x (Leaves k w u talk) = Leaves k w u talk
one_text L H x (Dry w talk) = Dry w talk

-- the texts in turn, from a heap at rest
abbrev pub one : (L : Lang) (H : Heap L) → Two L.A → H.W → ℕ → List (Text L) → Course L H
one L H outs w u [] = Rests outs w u []
one L H outs w u (x ∷ xs) = one_text L H x (one L H outs w u xs)
