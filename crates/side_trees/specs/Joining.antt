-- Law 2: the one interpreter is two sides joined, each a fold over what the log has for it.
use Rattle.std.specs.Prelude.{List, [], ◌∷◌, ℕ, zero, ◌+◌, ◌≡◌, IsTrue, ⊤}
use Rattle.side_trees.specs.Sides.{Lang, Pending, Over, Await, Failure, OutOfFuel, Beyond, Half, Going, Failed, half, idling, written}
use Rattle.side_trees.specs.SharedRun.{Side, A, B, other, Two, part, Heap, two_parts, Entry, Puts, Begins, Text, wrote, heard, Course, Rests, Leaves, Dry, one}
use Rattle.side_trees.specs.Growing.{Extends}

-- the two sides at their start, by their units
abbrev pub Sides : Lang → Type 0
Sides L = Side → ℕ → Half L

abbrev pub starts : (L : Lang) (H : Heap L) → Two L.A → H.W → Sides L
starts L H outs w h u = idling L (part h outs) (H.seen_by h w) u

-- with n units and d more, for every d, side h comes over its part of the log to an end with d left; with exactly n it comes to that end
abbrev pub Comes : (L : Lang) → Sides L → Side → ℕ → List (Entry L) → (ℕ → Half L) → Type 0
Comes L start h n talk end = (d : ℕ) → half L (start h (n + d)) (heard L h talk) ≡ end d

abbrev pub ComesExactly : (L : Lang) → Sides L → Side → ℕ → List (Entry L) → Half L → Type 0
ComesExactly L start h n talk end = half L (start h n) (heard L h talk) ≡ end

-- side h waits or is idle, or it failed: with its part of the heap, d units, and what the log has that it wrote
abbrev pub waits : (L : Lang) (H : Heap L) → Pending L → Side → H.W → List (Entry L) → ℕ → Half L
waits L H p h w talk d = Going p (H.seen_by h w) d (wrote L h talk)

abbrev pub fails : (L : Lang) (H : Heap L) → Failure L → Side → H.W → List (Entry L) → ℕ → Half L
fails L H f h w talk d = Failed f (H.seen_by h w) d (wrote L h talk)

-- that of side h
abbrev pub pick : (L : Lang) → Half L → Half L → Side → Half L
pick L a b A = a
pick L a b B = b

-- idle, after a text that goes on
abbrev pub MayBegin : (L : Lang) → Half L → Type 0
MayBegin L (Going (Over a) s u w) = IsTrue (L.goes_on a)
MayBegin L (Going (Await task k) s u w) = ⊥
MayBegin L (Failed x s u w) = ⊥

-- nothing is unread, and a text may begin
abbrev pub Still : (L : Lang) → Half L → Half L → List (Entry L) → Type 0
Still L a b talk =
    (written L (half L a (heard L A talk)) ≡ wrote L A talk) × (written L (half L b (heard L B talk)) ≡ wrote L B talk)
    × MayBegin L (half L a (heard L A talk)) × MayBegin L (half L b (heard L B talk))

-- each item of the log was written by its side over what it had read by then, and each text begun where nothing was left to do
abbrev pub Causal : (L : Lang) → Half L → Half L → List (Entry L) → Type 0
Causal L a b [] = ⊤
Causal L a b (Puts h i ∷ es) = Causal L a b es × Extends (written L (half L (pick L a b h) (heard L h es))) (i ∷ wrote L h es)
Causal L a b (Begins h t ∷ es) = Causal L a b es × Still L a b es

abbrev pub CausalAt : (L : Lang) → Sides L → Side → ℕ → ℕ → List (Entry L) → Type 0
CausalAt L start A n m talk = (d d' : ℕ) → Causal L (start A (n + d)) (start B (m + d')) talk
CausalAt L start B n m talk = (d d' : ℕ) → Causal L (start A (m + d)) (start B (n + d')) talk

-- both are idle with their last outcomes
abbrev pub Idle : (L : Lang) (H : Heap L) → Sides L → Two L.A → H.W → List (Entry L) → Side → ℕ → ℕ → Type 0
Idle L H start outs w talk h n m =
    Comes L start h n talk (waits L H (Over (part h outs)) h w talk)
    × Comes L start (other h) m talk (waits L H (Over (part (other h) outs)) (other h) w talk)
    × CausalAt L start h n m talk

-- A course from f units as two sides: the units that they spend (n and m) and those left are f together.
-- At rest both are idle. Where it leaves the subset or runs dry, one side h ends so, and the other waits or is idle.
abbrev pub Joined : (L : Lang) (H : Heap L) → Sides L → ℕ → Course L H → Type 0
Joined L H start f (Rests outs w u talk) =
    (n : ℕ) × (m : ℕ) × (n + m + u ≡ f) × Idle L H start outs w talk A n m
Joined L H start f (Leaves k w u talk) =
    (h : Side) × (n : ℕ) × (m : ℕ) × (p : Pending L) × (n + m + u ≡ f)
    × Comes L start h n talk (fails L H (Beyond k) h w talk)
    × Comes L start (other h) m talk (waits L H p (other h) w talk)
    × CausalAt L start h n m talk
Joined L H start f (Dry w talk) =
    (h : Side) × (n : ℕ) × (m : ℕ) × (p : Pending L) × (n + m ≡ f)
    × ComesExactly L start h n talk (fails L H OutOfFuel h w talk zero)
    × Comes L start (other h) m talk (waits L H p (other h) w talk)
    × CausalAt L start h n m talk

-- law 2, over any heap
abbrev pub OneIsTwo : (L : Lang) → Heap L → Type 0
OneIsTwo L H = (outs : Two L.A) (w : H.W) (f : ℕ) (texts : List (Text L)) → Joined L H (starts L H outs w) f (one L H outs w f texts)

-- the two parts of a heap, and a course seen so
abbrev pub parts : (L : Lang) (H : Heap L) → H.W → Two L.S
parts L H w = record { of_a = H.seen_by A w; of_b = H.seen_by B w }

abbrev pub in_parts : (L : Lang) (H : Heap L) → Course L H → Course L (two_parts L)
in_parts L H (Rests outs w u talk) = Rests outs (parts L H w) u talk
in_parts L H (Leaves k w u talk) = Leaves k (parts L H w) u talk
in_parts L H (Dry w talk) = Dry (parts L H w) talk

-- the one-heap law: the run over a heap is that over its two parts
abbrev pub OneHeap : (L : Lang) → Heap L → Type 0
OneHeap L H = (outs : Two L.A) (w : H.W) (f : ℕ) (texts : List (Text L))
    → in_parts L H (one L H outs w f texts) ≡ one L (two_parts L) outs (parts L H w) f texts
