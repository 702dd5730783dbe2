-- The texts that a course begins are the first of those given.
use Rattle.std.proofs.Common.{◌≡◌, List, [], ◌∷◌, ℕ, zero, suc, Bool, true, false, refl, sym, ap, ◌∙◌, subst}
use Rattle.std.specs.Prelude.{⊤}
use Rattle.side_trees.specs.Trees.{Return, Act, Tell, Stop, Spend, Do, Ask, Done, Asked, Stopped, NoFuel, bind}
use Rattle.side_trees.specs.SharedRun.{Side, Two, Heap, Entry, Puts, Begins, Text, Tree2, Ended2, run2, expand2, both, begun, Course, Rests, Leaves, Dry, log_of, closes, may_begin, text_if, one_text, one}
use Rattle.side_trees.specs.Sides.{Lang}
use Rattle.side_trees.specs.Growing.{Extends}
use Rattle.side_trees.specs.Schedules.{InTurn}
use Rattle.side_trees.proofs.Lists.{extends-same, extends-one, extends-trans}

abbrev end_log : (L : Lang) (H : Heap L) → Ended2 L H → List (Entry L)
end_log L H (Done a w u talk) = talk
end_log L H (Stopped k w u talk) = talk
end_log L H (NoFuel w talk) = talk
end_log L H (Asked q k w u talk) = talk

-- a run begins no text
run-begins : (L : Lang) (H : Heap L) (u : ℕ) (t : Tree2 L H) (w : H.W) (talk : List (Entry L)) → begun L (end_log L H (run2 L H u t w talk)) ≡ begun L talk
run-begins L H u (Return a) w talk = refl
run-begins L H u (Act g f) w talk = run-begins L H u (f w) (g w) talk
run-begins L H u (Tell p t) w talk = run-begins L H u t w (Puts p.side p.what ∷ talk)
run-begins L H u (Stop x) w talk = refl
run-begins L H zero (Spend c k) w talk = refl
run-begins L H (suc u) (Spend c k) w talk = run-begins L H u (bind (expand2 L H c) k) w talk
run-begins L H zero (Do o c k) w talk = refl
run-begins L H (suc u) (Do o c k) w talk = run-begins L H u (bind (expand2 L H o) (λ a. bind (expand2 L H (c a)) k)) w talk
run-begins L H u (Ask q c k) w talk = absurd q

closes-log : (L : Lang) (H : Heap L) (h : Side) (outs : Two L.A) (x : Ended2 L H) → log_of L H (closes L H h outs x) ≡ end_log L H x
closes-log L H h outs (Done a w u talk) = refl
closes-log L H h outs (Stopped k w u talk) = refl
closes-log L H h outs (NoFuel w talk) = refl
closes-log L H h outs (Asked q k w u talk) = absurd q

-- a text that may begin is begun
pub if-begun : (L : Lang) (H : Heap L) (b : Bool) (x : Text L) (outs : Two L.A) (w : H.W) (u : ℕ) (talk : List (Entry L)) → b ≡ true
    → begun L (log_of L H (text_if L H b x outs w u talk)) ≡ x ∷ begun L talk
if-begun L H true x outs w u talk e =
    ap (begun L) (closes-log L H x.side outs (run2 L H u (both L H x.side x.tree) w (Begins x.side x.tree ∷ talk)))
    ∙ run-begins L H u (both L H x.side x.tree) w (Begins x.side x.tree ∷ talk)
if-begun L H false x outs w u talk e = absurd cc

pub text-begun : (L : Lang) (H : Heap L) (x : Text L) (outs : Two L.A) (w : H.W) (u : ℕ) (talk : List (Entry L)) → may_begin L outs ≡ true
    → begun L (log_of L H (one_text L H x (Rests outs w u talk))) ≡ x ∷ begun L talk
text-begun L H x outs w u talk e = if-begun L H (may_begin L outs) x outs w u talk e

-- where another text may begin, all of those given were begun
abbrev pub Whole : (L : Lang) (H : Heap L) → List (Text L) → Course L H → Type 0
Whole L H xs (Rests outs w u talk) = may_begin L outs ≡ true → begun L talk ≡ xs
Whole L H xs (Leaves k w u talk) = ⊤
Whole L H xs (Dry w talk) = ⊤

abbrev pub Turned : (L : Lang) (H : Heap L) → List (Text L) → Course L H → Type 0
Turned L H xs course = Extends xs (begun L (log_of L H course)) × Whole L H xs course

all-of-them : (L : Lang) (H : Heap L) (xs : List (Text L)) (course : Course L H) → begun L (log_of L H course) ≡ xs → Turned L H xs course
all-of-them L H xs (Rests outs w u talk) e = (subst (Extends xs) (sym e) (extends-same xs), λ h. e)
all-of-them L H xs (Leaves k w u talk) e = (subst (Extends xs) (sym e) (extends-same xs), tt)
all-of-them L H xs (Dry w talk) e = (subst (Extends xs) (sym e) (extends-same xs), tt)

never : {X : Type 0} → false ≡ true → X
never h = absurd cc

text-if-turned : (L : Lang) (H : Heap L) (b : Bool) (x : Text L) (xs : List (Text L)) (outs : Two L.A) (w : H.W) (u : ℕ) (talk : List (Entry L))
    → may_begin L outs ≡ b → Turned L H xs (Rests outs w u talk) → Turned L H (x ∷ xs) (text_if L H b x outs w u talk)
text-if-turned L H true x xs outs w u talk e (f, g) =
    all-of-them L H (x ∷ xs) (text_if L H true x outs w u talk) (if-begun L H true x outs w u talk refl ∙ ap (λ l. x ∷ l) (g e))
text-if-turned L H false x xs outs w u talk e (f, g) = (extends-trans (x ∷ xs) xs (begun L talk) (extends-one x xs) f, λ h. never (sym e ∙ h))

text-turned : (L : Lang) (H : Heap L) (x : Text L) (xs : List (Text L)) (course : Course L H) → Turned L H xs course → Turned L H (x ∷ xs) (one_text L H x course)
text-turned L H x xs (Rests outs w u talk) h = text-if-turned L H (may_begin L outs) x xs outs w u talk refl h
text-turned L H x xs (Leaves k w u talk) (f, g) = (extends-trans (x ∷ xs) xs (begun L talk) (extends-one x xs) f, tt)
text-turned L H x xs (Dry w talk) (f, g) = (extends-trans (x ∷ xs) xs (begun L talk) (extends-one x xs) f, tt)

pub all-turned : (L : Lang) (H : Heap L) (outs : Two L.A) (w : H.W) (f : ℕ) (xs : List (Text L)) → Turned L H xs (one L H outs w f xs)
all-turned L H outs w f [] = (extends-same [], λ h. refl)
all-turned L H outs w f (x ∷ xs) = text-turned L H x xs (one L H outs w f xs) (all-turned L H outs w f xs)

pub in_turn : (L : Lang) (H : Heap L) → InTurn L H
in_turn L H outs w f xs = (all-turned L H outs w f xs).0
