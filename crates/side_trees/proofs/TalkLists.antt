-- What a log has for each side, as lists of events: its messages and its texts counted.
use Rattle.std.proofs.Common.{◌≡◌, List, [], ◌∷◌, ◌++◌, ℕ, zero, suc, ◌+◌, ◌≤◌, refl, sym, ap, ◌∙◌, subst, arith}
use Rattle.std.specs.Prelude.{length}
use Rattle.side_trees.specs.Sides.{Lang, TreeOf, Message, Sends, Shows, Event, Got, Begin, Half, half, written, got, sent}
use Rattle.side_trees.specs.SharedRun.{Side, A, B, other, Entry, Puts, Begins, Text, where_same, wrote, heard, begun}
use Rattle.side_trees.specs.Growing.{Extends}
use Rattle.side_trees.specs.Schedules.{Reached, Begun, A_reads, B_reads, A_begins, B_begins}
use Rattle.side_trees.proofs.GrowthLaw.{half-in_turn, half-extends}

got-append : (L : Lang) (xs ys : List (Event L)) → got L (xs ++ ys) ≡ got L xs ++ got L ys
got-append L [] ys = refl
got-append L (Got m ∷ xs) ys = ap (λ l. m ∷ l) (got-append L xs ys)
got-append L (Begin t ∷ xs) ys = got-append L xs ys

pub got-extends : (L : Lang) (xs ys : List (Event L)) → Extends xs ys → Extends (got L xs) (got L ys)
got-extends L xs ys (m, e) = (got L m, ap (got L) e ∙ got-append L m ys)

-- the texts among events, and those of a side
abbrev pub begins : (L : Lang) → List (Event L) → ℕ
begins L [] = zero
begins L (Got m ∷ es) = begins L es
begins L (Begin t ∷ es) = suc (begins L es)

abbrev pub texts_of : (L : Lang) → Side → List (Text L) → ℕ
texts_of L h [] = zero
texts_of L h (x ∷ xs) = where_same h x.side suc (texts_of L h xs)

suc-right : (n k l : ℕ) → n ≡ k + l → suc n ≡ k + suc l
suc-right n k l e = omega arith

suc-left : (n k l : ℕ) → n ≡ k + l → suc n ≡ suc k + l
suc-left n k l e = omega arith

pub events-counted : (L : Lang) (es : List (Event L)) → length es ≡ length (got L es) + begins L es
events-counted L [] = refl
events-counted L (Got m ∷ es) = suc-left (length es) (length (got L es)) (begins L es) (events-counted L es)
events-counted L (Begin t ∷ es) = suc-right (length es) (length (got L es)) (begins L es) (events-counted L es)

sums-below : (n m a b c d : ℕ) → n ≡ a + b → m ≡ c + d → a ≤ c → b ≤ d → n ≤ m
sums-below n m a b c d e f h k = omega arith

-- a list of events with as many messages and as many texts is as long
pub counts-below : (L : Lang) (xs ys : List (Event L)) → length (got L xs) ≤ length (got L ys) → begins L xs ≤ begins L ys → length xs ≤ length ys
counts-below L xs ys h k =
    sums-below (length xs) (length ys) (length (got L xs)) (begins L xs) (length (got L ys)) (begins L ys) (events-counted L xs) (events-counted L ys) h k

below-suc : (n k : ℕ) → n ≤ k → n ≤ suc k
below-suc n k h = omega arith

suc-below : (n k : ℕ) → n ≤ k → suc n ≤ suc k
suc-below n k h = omega arith

at-least-same : (n : ℕ) → n ≤ n
at-least-same n = omega arith

begins-front : (L : Lang) (xs ys : List (Event L)) → begins L ys ≤ begins L (xs ++ ys)
begins-front L [] ys = at-least-same (begins L ys)
begins-front L (Got m ∷ xs) ys = begins-front L xs ys
begins-front L (Begin t ∷ xs) ys = below-suc (begins L ys) (begins L (xs ++ ys)) (begins-front L xs ys)

pub begins-extends : (L : Lang) (xs ys : List (Event L)) → Extends xs ys → begins L ys ≤ begins L xs
begins-extends L xs ys (m, e) = subst (λ l. begins L ys ≤ begins L l) (sym e) (begins-front L m ys)

-- what the log has for a side to read is what it has that the other wrote
pub a-hears : (L : Lang) (es : List (Entry L)) → got L (heard L A es) ≡ sent L (wrote L B es)
a-hears L [] = refl
a-hears L (Puts A (Sends m) ∷ es) = a-hears L es
a-hears L (Puts A (Shows o) ∷ es) = a-hears L es
a-hears L (Puts B (Sends m) ∷ es) = ap (λ l. m ∷ l) (a-hears L es)
a-hears L (Puts B (Shows o) ∷ es) = a-hears L es
a-hears L (Begins A t ∷ es) = a-hears L es
a-hears L (Begins B t ∷ es) = a-hears L es

pub b-hears : (L : Lang) (es : List (Entry L)) → got L (heard L B es) ≡ sent L (wrote L A es)
b-hears L [] = refl
b-hears L (Puts A (Sends m) ∷ es) = ap (λ l. m ∷ l) (b-hears L es)
b-hears L (Puts A (Shows o) ∷ es) = b-hears L es
b-hears L (Puts B (Sends m) ∷ es) = b-hears L es
b-hears L (Puts B (Shows o) ∷ es) = b-hears L es
b-hears L (Begins A t ∷ es) = b-hears L es
b-hears L (Begins B t ∷ es) = b-hears L es

-- its texts are those that the log has begun there
where-message : (L : Lang) (g h : Side) (m : Message L) (es : List (Event L)) → begins L (where_same g h (λ l. Got m ∷ l) es) ≡ begins L es
where-message L A A m es = refl
where-message L A B m es = refl
where-message L B A m es = refl
where-message L B B m es = refl

where-text : (L : Lang) (g h : Side) (t : TreeOf L) (es : List (Event L)) → begins L (where_same g h (λ l. Begin t ∷ l) es) ≡ where_same g h suc (begins L es)
where-text L A A t es = refl
where-text L A B t es = refl
where-text L B A t es = refl
where-text L B B t es = refl

pub texts-heard : (L : Lang) (h : Side) (es : List (Entry L)) → begins L (heard L h es) ≡ texts_of L h (begun L es)
texts-heard L h [] = refl
texts-heard L h (Puts g (Sends m) ∷ es) = where-message L h (other g) m (heard L h es) ∙ texts-heard L h es
texts-heard L h (Puts g (Shows o) ∷ es) = texts-heard L h es
texts-heard L h (Begins g t ∷ es) = where-text L h g t (heard L h es) ∙ ap (where_same h g suc) (texts-heard L h es)

-- an older end of the log has an older end for each side
where-front : (L : Lang) (g h : Side) (e : Event L) (xs ys : List (Event L)) → where_same g h (λ l. e ∷ l) (xs ++ ys) ≡ where_same g h (λ l. e ∷ l) xs ++ ys
where-front L A A e xs ys = refl
where-front L A B e xs ys = refl
where-front L B A e xs ys = refl
where-front L B B e xs ys = refl

heard-append : (L : Lang) (h : Side) (xs ys : List (Entry L)) → heard L h (xs ++ ys) ≡ heard L h xs ++ heard L h ys
heard-append L h [] ys = refl
heard-append L h (Puts g (Sends m) ∷ xs) ys =
    ap (where_same h (other g) (λ l. Got m ∷ l)) (heard-append L h xs ys) ∙ where-front L h (other g) (Got m) (heard L h xs) (heard L h ys)
heard-append L h (Puts g (Shows o) ∷ xs) ys = heard-append L h xs ys
heard-append L h (Begins g t ∷ xs) ys = ap (where_same h g (λ l. Begin t ∷ l)) (heard-append L h xs ys) ∙ where-front L h g (Begin t) (heard L h xs) (heard L h ys)

pub heard-extends : (L : Lang) (h : Side) (xs ys : List (Entry L)) → Extends xs ys → Extends (heard L h xs) (heard L h ys)
heard-extends L h xs ys (m, e) = (heard L h m, ap (heard L h) e ∙ heard-append L h m ys)

-- a side's record grows with what it reads
pub record-extends : (L : Lang) (start : Half L) (xs ys : List (Event L)) → Extends xs ys → Extends (written L (half L start xs)) (written L (half L start ys))
record-extends L start xs ys (m, e) =
    subst (λ x. Extends (written L x) (written L (half L start ys))) (sym (ap (half L start) e ∙ half-in_turn L start m ys)) (half-extends L (half L start ys) m)

-- a schedule has begun its texts
pub texts-at-a : (L : Lang) (a b : Half L) {xs : List (Text L)} {ra rb : List (Event L)} → Reached L a b xs ra rb → begins L ra ≡ texts_of L A xs
texts-at-a L a b Begun = refl
texts-at-a L a b (A_reads m r e) = texts-at-a L a b r
texts-at-a L a b (B_reads m r e) = texts-at-a L a b r
texts-at-a L a b (A_begins t r q i j) = ap suc (texts-at-a L a b r)
texts-at-a L a b (B_begins t r q i j) = texts-at-a L a b r

pub texts-at-b : (L : Lang) (a b : Half L) {xs : List (Text L)} {ra rb : List (Event L)} → Reached L a b xs ra rb → begins L rb ≡ texts_of L B xs
texts-at-b L a b Begun = refl
texts-at-b L a b (A_reads m r e) = texts-at-b L a b r
texts-at-b L a b (B_reads m r e) = texts-at-b L a b r
texts-at-b L a b (A_begins t r q i j) = texts-at-b L a b r
texts-at-b L a b (B_begins t r q i j) = ap suc (texts-at-b L a b r)
