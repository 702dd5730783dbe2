-- Sets of tokens, what symbols begin with, and the way that is picked.
use Rattle.std.proofs.Common.{◌≡◌, ◌∙◌, sym, refl, ap, subst, ℕ, Bool, true, false, not, ◌&&◌, ◌||◌, ◌⊎◌, inl, inr, List, [], ◌∷◌, ◌++◌, Option, Some, None, nat_lt, true≢false}
use mathlib.Core.Bool.{false≢true}
use Rattle.py_grammar.specs.declared.symbol.Symbol.{Symbol}
use Rattle.py_grammar.specs.declared.symbol.Symbol.TheVariants.{Terminal as Tk, Word as Nt, Act as Do}
use Rattle.py_grammar.specs.declared.terminal.Terminal.{Terminal}
use Rattle.py_grammar.specs.declared.word.Word.{Word}
use Rattle.py_grammar.specs.Reading.{has, begins, nullable, chosen, pick}
use Rattle.py_grammar.specs.Sets.{first, follow, rank}
use Rattle.py_grammar.specs.Soundness.{before, fronts, within, apart, leads, placed, sound_way, all_fronts, sound_ways}
use Rattle.py_grammar.specs.Terminals.{same}
use Rattle.py_grammar.specs.Ways.{Way}
use Rattle.py_grammar.specs.Writing.{Among, deeper}
use Rattle.py_grammar.proofs.TerminalLaws.{same-is}

-- ---- tests

pub no : {X : Type 0} → false ≡ true → X
no e = absurd (false≢true e)

pub both : (a b : Bool) → a && b ≡ true → (a ≡ true) × (b ≡ true)
both true b h = (refl, h)
both false b h = no h

pub and : (a b : Bool) → a ≡ true → b ≡ true → a && b ≡ true
and true b h i = i
and false b h i = no h

pub either : (a b : Bool) → a || b ≡ true → (a ≡ true) ⊎ (b ≡ true)
either true b h = inl refl
either false b h = inr h

pub one_of : {A B X : Type 0} → (A → X) → (B → X) → A ⊎ B → X
one_of f g (inl a) = f a
one_of f g (inr b) = g b

pub or-left : (a b : Bool) → a ≡ true → a || b ≡ true
or-left true b h = refl
or-left false b h = no h

pub or-right : (a b : Bool) → b ≡ true → a || b ≡ true
or-right true b h = refl
or-right false b h = h

pub or-or : (a b c : Bool) → (a || (b || c)) ≡ ((a || b) || c)
or-or true b c = refl
or-or false b c = refl

pub and-and : (a b c : Bool) → (a && (b && c)) ≡ ((a && b) && c)
and-and true b c = refl
and-and false b c = refl

pub not-both : (a : Bool) → a ≡ false → a ≡ true → ⊥
not-both a f t = false≢true (sym f ∙ t)

pub false-where : (a : Bool) → (a ≡ true → ⊥) → a ≡ false
false-where true f = absurd (f refl)
false-where false f = refl

pub not-true : (a : Bool) → not a ≡ true → a ≡ false
not-true true h = no h
not-true false h = refl

-- ---- sets

pub has-append : (k : Terminal) (ks ls : List Terminal) → has k (ks ++ ls) ≡ (has k ks || has k ls)
has-append k [] ls = refl
has-append k (l ∷ ks) ls = ap (λ b. same k l || b) (has-append k ks ls) ∙ or-or (same k l) (has k ks) (has k ls)

has-of : (k l : Terminal) (ls : List Terminal) → same k l ≡ true → has l ls ≡ true → has k ls ≡ true
has-of k l ls e h = subst (λ x. has x ls ≡ true) (sym (same-is k l e)) h

pub within-has : (k : Terminal) (ks ls : List Terminal) → within ks ls ≡ true → has k ks ≡ true → has k ls ≡ true
within-has k [] ls h i = no i
within-has k (l ∷ ks) ls h i =
    one_of (λ e. has-of k l ls e (both (has l ls) (within ks ls) h).0) (λ e. within-has k ks ls (both (has l ls) (within ks ls) h).1 e) (either (same k l) (has k ks) i)

pub apart-has : (k : Terminal) (ks ls : List Terminal) → apart ks ls ≡ true → has k ks ≡ true → has k ls ≡ true → ⊥
apart-has k [] ls h i j = false≢true i
apart-has k (l ∷ ks) ls h i j =
    one_of (λ e. not-both (has l ls) (not-true (has l ls) (both (not (has l ls)) (apart ks ls) h).0) (subst (λ x. has x ls ≡ true) (same-is k l e) j))
    (λ e. apart-has k ks ls (both (not (has l ls)) (apart ks ls) h).1 e j) (either (same k l) (has k ks) i)

-- ---- what symbols begin with

or-same : (a : Bool) → (a || false) ≡ a
or-same true = refl
or-same false = refl

has-before : (k : Terminal) (x : Bool) (ks : List Terminal) → has k (before x ks) ≡ (x && has k ks)
has-before k true ks = refl
has-before k false ks = refl

pub begins-fronts : (k : Terminal) (e : List Terminal) (ss : List Symbol) → begins (has k e) k ss ≡ has k (fronts e ss)
begins-fronts k e [] = refl
begins-fronts k e (Tk l ∷ ss) = sym (or-same (same k l))
begins-fronts k e (Do a ∷ ss) = begins-fronts k e ss
begins-fronts k e (Nt n d ∷ ss) =
    ap (λ b. has k (first n) || (nullable n && b)) (begins-fronts k e ss)
    ∙ ap (λ b. has k (first n) || b) (sym (has-before k (nullable n) (fronts e ss)))
    ∙ sym (has-append k (first n) (before (nullable n) (fronts e ss)))

pub begins-append : (e : Bool) (k : Terminal) (xs ys : List Symbol) → begins e k (xs ++ ys) ≡ begins (begins e k ys) k xs
begins-append e k [] ys = refl
begins-append e k (Tk l ∷ xs) ys = refl
begins-append e k (Do a ∷ xs) ys = begins-append e k xs ys
begins-append e k (Nt n d ∷ xs) ys = ap (λ b. has k (first n) || (nullable n && b)) (begins-append e k xs ys)

pub begins-deeper : (e : Bool) (k : Terminal) (d : ℕ) (xs : List Symbol) → begins e k (deeper d xs) ≡ begins e k xs
begins-deeper e k d [] = refl
begins-deeper e k d (Tk l ∷ xs) = refl
begins-deeper e k d (Do a ∷ xs) = begins-deeper e k d xs
begins-deeper e k d (Nt n c ∷ xs) = ap (λ b. has k (first n) || (nullable n && b)) (begins-deeper e k d xs)

-- of a way that is taken on a stack
pub begins-opened : (e : Bool) (k : Terminal) (d : ℕ) (xs ys : List Symbol) → begins e k (deeper d xs ++ ys) ≡ begins (begins e k ys) k xs
begins-opened e k d xs ys = begins-append e k (deeper d xs) ys ∙ begins-deeper (begins e k ys) k d xs

and-more : (a b c : Bool) → (b ≡ true → c ≡ true) → a && b ≡ true → a && c ≡ true
and-more true b c f h = f h
and-more false b c f h = h

or-more : (a b c : Bool) → (b ≡ true → c ≡ true) → a || b ≡ true → a || c ≡ true
or-more true b c f h = h
or-more false b c f h = f h

pub begins-more : (k : Terminal) (e f : Bool) (ss : List Symbol) → (e ≡ true → f ≡ true) → begins e k ss ≡ true → begins f k ss ≡ true
begins-more k e f [] g h = g h
begins-more k e f (Tk l ∷ ss) g h = h
begins-more k e f (Do a ∷ ss) g h = begins-more k e f ss g h
begins-more k e f (Nt n d ∷ ss) g h =
    or-more (has k (first n)) (nullable n && begins e k ss) (nullable n && begins f k ss) (and-more (nullable n) (begins e k ss) (begins f k ss) (begins-more k e f ss g)) h

-- what stands behind a way does not matter, since no way is empty
lead-step : (x l : Bool) (e f : Bool) → (l ≡ true → e ≡ f) → not x || l ≡ true → (x && e) ≡ (x && f)
lead-step true l e f g h = g h
lead-step false l e f g h = refl

pub begins-lead : (r : ℕ) (k : Terminal) (e f : Bool) (ss : List Symbol) → leads r ss ≡ true → begins e k ss ≡ begins f k ss
begins-lead r k e f [] h = no h
begins-lead r k e f (Tk l ∷ ss) h = refl
begins-lead r k e f (Do a ∷ ss) h = begins-lead r k e f ss h
begins-lead r k e f (Nt n d ∷ ss) h =
    ap (λ b. has k (first n) || b) (lead-step (nullable n) (leads r ss) (begins e k ss) (begins f k ss) (begins-lead r k e f ss) (both (nat_lt (rank n) r) (not (nullable n) || leads r ss) h).1)

-- ---- the ways of a word

pub sound-among : (n : Word) (w : Way) (ws : List Way) → Among w ws → sound_ways n ws ≡ true → sound_way n w ≡ true
sound-among n w [] i h = absurd i
sound-among n w (v ∷ vs) (inl e) h = subst (λ x. sound_way n x ≡ true) (sym e) (both (sound_way n v) (apart (fronts [] v.symbols) (all_fronts vs) && sound_ways n vs) h).0
sound-among n w (v ∷ vs) (inr i) h = sound-among n w vs i (both (apart (fronts [] v.symbols) (all_fronts vs)) (sound_ways n vs) (both (sound_way n v) (apart (fronts [] v.symbols) (all_fronts vs) && sound_ways n vs) h).1).1

-- what a way begins with is among what all begin with
front-among : (k : Terminal) (w : Way) (ws : List Way) → Among w ws → has k (fronts [] w.symbols) ≡ true → has k (all_fronts ws) ≡ true
front-among k w [] i h = absurd i
front-among k w (v ∷ vs) (inl e) h =
    has-append k (fronts [] v.symbols) (all_fronts vs) ∙ or-left (has k (fronts [] v.symbols)) (has k (all_fronts vs)) (subst (λ x. has k (fronts [] x.symbols) ≡ true) e h)
front-among k w (v ∷ vs) (inr i) h =
    has-append k (fronts [] v.symbols) (all_fronts vs) ∙ or-right (has k (fronts [] v.symbols)) (has k (all_fronts vs)) (front-among k w vs i h)

pub chosen-true : (b : Bool) (w : Way) (o : Option Way) → b ≡ true → chosen b w o ≡ Some w
chosen-true true w o h = refl
chosen-true false w o h = no h

pub chosen-false : (b : Bool) (w : Way) (o : Option Way) → b ≡ false → chosen b w o ≡ o
chosen-false true w o h = absurd (true≢false h)
chosen-false false w o h = refl

-- a way that begins with the token is the one that is picked
pub pick-finds : (n : Word) (k : Terminal) (w : Way) (ws : List Way) → Among w ws → sound_ways n ws ≡ true → begins false k w.symbols ≡ true → pick ws k ≡ Some w
pick-finds n k w [] i h b = absurd i
pick-finds n k w (v ∷ vs) (inl e) h b =
    chosen-true (begins false k v.symbols) v (pick vs k) (subst (λ x. begins false k x.symbols ≡ true) e b) ∙ ap (λ x. Some x) (sym e)
pick-finds n k w (v ∷ vs) (inr i) h b =
    let rest = (both (sound_way n v) (apart (fronts [] v.symbols) (all_fronts vs) && sound_ways n vs) h).1 in
    let parts = both (apart (fronts [] v.symbols) (all_fronts vs)) (sound_ways n vs) rest in
    let mine : has k (all_fronts vs) ≡ true = front-among k w vs i (sym (begins-fronts k [] w.symbols) ∙ b) in
    chosen-false (begins false k v.symbols) v (pick vs k) (false-where (begins false k v.symbols) (λ c. apart-has k (fronts [] v.symbols) (all_fronts vs) parts.0 (sym (begins-fronts k [] v.symbols) ∙ c) mine))
    ∙ pick-finds n k w vs i parts.1 b

-- where no way begins with the token, none is picked
pub pick-none : (n : Word) (k : Terminal) (ws : List Way) → sound_ways n ws ≡ true → (has k (first n) ≡ true → ⊥) → pick ws k ≡ None
pick-none n k [] h f = refl
pick-none n k (v ∷ vs) h f =
    let parts = both (sound_way n v) (apart (fronts [] v.symbols) (all_fronts vs) && sound_ways n vs) h in
    let way = both (leads (rank n) v.symbols) (within (fronts [] v.symbols) (first n) && placed (follow n) v.symbols) parts.0 in
    let inside = (both (within (fronts [] v.symbols) (first n)) (placed (follow n) v.symbols) way.1).0 in
    chosen-false (begins false k v.symbols) v (pick vs k) (false-where (begins false k v.symbols) (λ c. f (within-has k (fronts [] v.symbols) (first n) inside (sym (begins-fronts k [] v.symbols) ∙ c))))
    ∙ pick-none n k vs (both (apart (fronts [] v.symbols) (all_fronts vs)) (sound_ways n vs) parts.1).1 f

not-some : {w : Way} → None ≡ Some w → ⊥
not-some e = subst (λ o. elim o as (λ x. Type 0) [ None ↦ Unit {0} | Some x ↦ ⊥ ]) e tt

some-one : {a b : Way} → Some a ≡ Some b → b ≡ a
some-one {a} {b} e = ap (λ o. elim o as (λ x. Way) [ None ↦ b | Some x ↦ x ]) (sym e)

chosen-among : (b : Bool) (v w : Way) (o : Option Way) (vs : List Way) → (o ≡ Some w → Among w vs) → chosen b v o ≡ Some w → (w ≡ v) ⊎ Among w vs
chosen-among true v w o vs f e = inl (some-one e)
chosen-among false v w o vs f e = inr (f e)

-- what is picked is one of the ways
pub pick-among : (k : Terminal) (w : Way) (ws : List Way) → pick ws k ≡ Some w → Among w ws
pick-among k w [] h = absurd (not-some h)
pick-among k w (v ∷ vs) h = chosen-among (begins false k v.symbols) v w (pick vs k) vs (pick-among k w vs) h
