-- Pieces that are printed one behind the other.
use Rattle.std.proofs.Common.{◌≡◌, ℕ, zero, suc, ◌+◌, ◌<◌, ◌≤◌, Bool, false, ◌==◌, List, [], ◌∷◌, ◌++◌, length, take, drop, map, get_or, codes, Result, Ok, Err, IsErrAnd, refl, sym, ap, ◌∙◌, subst, arith, append_assoc, append-nil, if◌then◌else◌}
use Rattle.std.proofs.lemmas.Bool.{ne_eqb}
use Rattle.std.proofs.lemmas.List.{length-append, take-take, take_at, map-append, take-append-drop}
use Rattle.std.specs.Bool.{⊤}
use Rattle.py_strs.specs.Joining.{joined, followed}
use Rattle.rp_base.specs.declared.exceptions.Beyond.TheVariants as beyond
use Rattle.rp_base.specs.declared.plain.Plain.{Plain}
use Rattle.rp_base.specs.declared.plain.Plain.TheVariants as plain
use Rattle.py_plain.specs.Printing.{repr_of, tuple_repr}
use Rattle.py_plain.specs.PrintingLaws.{repr_tuple}
use Rattle.py_plain.specs.Putting.{Puts, separator}
use Rattle.py_plain.specs.declared.ends.PlainEnd.{PlainEnd}
use Rattle.py_plain.specs.declared.ends.PlainEnd.TheVariants as end

-- what stood before an error stands behind it
pub kept : (most : ℕ) (text old new : List ℕ) (e : PlainEnd) → Puts most text old new (Err e) → take (length old) new ≡ old
kept most text old new (end.Beyond beyond.Size) h = h.1
kept most text old new end.NoMemory h = h
kept most text old new _ h = absurd h

-- a piece that was printed
pub more : (most : ℕ) (front piece next old mid new : List ℕ) (t : ⊤) → mid ≡ old ++ front → next ≡ front ++ piece → Puts most piece mid new (Ok t) → (length new ≤ most) × (new ≡ old ++ next)
more most front piece next old mid new t m n h =
    let whole : length (mid ++ piece) ≡ length mid + length piece = length-append mid piece in
    let long : length new ≡ length (mid ++ piece) = ap length h.1 in
    let few : length mid + length piece ≤ most = h.0 in
    (omega (arith, whole, long), h.1 ∙ ap (λ (l : List ℕ). l ++ piece) m ∙ append_assoc old front piece ∙ ap (λ (l : List ℕ). old ++ l) (sym n))

still : (old front mid new : List ℕ) → mid ≡ old ++ front → take (length mid) new ≡ mid → take (length old) new ≡ old
still old front mid new e h =
    let longer : length mid ≡ length old + length front = ap length e ∙ length-append old front in
    let at_most : length old ≤ length mid = omega (arith, longer) in
    sym (take-take (length old) (length mid) new at_most) ∙ ap (take (length old)) h ∙ ap (take (length old)) e ∙ take_at old front (length old) refl

-- a piece that was not
fails_at : (most : ℕ) (front piece rest whole old mid new : List ℕ) (e : PlainEnd) → mid ≡ old ++ front → whole ≡ (front ++ piece) ++ rest → Puts most piece mid new (Err e) → Puts most whole old new (Err e)
fails_at most front piece rest whole old mid new (end.Beyond beyond.Size) m w h =
    let a : length whole ≡ length (front ++ piece) + length rest = ap length w ∙ length-append (front ++ piece) rest in
    let b : length (front ++ piece) ≡ length front + length piece = length-append front piece in
    let c : length mid ≡ length old + length front = ap length m ∙ length-append old front in
    let d : most < length mid + length piece = h.0 in
    (omega (arith, a, b, c, d), still old front mid new m h.1)
fails_at most front piece rest whole old mid new end.NoMemory m w h = still old front mid new m h
fails_at most front piece rest whole old mid new _ m w h = absurd h

handed_on : {A : Type 0} (r : Result A PlainEnd) (e : PlainEnd) → IsErrAnd r (λ x. x ≡ e) → Err e ≡ r
handed_on (Ok x) e h = absurd h
handed_on (Err x) e h = ap Err (sym h)

pub fails : (most : ℕ) (front piece rest whole old mid new : List ℕ) (e : PlainEnd) (r : Result ⊤ PlainEnd)
    → mid ≡ old ++ front → whole ≡ (front ++ piece) ++ rest → Puts most piece mid new (Err e) → IsErrAnd r (λ x. x ≡ e) → Puts most whole old new r
fails most front piece rest whole old mid new e r m w h g = subst (λ (s : Result ⊤ PlainEnd). Puts most whole old new s) (handed_on r e g) (fails_at most front piece rest whole old mid new e m w h)

-- ---- the items of a tuple

abbrev between : List ℕ → List (List ℕ) → List ℕ
between sep [] = []
between sep (t ∷ ts) = sep

followed_push : (sep : List ℕ) (ts : List (List ℕ)) (t : List ℕ) → followed sep (ts ++ t ∷ []) ≡ followed sep ts ++ (sep ++ t)
followed_push sep [] t = ap (λ (l : List ℕ). sep ++ l) (append-nil t)
followed_push sep (s ∷ ts) t =
    ap (λ (l : List ℕ). sep ++ (s ++ l)) (followed_push sep ts t)
    ∙ ap (λ (l : List ℕ). sep ++ l) (sym (append_assoc s (followed sep ts) (sep ++ t)))
    ∙ sym (append_assoc sep (s ++ followed sep ts) (sep ++ t))

joined_push : (sep : List ℕ) (ts : List (List ℕ)) (t : List ℕ) → joined sep (ts ++ t ∷ []) ≡ joined sep ts ++ (between sep ts ++ t)
joined_push sep [] t = append-nil t
joined_push sep (s ∷ ts) t = ap (λ (l : List ℕ). s ++ l) (followed_push sep ts t) ∙ sym (append_assoc s (followed sep ts) (sep ++ t))

-- what comes behind the first of them
abbrev behind : List ℕ → List (List ℕ) → List (List ℕ) → List ℕ
behind sep [] us = joined sep us
behind sep (t ∷ ts) us = followed sep us

followed_parts : (sep : List ℕ) (ts us : List (List ℕ)) → followed sep (ts ++ us) ≡ followed sep ts ++ followed sep us
followed_parts sep [] us = refl
followed_parts sep (t ∷ ts) us =
    ap (λ (l : List ℕ). sep ++ (t ++ l)) (followed_parts sep ts us)
    ∙ ap (λ (l : List ℕ). sep ++ l) (sym (append_assoc t (followed sep ts) (followed sep us)))
    ∙ sym (append_assoc sep (t ++ followed sep ts) (followed sep us))

joined_parts : (sep : List ℕ) (ts us : List (List ℕ)) → joined sep (ts ++ us) ≡ joined sep ts ++ behind sep ts us
joined_parts sep [] us = refl
joined_parts sep (t ∷ ts) us = ap (λ (l : List ℕ). t ++ l) (followed_parts sep ts us) ∙ sym (append_assoc t (followed sep ts) (followed sep us))

-- the repr of the first i items, and of one more
abbrev pub first_items : ℕ → List Plain → List ℕ
first_items i xs = joined (codes ", ") (map repr_of (take i xs))

pushed : (i : ℕ) (xs : List Plain) (x : Plain) → i < length xs → x ≡ get_or xs i x → map repr_of (take (i + 1) xs) ≡ map repr_of (take i xs) ++ repr_of x ∷ []
pushed i xs x h e =
    let next : i + 1 ≡ suc i = omega arith in
    ap (λ (k : ℕ). map repr_of (take k xs)) next ∙ ap (map repr_of) (one_more i xs x h e) ∙ map-append repr_of (take i xs) (x ∷ [])
  where
    one_more : (i : ℕ) (xs : List Plain) (x : Plain) → i < length xs → x ≡ get_or xs i x → take (suc i) xs ≡ take i xs ++ x ∷ []
    one_more i [] x h e = absurd (omega arith)
    one_more zero (y ∷ ys) x h e = ap (λ (z : Plain). z ∷ []) (sym e)
    one_more (suc i) (y ∷ ys) x h e = ap (λ (l : List Plain). y ∷ l) (one_more i ys x (omega arith) e)

separated : (i : ℕ) (xs : List Plain) → i < length xs → between (codes ", ") (map repr_of (take i xs)) ≡ separator i
separated zero xs h = refl
separated (suc i) [] h = absurd (omega arith)
separated (suc i) (x ∷ xs) h = let later : (suc i == 0) ≡ false = ne_eqb (suc i) 0 (λ e. omega arith) in ap (λ (b : Bool). if b then [] else codes ", ") (sym later)

pub one_item_more : (i : ℕ) (xs : List Plain) (x : Plain) → i < length xs → x ≡ get_or xs i x → first_items (i + 1) xs ≡ first_items i xs ++ (separator i ++ repr_of x)
one_item_more i xs x h e =
    ap (joined (codes ", ")) (pushed i xs x h e) ∙ joined_push (codes ", ") (map repr_of (take i xs)) (repr_of x)
    ∙ ap (λ (s : List ℕ). first_items i xs ++ (s ++ repr_of x)) (separated i xs h)

pub items_left : (i : ℕ) (xs : List Plain) → List ℕ
items_left i xs = behind (codes ", ") (map repr_of (take i xs)) (map repr_of (drop i xs))

pub with_items_left : (i : ℕ) (xs : List Plain) (x : Plain) → i < length xs → x ≡ get_or xs i x → joined (codes ", ") (map repr_of xs) ≡ (first_items i xs ++ (separator i ++ repr_of x)) ++ items_left (i + 1) xs
unfolding items_left
with_items_left i xs x h e =
    ap (λ (l : List Plain). joined (codes ", ") (map repr_of l)) (sym (take-append-drop (i + 1) xs))
    ∙ ap (joined (codes ", ")) (map-append repr_of (take (i + 1) xs) (drop (i + 1) xs))
    ∙ joined_parts (codes ", ") (map repr_of (take (i + 1) xs)) (map repr_of (drop (i + 1) xs))
    ∙ ap (λ (l : List ℕ). l ++ items_left (i + 1) xs) (one_item_more i xs x h e)

-- ---- a tuple

pub tuple_put : (most : ℕ) (a : Plain) (xs ys : List Plain) (old new : List ℕ) (r : Result ⊤ PlainEnd) → a ≡ plain.Tuple xs → ys ≡ xs → Puts most (tuple_repr (map repr_of ys)) old new r → Puts most (repr_of a) old new r
tuple_put most a xs ys old new r is same h =
    let text : tuple_repr (map repr_of ys) ≡ repr_of a = ap (λ (l : List Plain). tuple_repr (map repr_of l)) same ∙ sym (repr_tuple xs) ∙ ap repr_of (sym is) in
    subst (λ (t : List ℕ). Puts most t old new r) text h
