-- Reading items one after the other, as a loop does.
use Rattle.std.proofs.Common.{◌≡◌, ℕ, suc, ◌-◌, ◌+◌, ◌≤◌, ◌<◌, zero, List, [], ◌∷◌, ◌++◌, Ok, Err, refl, sym, ap, ◌∙◌, append_assoc, arith}
use Rattle.std.proofs.lemmas.List.{append-nil}
use Rattle.rp_base.specs.declared.plain.Plain.{Plain}
use Rattle.brine_codec.specs.declared.ends.Stop.{Stop}
use Rattle.brine_codec.specs.declared.ends.Stop.TheVariants as stop
use Rattle.rp_base.specs.declared.plain.Plain.TheVariants as plain
use Rattle.brine_codec.specs.declared.tag.Size.{Size}
use Rattle.brine_codec.specs.declared.ends.BrineKind.TheVariants as kinds
use Rattle.brine_codec.specs.Reading.{◌>>=◌, Read, Fails, size_at, items_at, tuple_within, value_at}

-- what was read before, and what is still read
abbrev pub with_front : List Plain → Read (List Plain) → Read (List Plain)
with_front front read = read >>= λ x. Ok (front ++ x.0, x.1)

regroup : (front : List Plain) (v : Plain) (read : Read (List Plain)) → with_front front (read >>= λ x. Ok (v ∷ x.0, x.1)) ≡ with_front (front ++ v ∷ []) read
regroup front v (Ok x) = ap (λ (vs : List Plain). Ok (vs, x.1)) (simp append_assoc)
regroup front v (Err e) = refl

pub goes_on : (item : List ℕ → Read Plain) (front : List Plain) (count i : ℕ) (bytes : List ℕ) (v : Plain) (after : List ℕ) (total : Read (List Plain)) → i < count → item bytes ≡ Ok (v, after)
    → with_front front (items_at item (count - i) bytes) ≡ total → with_front (front ++ v ∷ []) (items_at item (count - (i + 1)) after) ≡ total
unfolding items_at
goes_on item front count i bytes v after total lt h so_far =
    let k : count - i ≡ suc (count - (i + 1)) = omega arith in
    let one : with_front front (items_at item (count - i) bytes) ≡ with_front (front ++ v ∷ []) (items_at item (count - (i + 1)) after) = rw (k, h) (regroup front v (items_at item (count - (i + 1)) after)) in
    sym one ∙ so_far

pub ends_so : (item : List ℕ → Read Plain) (e : Stop) (front : List Plain) (count i : ℕ) (bytes : List ℕ) (total : Read (List Plain)) → i < count → Fails e (item bytes)
    → with_front front (items_at item (count - i) bytes) ≡ total → Fails e total
unfolding items_at
ends_so item stop.NoMemory front count i bytes total lt h so_far = tt
ends_so item (stop.Fault left what) front count i bytes total lt h so_far =
    let k : count - i ≡ suc (count - (i + 1)) = omega arith in
    let one : with_front front (items_at item (count - i) bytes) ≡ Err (left, what) = rw (k, h) refl in
    sym so_far ∙ one

pub is_done : (item : List ℕ → Read Plain) (front : List Plain) (count i : ℕ) (bytes : List ℕ) (total : Read (List Plain)) → count ≤ i → with_front front (items_at item (count - i) bytes) ≡ total → total ≡ Ok (front, bytes)
unfolding items_at
is_done item front count i bytes total le so_far =
    let k : count - i ≡ 0 = omega arith in
    let one : with_front front (items_at item (count - i) bytes) ≡ Ok (front, bytes) = rw k (ap (λ (vs : List Plain). Ok (vs, bytes)) (append-nil front)) in
    sym so_far ∙ one

-- ---- one reading after another

pub stops : {A B : Type 0} (e : Stop) (r : Read A) (f : A × List ℕ → Read B) → Fails e r → Fails e (r >>= f)
stops stop.NoMemory r f h = tt
stops (stop.Fault left what) r f h = ap (λ x. x >>= f) h

pub stops_later : {A B : Type 0} (e : Stop) (r : Read A) (x : A × List ℕ) (f : A × List ℕ → Read B) → r ≡ Ok x → Fails e (f x) → Fails e (r >>= f)
stops_later stop.NoMemory r x f is h = tt
stops_later (stop.Fault left what) r x f is h = ap (λ y. y >>= f) is ∙ h

abbrev pub tuple_of : (levels : ℕ) → Size → ℕ → List ℕ → Read Plain
tuple_of levels size left bytes = size_at 5 size left bytes >>= λ count. items_at (value_at levels) count.0 count.1 >>= λ items. Ok (plain.Tuple items.0, items.1)

pub inside : (levels : ℕ) (size : Size) (left : ℕ) (bytes : List ℕ) → 0 < levels → tuple_within levels size left bytes ≡ tuple_of (levels - 1) size left bytes
unfolding tuple_within
inside zero size left bytes h = absurd (omega arith)
inside (suc n) size left bytes h = let same : suc n - 1 ≡ n = omega arith in rw same refl

pub no_levels : (levels : ℕ) (size : Size) (left : ℕ) (bytes : List ℕ) → levels ≡ 0 → tuple_within levels size left bytes ≡ Err (left, kinds.B8)
unfolding tuple_within
no_levels zero size left bytes h = refl
no_levels (suc n) size left bytes h = absurd (omega arith)

pub tuple_stops : (levels : ℕ) (size : Size) (left : ℕ) (bytes : List ℕ) (e : Stop) → 0 < levels → Fails e (size_at 5 size left bytes) → Fails e (tuple_within levels size left bytes)
tuple_stops levels size left bytes e some h = rw (inside levels size left bytes some) (stops e (size_at 5 size left bytes) (λ count. items_at (value_at (levels - 1)) count.0 count.1 >>= λ items. Ok (plain.Tuple items.0, items.1)) h)

pub tuple_stops_within : (levels : ℕ) (size : Size) (left : ℕ) (bytes : List ℕ) (count : ℕ) (rest : List ℕ) (e : Stop) → 0 < levels → size_at 5 size left bytes ≡ Ok (count, rest)
    → Fails e (items_at (value_at (levels - 1)) count rest) → Fails e (tuple_within levels size left bytes)
tuple_stops_within levels size left bytes count rest e some is h =
    rw (inside levels size left bytes some)
    (stops_later e (size_at 5 size left bytes) (count, rest) (λ count. items_at (value_at (levels - 1)) count.0 count.1 >>= λ items. Ok (plain.Tuple items.0, items.1)) is
    (stops e (items_at (value_at (levels - 1)) count rest) (λ items. Ok (plain.Tuple items.0, items.1)) h))

pub tuple_is : (levels : ℕ) (size : Size) (left : ℕ) (bytes : List ℕ) (count : ℕ) (rest : List ℕ) (vs : List Plain) (end : List ℕ) → 0 < levels → size_at 5 size left bytes ≡ Ok (count, rest)
    → items_at (value_at (levels - 1)) count rest ≡ Ok (vs, end) → tuple_within levels size left bytes ≡ Ok (plain.Tuple vs, end)
tuple_is levels size left bytes count rest vs end some is all = rw (inside levels size left bytes some, is, all) refl
