-- Lists that are extended at their front.
use Rattle.std.proofs.Common.{◌≡◌, List, [], ◌∷◌, ◌++◌, refl, sym, ap, ◌∙◌}
use Rattle.side_trees.specs.Sides.{Lang, Item, Sends, Shows, sent, shown}
use Rattle.side_trees.specs.Growing.{Extends}

pub append-append : {M : Type 0} (xs ys zs : List M) → (xs ++ ys) ++ zs ≡ xs ++ (ys ++ zs)
append-append [] ys zs = refl
append-append (x ∷ xs) ys zs = ap (λ l. x ∷ l) (append-append xs ys zs)

pub extends-same : {M : Type 0} (xs : List M) → Extends xs xs
extends-same xs = ([], refl)

pub extends-one : {M : Type 0} (x : M) (xs : List M) → Extends (x ∷ xs) xs
extends-one x xs = (x ∷ [], refl)

pub extends-trans : {M : Type 0} (xs ys zs : List M) → Extends xs ys → Extends ys zs → Extends xs zs
extends-trans xs ys zs (m, e) (n, f) = (m ++ n, e ∙ ap (λ l. m ++ l) f ∙ sym (append-append m n zs))

shown-append : (L : Lang) (xs ys : List (Item L)) → shown L (xs ++ ys) ≡ shown L xs ++ shown L ys
shown-append L [] ys = refl
shown-append L (Sends m ∷ xs) ys = shown-append L xs ys
shown-append L (Shows o ∷ xs) ys = ap (λ l. o ∷ l) (shown-append L xs ys)

sent-append : (L : Lang) (xs ys : List (Item L)) → sent L (xs ++ ys) ≡ sent L xs ++ sent L ys
sent-append L [] ys = refl
sent-append L (Sends m ∷ xs) ys = ap (λ l. m ∷ l) (sent-append L xs ys)
sent-append L (Shows o ∷ xs) ys = sent-append L xs ys

-- where a record grows, so do what it prints and what it sends
pub shown-extends : (L : Lang) (xs ys : List (Item L)) → Extends xs ys → Extends (shown L xs) (shown L ys)
shown-extends L xs ys (m, e) = (shown L m, ap (shown L) e ∙ shown-append L m ys)

pub sent-extends : (L : Lang) (xs ys : List (Item L)) → Extends xs ys → Extends (sent L xs) (sent L ys)
sent-extends L xs ys (m, e) = (sent L m, ap (sent L) e ∙ sent-append L m ys)
