-- Values and arguments that are within the limits.
use Rattle.std.proofs.Common.{◌≡◌, ◌<◌, ◌≤◌, ◌+◌, ℕ, max, fold, map, List, [], ◌∷◌, ℤ, length, slice_index_or, arith, refl, ◌∙◌}
use Rattle.std.proofs.lemmas.List.Recursion.{max_bounds}
use Rattle.std.proofs.lemmas.List.Sums.{get_or-le-sum_by, sum-map}
use Rattle.rp_base.specs.Computing.{computing}
use Rattle.rp_base.specs.PlainLaws.{weight_tuple, depth_tuple}
use Rattle.rp_base.specs.PlainValues.{plain_weight, plain_depth}
use Rattle.rp_base.specs.Values.{heaviest_value}
use Rattle.rp_base.specs.declared.plain.Plain.{Plain}
use Rattle.rp_base.specs.declared.plain.Plain.TheVariants as plain
use Rattle.host_api.specs.Modules.{IsWithinLimits, AreArguments}

pub int_within : (n : ℤ) → IsWithinLimits (plain.Int n)
unfolding computing
int_within n = (omega arith, omega arith)

pub empty_within : IsWithinLimits (plain.Tuple [])
unfolding computing
empty_within = (omega arith, omega arith)

pub text_within : (t : List ℕ) → length t + 1 ≤ heaviest_value → IsWithinLimits (plain.Text t)
unfolding computing
text_within t h = (omega arith, omega arith)

-- of an exception with a text
pub one_text_within : (t : List ℕ) → length t + 2 ≤ heaviest_value → IsWithinLimits (plain.Tuple (plain.Text t ∷ []))
unfolding computing
one_text_within t h = (omega arith, omega arith)

pub no_arguments : AreArguments []
unfolding computing
no_arguments = ((λ k d b. omega arith), omega arith)

from_start : (a : ℕ) (ds : List ℕ) → fold max a ds ≡ max a (fold max 0 ds)
from_start a [] = omega arith
from_start a (d ∷ ds) =
    let p : fold max (max a d) ds ≡ max (max a d) (fold max 0 ds) = from_start (max a d) ds in
    let q : fold max (max 0 d) ds ≡ max (max 0 d) (fold max 0 ds) = from_start (max 0 d) ds in
    omega (arith, p, q)

abbrev deepest : List Plain → ℕ
deepest args = fold max 0 (map plain_depth args)

one_more : (p : Plain) (args : List Plain) → deepest (p ∷ args) ≡ max (plain_depth p) (deepest args)
one_more p args = from_start (max 0 (plain_depth p)) (map plain_depth args) ∙ omega arith

-- the items of a tuple within the limits
pub items_within : (args : List Plain) → IsWithinLimits (plain.Tuple args) → AreArguments args
items_within args h = (each, h.0)
  where
    each : (k : ℕ) (d : Plain) → k < length args → IsWithinLimits (slice_index_or args k d)
    each k d b =
        let w = weight_tuple args in
        let t = depth_tuple args in
        let p = get_or-le-sum_by plain_weight args k d b in
        let s = sum-map plain_weight args in
        let q = max_bounds deepest plain_depth refl one_more args k d b in
        let x = h.0 in
        let y = h.1 in
        (omega arith, omega arith)
