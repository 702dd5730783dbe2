-- Ranges: how many items one has, and which (Python Library Reference, "Ranges").
use Rattle.std.specs.Prelude.{ℕ, suc, ◌/◌, Bool, ◌&&◌, nat_lt, ℤ, pos, negsuc, ◌+ℤ◌, ◌-ℤ◌, ◌*ℤ◌}
use Rattle.std.specs.Int.{div_ceil}
use Rattle.std.specs.Ordering.{int_eq}
use Rattle.py_plain.specs.Arithmetic.{count_of}

-- how far an int is above another, and 0 where it is not
abbrev pub above : ℤ → ℤ → ℕ
above high low = count_of (high -ℤ low)

-- The number of items: the steps from the start that stay before the stop. A step is not 0.
abbrev pub range_length : ℤ → ℤ → ℤ → ℕ
range_length start stop (pos w) = div_ceil (above stop start) w
range_length start stop (negsuc w) = div_ceil (above start stop) (suc w)

-- the item at a place
abbrev pub range_item : ℤ → ℤ → ℕ → ℤ
range_item start step i = start +ℤ (pos i *ℤ step)

-- the place that an int would have
abbrev pub range_place : ℤ → ℤ → ℤ → ℕ
range_place start (pos w) x = above x start / w
range_place start (negsuc w) x = above start x / suc w

-- whether an int is an item: that at its place
abbrev pub range_has : ℤ → ℤ → ℤ → ℤ → Bool
range_has start stop step x =
    nat_lt (range_place start step x) (range_length start stop step)
    && int_eq (range_item start step (range_place start step x)) x
