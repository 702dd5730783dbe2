-- Values with references: recursion over them, their weight and depth, the plain value that one is, and the tuple of some items.
use Rattle.std.specs.Prelude.{◌≡◌, ℕ, ◌+◌, max, sum, fold, map, List, [], ◌∷◌, Option, Some, None, Result, Ok, Err, option_map, nat_lt, if◌then◌else◌}
use Rattle.rp_base.specs.PlainValues.{plain_weight, plain_depth}
use Rattle.rp_base.specs.declared.plain.Plain.{Plain}
use Rattle.rp_base.specs.declared.plain.Plain.TheVariants as plain
use Rattle.rp_base.specs.declared.value.Value.{Value}
use Rattle.rp_base.specs.declared.ends.TupleEnd.{TupleEnd}
use Rattle.rp_base.specs.declared.ends.TupleEnd.TheVariants as tuple_end
use Rattle.rp_base.specs.declared.exceptions.Beyond.TheVariants as beyond
use Rattle.rp_base.specs.declared.value.Value.TheOpen.{Value-F}
use Rattle.rp_base.specs.declared.value.Value.TheVariants as value
use Rattle.rp_base.specs.declared.value.Value.TheFolds.{family, steps}
use Rattle.rp_base.specs.declared.value.Value.TheBlock.{view-Value, laid-Value}

-- one level of a value, and recursion over it: the step gets what the recursion gives for each item of a tuple
abbrev pub look_value : Value → Value-F Value
look_value = view-Value

abbrev pub gather_value : (A : Type 0) → (Value-F A → A) → Value → A
gather_value A step = laid-Value (family A) (steps A step)

-- a plain value as it weighs, a tuple 1 plus its items, and a reference 8
abbrev pub value_weight_step : Value-F ℕ → ℕ
value_weight_step (Value-F.Plain p) = plain_weight p
value_weight_step (Value-F.Tuple ws) = 1 + sum ws
value_weight_step _ = 8

unfoldable pub weight_of : Value → ℕ
weight_of = gather_value ℕ value_weight_step

-- a tuple is one deeper than its deepest item, and a reference has no depth
abbrev pub value_depth_step : Value-F ℕ → ℕ
value_depth_step (Value-F.Plain p) = plain_depth p
value_depth_step (Value-F.Tuple ds) = 1 + fold max 0 ds
value_depth_step _ = 0

unfoldable pub depth_of : Value → ℕ
depth_of = gather_value ℕ value_depth_step

-- all of them, where each is there
abbrev pub all_there : List (Option Plain) → Option (List Plain)
all_there [] = Some []
all_there (None ∷ ps) = None
all_there (Some p ∷ ps) = option_map (λ qs. p ∷ qs) (all_there ps)

abbrev pub plain_step : Value-F (Option Plain) → Option Plain
plain_step (Value-F.Plain p) = Some p
plain_step (Value-F.Tuple ps) = option_map plain.Tuple (all_there ps)
plain_step _ = None

-- the plain value that it is, or none where a reference stands in it
unfoldable pub plain_of : Value → Option Plain
plain_of = gather_value (Option Plain) plain_step

-- the plain values that these are, or none where a reference stands in one of them
abbrev pub plains_of : List Value → Option (List Plain)
plains_of items = all_there (map plain_of items)

-- a plain tuple of these plain values where they are there, else the tuple of these items
abbrev pub choose : Option (List Plain) → List Value → Value
choose (Some ps) items = value.Plain (plain.Tuple ps)
choose None items = value.Tuple items

-- what Python's tuple of these items is: a plain value where no reference stands in them
abbrev pub joined : List Value → Value
joined items = choose (plains_of items) items

-- the greatest weight of a value, and the greatest depth of a tuple
abbrev pub heaviest_value : ℕ
heaviest_value = 1048576

abbrev pub deepest_tuple : ℕ
deepest_tuple = 32

-- the tuple of these items, or the limit that it passes: the weight counts first
abbrev pub tuple_of : List Value → Result Value TupleEnd
tuple_of items =
    if nat_lt heaviest_value (1 + sum (map weight_of items)) then Err (tuple_end.Beyond beyond.Size)
    else (if nat_lt deepest_tuple (1 + fold max 0 (map depth_of items)) then Err (tuple_end.Beyond beyond.Depth)
    else Ok (joined items))

-- an answer, but for want of memory
abbrev pub OrNoMemory : Result Value TupleEnd → Result Value TupleEnd → Type 0
OrNoMemory (Ok v) wanted = Ok v ≡ wanted
OrNoMemory (Err (tuple_end.Beyond b)) wanted = Err (tuple_end.Beyond b) ≡ wanted
OrNoMemory (Err tuple_end.NoMemory) wanted = Unit
