-- The name that opens all recursions over values: a worked example is `refl` under `unfolding computing`.
use Rattle.std.specs.Prelude.{ℕ}
use denote.Hole.Carrier
use Rattle.rp_base.specs.declared.plain.Plain.{out-Plain, roll-Plain}
use Rattle.rp_base.specs.declared.plain.Plain.TheBlock as plain_block
use Rattle.rp_base.specs.declared.value.Value.{out-Value, roll-Value}
use Rattle.rp_base.specs.declared.value.Value.TheBlock as value_block
use Rattle.rp_base.specs.PlainValues.{plain_weight, plain_depth, equal_to}
use Rattle.rp_base.specs.Values.{weight_of, depth_of, plain_of}

unfoldable pub computing : ℕ
unfolding plain_weight plain_depth equal_to weight_of depth_of plain_of out-Plain roll-Plain out-Value roll-Value plain_block.shown-the_row-Plain-0 plain_block.shape-the_row-Plain-0 plain_block.hidden-the_row-Plain-0 value_block.shown-the_row-Value-0 value_block.shape-the_row-Value-0 value_block.hidden-the_row-Value-0 Carrier.out Carrier.roll Carrier.shown Carrier.hidden
computing = 0
