-- The name that opens the recursions over values that the definitions here use: a worked example is `refl` under `unfolding store_computing`.
use Rattle.std.specs.Prelude.{ℕ}
use Rattle.rp_base.specs.Computing.{computing}

unfoldable pub store_computing : ℕ
unfolding computing
store_computing = 0
