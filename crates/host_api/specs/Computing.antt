-- The name that opens the recursions of this crate too: a worked example is `refl` under `unfolding host_computing`.
use Rattle.std.specs.Prelude.{ℕ}
use Rattle.rp_base.specs.Computing.{computing}
use Rattle.host_api.specs.Settings.{settings_in, value_of, with_value}

unfoldable pub host_computing : ℕ
unfolding computing settings_in value_of with_value
host_computing = 0
