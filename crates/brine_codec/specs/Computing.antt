-- The name that opens spelling and reading too: a worked example is `refl` under `unfolding brine_computing`.
use Rattle.std.specs.Prelude.{ℕ}
use Rattle.std.specs.Str.{is_utf8, chars}
use lib.Utf8.{encode}
use Rattle.rp_base.specs.Computing.{computing}
use Rattle.brine_codec.specs.Spelling.{spelling, spellable}
use Rattle.brine_codec.specs.Reading.{size_at, bytes_at, int_of_text, int_at, text_at, items_at, value_in, tuple_within}

unfoldable pub brine_computing : ℕ
unfolding computing spelling spellable is_utf8 chars encode size_at bytes_at int_of_text int_at text_at items_at value_in tuple_within
brine_computing = 0
