-- The module `counter`: its state is the number of calls of `next` so far.
use Rattle.std.specs.Prelude.{ℕ, ◌+◌, ◌-◌, ◌^◌, nat_lt, pos, Bool, ◌||◌, List, [], codes, if◌then◌else◌}
use Rattle.std.specs.Str.{bytes_eq}
use Rattle.rp_base.specs.declared.plain.Plain.{Plain}
use Rattle.rp_base.specs.declared.plain.Plain.TheVariants as plain
use Rattle.host_api.specs.Answers.{wrong_arguments, full}
use Rattle.host_api.specs.Modules.{Rule, Module}
use Rattle.host_api.specs.declared.host.HostAnswer.{HostAnswer}
use Rattle.host_api.specs.declared.host.HostAnswer.TheVariants as answer

abbrev pub count_of : Plain → ℕ
count_of (plain.Int (pos n)) = n
count_of _ = 0

-- the greatest number that it gives
abbrev pub last_count : ℕ
last_count = 2 ^ 63 - 1

-- one more than the last number, from 1
abbrev pub next_count : Plain → HostAnswer × Plain
next_count state =
    let next : Plain = plain.Int (pos (count_of state + 1)) in
    if nat_lt (count_of state) last_count then (answer.Value next, next) else (full, state)

abbrev pub counter_rule : Rule
counter_rule state func [] =
    if bytes_eq func (codes "next") then next_count state
    else (if bytes_eq func (codes "value") then (answer.Value (plain.Int (pos (count_of state))), state)
    else (wrong_arguments, state))
counter_rule state func args = (wrong_arguments, state)

abbrev pub counter_has : List ℕ → Bool
counter_has func = bytes_eq func (codes "next") || bytes_eq func (codes "value")

abbrev pub counter_module : Module
counter_module = record { name = codes "counter"; has = counter_has; rule = counter_rule; state = plain.Int (pos 0) }
