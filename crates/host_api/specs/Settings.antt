-- The module `settings`: its state is the tuple of its settings, each a pair of a text and a value, in the order in which
-- the texts were first set.
use Rattle.std.specs.Prelude.{ℕ, nat_lt, Bool, true, false, ◌||◌, List, [], ◌∷◌, length, map, Option, Some, None, codes, if◌then◌else◌}
use Rattle.std.specs.Str.{bytes_eq}
use Rattle.rp_base.specs.declared.plain.Plain.{Plain}
use Rattle.rp_base.specs.declared.plain.Plain.TheVariants as plain
use Rattle.rp_base.specs.declared.exceptions.ExcKind.TheVariants as kind
use Rattle.host_api.specs.Answers.{raised, wrong_arguments, full, most_entries, items_of}
use Rattle.host_api.specs.Modules.{Rule, Module}
use Rattle.host_api.specs.declared.host.HostAnswer.{HostAnswer}
use Rattle.host_api.specs.declared.host.HostAnswer.TheVariants as answer

-- a text and its value
abbrev pub Setting : Type 0
Setting = List ℕ × Plain

-- as the state has them
abbrev pub pair : Setting → Plain
pair setting = plain.Tuple (plain.Text (setting.0) ∷ setting.1 ∷ [])

abbrev pub state_of : List Setting → Plain
state_of settings = plain.Tuple (map pair settings)

abbrev pub with_pair : List Plain → List Setting → List Setting
with_pair (plain.Text key ∷ value ∷ []) settings = (key, value) ∷ settings
with_pair items settings = settings

unfoldable pub settings_in : List Plain → List Setting
settings_in [] = []
settings_in (item ∷ items) = with_pair (items_of item) (settings_in items)

-- the settings that a state has
abbrev pub settings_of : Plain → List Setting
settings_of state = settings_in (items_of state)

-- the value of a text
unfoldable pub value_of : List ℕ → List Setting → Option Plain
value_of key [] = None
value_of key ((k, value) ∷ settings) = if bytes_eq k key then Some value else value_of key settings

-- the settings in which a text has this value: in its place, or as the last where it had none
unfoldable pub with_value : List ℕ → Plain → List Setting → List Setting
with_value key value [] = (key, value) ∷ []
with_value key value ((k, v) ∷ settings) =
    if bytes_eq k key then (key, value) ∷ settings else (k, v) ∷ with_value key value settings

abbrev pub is_set : Option Plain → Bool
is_set (Some value) = true
is_set None = false

-- whether there is room: for a text that is set always
abbrev pub has_room : List ℕ → List Setting → Bool
has_room key settings = is_set (value_of key settings) || nat_lt (length settings) most_entries

abbrev pub set_value : Plain → List Plain → HostAnswer × Plain
set_value state (plain.Text key ∷ value ∷ []) =
    if has_room key (settings_of state)
    then (answer.Value plain.None, state_of (with_value key value (settings_of state)))
    else (full, state)
set_value state args = (wrong_arguments, state)

abbrev pub given_value : List ℕ → Option Plain → HostAnswer
given_value key (Some value) = answer.Value value
given_value key None = raised kind.KeyError (plain.Text key)

abbrev pub get_value : Plain → List Plain → HostAnswer
get_value state (plain.Text key ∷ []) = given_value key (value_of key (settings_of state))
get_value state args = wrong_arguments

abbrev pub settings_rule : Rule
settings_rule state func args =
    if bytes_eq func (codes "set") then set_value state args
    else (if bytes_eq func (codes "get") then (get_value state args, state)
    else (wrong_arguments, state))

abbrev pub settings_has : List ℕ → Bool
settings_has func = bytes_eq func (codes "set") || bytes_eq func (codes "get")

abbrev pub settings_module : Module
settings_module = record { name = codes "settings"; has = settings_has; rule = settings_rule; state = plain.Tuple [] }
