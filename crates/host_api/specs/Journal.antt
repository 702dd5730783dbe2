-- The module `journal`: its state is the tuple of its entries, which are texts.
use Rattle.std.specs.Prelude.{ℕ, ◌+◌, nat_lt, ℤ, pos, negsuc, Bool, ◌||◌, List, [], ◌∷◌, ◌++◌, length, slice_get, Option, Some, None, codes, if◌then◌else◌}
use Rattle.std.specs.Str.{bytes_eq}
use Rattle.rp_base.specs.declared.plain.Plain.{Plain}
use Rattle.rp_base.specs.declared.plain.Plain.TheVariants as plain
use Rattle.rp_base.specs.declared.exceptions.ExcKind.TheVariants as kind
use Rattle.host_api.specs.Answers.{raised, wrong_arguments, full, most_entries, items_of}
use Rattle.host_api.specs.Modules.{Rule, Module}
use Rattle.host_api.specs.declared.host.HostAnswer.{HostAnswer}
use Rattle.host_api.specs.declared.host.HostAnswer.TheVariants as answer

-- the number of entries behind it
abbrev pub add_entry : Plain → List Plain → HostAnswer × Plain
add_entry state (plain.Text entry ∷ []) =
    if nat_lt (length (items_of state)) most_entries
    then (answer.Value (plain.Int (pos (length (items_of state) + 1))), plain.Tuple (items_of state ++ (plain.Text entry ∷ [])))
    else (full, state)
add_entry state args = (wrong_arguments, state)

abbrev pub given_entry : Option Plain → HostAnswer
given_entry (Some entry) = answer.Value entry
given_entry None = raised kind.IndexError (plain.Text (codes "no entry"))

-- the entry of this number, from 0; no entry has a negative number
abbrev pub entry_at : List Plain → ℤ → Option Plain
entry_at entries (pos i) = slice_get entries i
entry_at entries (negsuc i) = None

abbrev pub get_entry : Plain → List Plain → HostAnswer
get_entry state (plain.Int i ∷ []) = given_entry (entry_at (items_of state) i)
get_entry state args = wrong_arguments

abbrev pub count_entries : Plain → List Plain → HostAnswer
count_entries state [] = answer.Value (plain.Int (pos (length (items_of state))))
count_entries state args = wrong_arguments

abbrev pub journal_rule : Rule
journal_rule state func args =
    if bytes_eq func (codes "add") then add_entry state args
    else (if bytes_eq func (codes "get") then (get_entry state args, state)
    else (if bytes_eq func (codes "size") then (count_entries state args, state)
    else (wrong_arguments, state)))

abbrev pub journal_has : List ℕ → Bool
journal_has func = bytes_eq func (codes "add") || (bytes_eq func (codes "get") || bytes_eq func (codes "size"))

abbrev pub journal_module : Module
journal_module = record { name = codes "journal"; has = journal_has; rule = journal_rule; state = plain.Tuple [] }
