-- Worked examples, computed by the checker: calls of the three modules, one after another.
use Rattle.std.proofs.Common.{◌≡◌, ℕ, List, [], ◌∷◌, true, false, pos, negsuc, codes, refl, zero, suc, ◌^◌, ◌-◌}
use Rattle.rp_base.specs.declared.plain.Plain.{Plain}
use Rattle.rp_base.specs.declared.plain.Plain.TheVariants as plain
use Rattle.rp_base.specs.declared.exceptions.ExcKind.TheVariants as kind
use Rattle.host_api.specs.declared.host.HostAnswer.{HostAnswer}
use Rattle.host_api.specs.declared.host.HostAnswer.TheVariants as answer
use Rattle.host_api.specs.Answers.{raised}
use Rattle.host_api.specs.Modules.{Module}
use Rattle.host_api.specs.Counter.{counter_module}
use Rattle.host_api.specs.Journal.{journal_module}
use Rattle.host_api.specs.Settings.{Setting, has_room, settings_module}
use Rattle.host_api.specs.Computing.{host_computing}

-- a call: the function's name and the arguments
abbrev pub Call : Type 0
Call = List ℕ × List Plain

-- the answers to calls one after another
abbrev pub answers_from : Module → Plain → List Call → List HostAnswer
answers_from module_ state [] = []
answers_from module_ state (call ∷ calls) =
    let given : HostAnswer × Plain = module_.rule state (call.0) (call.1) in
    given.0 ∷ answers_from module_ (given.1) calls

abbrev pub answers : Module → List Call → List HostAnswer
answers module_ calls = answers_from module_ module_.state calls

abbrev pub text : List ℕ → Plain
text t = plain.Text t

abbrev pub wrong : HostAnswer
wrong = raised kind.TypeError (text (codes "module arguments"))

-- value 0, next 1, next 2, value 2
pub counts : answers counter_module ((codes "value", []) ∷ (codes "next", []) ∷ (codes "next", []) ∷ (codes "value", []) ∷ [])
    ≡ answer.Value (plain.Int (pos 0)) ∷ answer.Value (plain.Int (pos 1)) ∷ answer.Value (plain.Int (pos 2)) ∷ answer.Value (plain.Int (pos 2)) ∷ []
unfolding host_computing
counts = refl

-- next at 2^63 - 2 gives the greatest number, and then the counter is full
pub counter_is_full : answers_from counter_module (plain.Int (pos (2 ^ 63 - 2))) ((codes "next", []) ∷ (codes "next", []) ∷ (codes "value", []) ∷ [])
    ≡ answer.Value (plain.Int (pos 9223372036854775807)) ∷ raised kind.ValueError (text (codes "full")) ∷ answer.Value (plain.Int (pos 9223372036854775807)) ∷ []
unfolding host_computing
counter_is_full = refl

pub counter_takes_nothing : answers counter_module ((codes "next", plain.None ∷ []) ∷ (codes "value", plain.Int (pos 1) ∷ []) ∷ (codes "last", []) ∷ (codes "value", []) ∷ [])
    ≡ wrong ∷ wrong ∷ wrong ∷ answer.Value (plain.Int (pos 0)) ∷ []
unfolding host_computing
counter_takes_nothing = refl

-- add "a" gives 1, add "b" 2; get(1) is "b", get(0) "a"; size 2
pub entries : answers journal_module ((codes "add", text (codes "a") ∷ []) ∷ (codes "add", text (codes "b") ∷ []) ∷ (codes "get", plain.Int (pos 1) ∷ []) ∷ (codes "get", plain.Int (pos 0) ∷ []) ∷ (codes "size", []) ∷ [])
    ≡ answer.Value (plain.Int (pos 1)) ∷ answer.Value (plain.Int (pos 2)) ∷ answer.Value (text (codes "b")) ∷ answer.Value (text (codes "a")) ∷ answer.Value (plain.Int (pos 2)) ∷ []
unfolding host_computing
entries = refl

-- get(0) of an empty journal, get(-1), get(1) behind one entry
pub no_entry : answers journal_module ((codes "get", plain.Int (pos 0) ∷ []) ∷ (codes "add", text (codes "a") ∷ []) ∷ (codes "get", plain.Int (negsuc 0) ∷ []) ∷ (codes "get", plain.Int (pos 1) ∷ []) ∷ [])
    ≡ raised kind.IndexError (text (codes "no entry")) ∷ answer.Value (plain.Int (pos 1)) ∷ raised kind.IndexError (text (codes "no entry")) ∷ raised kind.IndexError (text (codes "no entry")) ∷ []
unfolding host_computing
no_entry = refl

-- a bool is no int, and neither it nor a byte string is a text
pub journal_arguments : answers journal_module ((codes "get", plain.Bool true ∷ []) ∷ (codes "get", []) ∷ (codes "add", plain.Bool true ∷ []) ∷ (codes "add", plain.Bytes (codes "a") ∷ []) ∷ (codes "add", text (codes "a") ∷ text (codes "b") ∷ []) ∷ (codes "size", plain.Int (pos 1) ∷ []) ∷ (codes "set", []) ∷ (codes "size", []) ∷ [])
    ≡ wrong ∷ wrong ∷ wrong ∷ wrong ∷ wrong ∷ wrong ∷ wrong ∷ answer.Value (plain.Int (pos 0)) ∷ []
unfolding host_computing
journal_arguments = refl

-- set, set again and get; another text is a KeyError of that text
pub settings_are_kept : answers settings_module ((codes "set", text (codes "a") ∷ plain.Int (pos 1) ∷ []) ∷ (codes "set", text (codes "b") ∷ plain.Tuple (plain.None ∷ []) ∷ []) ∷ (codes "set", text (codes "a") ∷ plain.Bool false ∷ []) ∷ (codes "get", text (codes "a") ∷ []) ∷ (codes "get", text (codes "b") ∷ []) ∷ (codes "get", text (codes "c") ∷ []) ∷ [])
    ≡ answer.Value plain.None ∷ answer.Value plain.None ∷ answer.Value plain.None ∷ answer.Value (plain.Bool false) ∷ answer.Value (plain.Tuple (plain.None ∷ [])) ∷ raised kind.KeyError (text (codes "c")) ∷ []
unfolding host_computing
settings_are_kept = refl

pub settings_arguments : answers settings_module ((codes "set", text (codes "a") ∷ []) ∷ (codes "set", plain.Bool true ∷ plain.None ∷ []) ∷ (codes "get", plain.Bytes (codes "a") ∷ []) ∷ (codes "get", []) ∷ (codes "size", []) ∷ [])
    ≡ wrong ∷ wrong ∷ wrong ∷ wrong ∷ wrong ∷ []
unfolding host_computing
settings_arguments = refl

-- so many entries
abbrev entries_of : ℕ → List Plain
entries_of zero = []
entries_of (suc n) = text (n ∷ []) ∷ entries_of n

-- the last entry for which there is room, and one more
pub journal_is_full : answers_from journal_module (plain.Tuple (entries_of 65535)) ((codes "add", text [] ∷ []) ∷ (codes "add", text [] ∷ []) ∷ (codes "size", []) ∷ [])
    ≡ answer.Value (plain.Int (pos 65536)) ∷ raised kind.ValueError (text (codes "full")) ∷ answer.Value (plain.Int (pos 65536)) ∷ []
unfolding host_computing
journal_is_full = refl

-- so many settings
abbrev settings_to : ℕ → List Setting
settings_to zero = []
settings_to (suc n) = (n ∷ [], plain.None) ∷ settings_to n

-- there is room for one text more; then for none, but one that is set may be set again
pub room_for_one : has_room [] (settings_to 65535) ≡ true
unfolding host_computing
room_for_one = refl

pub settings_are_full : has_room [] (settings_to 65536) ≡ false
unfolding host_computing
settings_are_full = refl

pub room_to_set_again : has_room (0 ∷ []) (settings_to 65536) ≡ true
unfolding host_computing
room_to_set_again = refl
