-- The one interpreter over the shared heap, and one script alone.
use Rattle.std.specs.Prelude.{◌≡◌, ℕ, suc, Bool, List, [], ◌∷◌, ◌++◌, length, reverse, Contains, zero, ◌<◌, ◌≤◌, if◌then◌else◌}
use Rattle.std.specs.List.{list_any}
use Rattle.rp_base.specs.declared.exceptions.Beyond.{Beyond}
use Rattle.rp_base.specs.declared.exceptions.Raised.{Raised}
use Rattle.rp_base.specs.declared.identity.IdPack.{IdPack}
use Rattle.py_ast.specs.declared.program.Program.{Program}
use Rattle.py_store.specs.declared.cell.Cell.{Cell}
use Rattle.py_store.specs.Identities.{identity_of}
use Rattle.host_api.specs.Modules.{Module}
use Rattle.side_trees.specs.Sides.{Message, Sends, Shows, Event, Half, idling, half, shown}
use Rattle.side_trees.specs.SharedRun.{Side, A, B, other, Two, Text, Entry, Puts, Begins, Course, Rests, Leaves, Dry, wrote, one, log_of}
use Rattle.language_rules.specs.Codes.{Completion, Raises}
use Rattle.language_rules.specs.Comparing.{same_identity}
use Rattle.language_rules.specs.Going.{done}
use Rattle.language_rules.specs.Conversation.{script_language, one_heap}
use Rattle.language_rules.specs.References.{in_turn, identities_in}
use Rattle.language_rules.specs.SharedCells.{added, SharedHeap, cells_of}
use Rattle.language_rules.specs.Starting.{Reader, first_cells, first_state, text_of, connected_text_of}

-- ---- the start

-- side A has no modules, and the modules are side B's
abbrev pub first_heap : Reader → List Module → SharedHeap
first_heap reader modules = record {
  cells = added A (first_cells []) ++ added B (first_cells modules);
  sides = record { of_a = first_state reader []; of_b = first_state reader modules };
}

abbrev pub both_done : Two Completion
both_done = record { of_a = done; of_b = done }

abbrev pub ScriptCourse : Type 0
ScriptCourse = Course script_language one_heap

abbrev pub ScriptLog : Type 0
ScriptLog = List (Entry script_language)

-- B's script, and then A's, which begins by connecting. The newest text stands first.
abbrev pub pair_texts : Program → Program → List (Text script_language)
pair_texts b a = record { side = A; tree = connected_text_of a } ∷ record { side = B; tree = text_of b } ∷ []

-- the one interpreter, for the two scripts, the modules, and so many units
abbrev pub one_course : Reader → Program → Program → List Module → ℕ → ScriptCourse
one_course reader b a modules fuel = one script_language one_heap both_done (first_heap reader modules) fuel (pair_texts b a)

-- one script alone, at home A
abbrev pub solo_course : Reader → Program → ℕ → ScriptCourse
solo_course reader t fuel = one script_language one_heap both_done (first_heap reader []) fuel (record { side = A; tree = text_of t } ∷ [])

-- ---- its end

-- how a run ends, with its side where a script raised
pub data RunEnd : Type 0 where
  EndsDone EndsOutOfFuel : RunEnd
  EndsRaised : Side → Raised → RunEnd
  EndsBeyond : Beyond → RunEnd

-- a script's end; what a text gives is not kept
abbrev pub end_of_script : Side → Completion → RunEnd → RunEnd
end_of_script h (Raises r) e = EndsRaised h r
end_of_script h a e = e

-- where B's script raised, A's did not begin
abbrev pub run_end : ScriptCourse → RunEnd
run_end (Rests outs w u log) = end_of_script B outs.of_b (end_of_script A outs.of_a EndsDone)
run_end (Leaves k w u log) = EndsBeyond k
run_end (Dry w log) = EndsOutOfFuel

abbrev pub heap_of : ScriptCourse → SharedHeap
heap_of (Rests outs w u log) = w
heap_of (Leaves k w u log) = w
heap_of (Dry w log) = w

abbrev pub units_left : ScriptCourse → ℕ
units_left (Rests outs w u log) = u
units_left (Leaves k w u log) = u
units_left (Dry w log) = 0

abbrev pub log_of_course : ScriptCourse → ScriptLog
log_of_course c = log_of script_language one_heap c

-- what a side printed
abbrev pub output : Side → ScriptCourse → List ℕ
output h c = in_turn (reverse (shown script_language (wrote script_language h (log_of_course c))))

-- ---- the conversation

-- a message of a side, or the closing message
pub data Said : Type 0 where
  Says : Side → Message script_language → Said
  Closes : Side → Said

abbrev pub messages_of : ScriptLog → List Said
messages_of [] = []
messages_of (Puts h (Sends m) ∷ es) = Says h m ∷ messages_of es
messages_of (Puts h (Shows o) ∷ es) = messages_of es
messages_of (Begins h t ∷ es) = messages_of es

-- after a course that comes to rest, unless B's script raised, A closes
abbrev pub closing : RunEnd → List Said
closing EndsDone = Closes A ∷ []
closing (EndsRaised A r) = Closes A ∷ []
closing _ = []

-- the messages in the order in which they were sent
abbrev pub talk : ScriptCourse → List Said
talk c = reverse (messages_of (log_of_course c)) ++ closing (run_end c)

-- ---- the heap and its two sides

-- one side of the heap: its cells, each value as that side sees it
abbrev pub split : Side → SharedHeap → List Cell
split h w = cells_of h w.cells

-- the numbers from 1 to n that pass a test
abbrev pub numbers_that : (ℕ → Bool) → ℕ → List ℕ
numbers_that test zero = []
numbers_that test (suc n) = numbers_that test n ++ (if test (suc n) then suc n ∷ [] else [])

-- whether an identity stands in one of these cells
abbrev pub stands_in : IdPack → List Cell → Bool
stands_in id cs = list_any (λ c. list_any (same_identity id) (identities_in c)) cs

-- the cells of a home to which some cell of the other home refers, by their numbers
abbrev pub crossing : Side → SharedHeap → List ℕ
crossing h w = numbers_that (λ n. stands_in (identity_of (split h w) n) (split (other h) w)) (length (split h w))

-- Every identity in the heap is that of a cell of the other home.
abbrev pub IdentitiesNameCells : SharedHeap → Type 0
IdentitiesNameCells w = (h : Side) (c : Cell) (id : IdPack) → Contains (split h w) c → Contains (identities_in c) id
    → (n : ℕ) × (0 < n) × (n ≤ length (split (other h) w)) × (id ≡ identity_of (split (other h) w) n)

-- The law of one heap, whatever the scripts, the modules and the units.
abbrev pub OneIsClosed : Type 0
OneIsClosed = (reader : Reader) (b a : Program) (modules : List Module) (fuel : ℕ) → IdentitiesNameCells (heap_of (one_course reader b a modules fuel))

-- ---- one side by itself

-- a side over what it read and began, newest first
abbrev pub side_of : Reader → List Module → ℕ → List (Event script_language) → Half script_language
side_of reader modules fuel events = half script_language (idling script_language done (first_state reader modules) fuel) events
