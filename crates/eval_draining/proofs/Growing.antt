-- A list that gets more items behind its own, in every run.
use Rattle.std.proofs.Common.{◌≡◌, ◌∙◌, ◌+◌, ℕ, Bool, true, false, not, nat_lt, ap, sym, refl, List, ◌++◌, length, reverse, Option, Some, None, Ok, if◌then◌else◌}
use Rattle.rp_base.specs.declared.exceptions.Beyond.TheVariants as beyond
use Rattle.rp_base.specs.declared.value.Value.{Value}
use Rattle.rp_base.specs.declared.value.Value.TheVariants as value
use Rattle.py_ast.specs.declared.program.Program.{Program}
use Rattle.py_store.specs.declared.cell.Cell.{Cell}
use Rattle.py_store.specs.declared.cell.Cell.TheVariants as cell
use Rattle.py_store.specs.Cells.{Cells, cell_of, with_cell}
use Rattle.py_lists.specs.Lists.{IsListCell}
use Rattle.side_trees.specs.Trees.{Return, Stop}
use Rattle.language_rules.proofs.RunLemmas.{goes_on}
use Rattle.language_rules.proofs.CellLaws.{carried}
use Rattle.language_rules.specs.Answers.{gives}
use Rattle.language_rules.specs.AtOnce.{at_once, stated}
use Rattle.language_rules.specs.Codes.{Gives}
use Rattle.language_rules.specs.Draining.{most_items}
use Rattle.language_rules.specs.Entries.{within_items}
use Rattle.language_rules.specs.Going.{done, sets_cell}
use Rattle.language_rules.specs.Rules.{expand}
use Rattle.language_rules.specs.Running.{prints_behind, runs}
use Rattle.language_rules.specs.Searching.{on_list}
use Rattle.language_rules.specs.States.{State, set_cell}
use Rattle.eval_frames.specs.declared.frame.Frame.{Frame}
use Rattle.eval_frames.specs.declared.loop_frames.Draining.TheVariants as draining
use Rattle.eval_frames.specs.declared.next.Next.TheVariants as next
use Rattle.eval_frames.specs.LoopFrames.{drained}
use Rattle.eval_frames.specs.Meaning.{MeansOver, rest}
use Rattle.eval_draining.specs.Extended.{answer_of, room_of}

-- ---- room

-- where there is room, there is a list
pub has_list : (more : ℕ) (c : Option Cell) → room_of more c ≡ Some true → IsListCell c
has_list more None h = cc
has_list more (Some (cell.List items)) h = tt
has_list more (Some (cell.Dict entries shape)) h = cc
has_list more (Some (cell.Scope names parent)) h = cc
has_list more (Some (cell.Namespace names reserved)) h = cc
has_list more (Some (cell.Function text function scope)) h = cc
has_list more (Some (cell.Class name base attributes)) h = cc
has_list more (Some (cell.Instance class_no attributes)) h = cc
has_list more (Some (cell.Bound receiver method)) h = cc
has_list more (Some (cell.Iter source at shape)) h = cc
has_list more (Some (cell.View dict which)) h = cc
has_list more (Some (cell.Range start stop step)) h = cc
has_list more (Some (cell.Host host)) h = cc
has_list more (Some (cell.HostFunc host name)) h = cc
has_list more (Some (cell.Conn root names modules)) h = cc
has_list more (Some (cell.Modules root)) h = cc
has_list more (Some cell.Root) h = cc

pub there_is_room : (cells : List Cell) (n more : ℕ) (items : List Value) → cell_of cells n ≡ Some (cell.List items) → room_of more (cell_of cells n) ≡ Some true → nat_lt most_items (length items + more) ≡ false
there_is_room cells n more items h room = opposite (nat_lt most_items (length items + more)) (sym (ap (λ (c : Option Cell). room_of more c) h) ∙ room)
  where
    opposite : (b : Bool) → Some (not b) ≡ Some true → b ≡ false
    opposite true e = cc
    opposite false e = refl

-- ---- more items

grown : (n : ℕ) (items more after : List Value) (is_answer b : Bool) (s : State) → nat_lt most_items (length items + length more) ≡ b → b ≡ false → after ≡ items ++ more
    → at_once (on_list (λ vs. within_items (length vs + length more) (sets_cell n (cell.List (vs ++ more)) (if is_answer then gives (value.Own n) else Return done))) (cell.List items)) s ≡ Some (Ok (Gives (answer_of n is_answer)), set_cell n (cell.List after) s)
grown n items more after is_answer b s e f g =
    ap (λ (x : Bool). at_once (if x then Stop beyond.Size else sets_cell n (cell.List (items ++ more)) (if is_answer then gives (value.Own n) else Return done)) s) (e ∙ f)
    ∙ ended is_answer
    ∙ ap (λ (vs : List Value). Some (Ok (Gives (answer_of n is_answer)), set_cell n (cell.List vs) s)) (sym g)
  where
    ended : (x : Bool) → at_once (sets_cell n (cell.List (items ++ more)) (if x then gives (value.Own n) else Return done)) s ≡ Some (Ok (Gives (answer_of n x)), set_cell n (cell.List (items ++ more)) s)
    ended true = refl
    ended false = refl

-- the list is taken out, grows, and is put back
pub extended : (n : ℕ) (items more after : List Value) (is_answer : Bool) (v : Value) (old taken now : Cells) (fixed : State) (texts : List Program) (stack : List Frame)
    → cell_of old.cells n ≡ Some (cell.List items) → room_of (length more) (cell_of old.cells n) ≡ Some true → taken ≡ record old { cells = with_cell old.cells n cell.Root } → now ≡ record taken { cells = with_cell taken.cells n (cell.List after) } → after ≡ items ++ more → v ≡ answer_of n is_answer
    → MeansOver (stated fixed old.cells texts) (stated fixed now.cells texts) stack (next.Give (Gives v)) (drained (draining.Extend n is_answer) more) stack
extended n items more after is_answer v old taken now fixed texts stack h room p q g e units printed =
    goes_on expand prints_behind units (drained (draining.Extend n is_answer) more) (rest (reverse stack)) (stated fixed old.cells texts) (stated fixed now.cells texts) printed (Gives (answer_of n is_answer))
    (carried (on_list (λ vs. within_items (length vs + length more) (sets_cell n (cell.List (vs ++ more)) (if is_answer then gives (value.Own n) else Return done)))) n old taken now (cell.List items) cell.Root (cell.List after) (Ok (answer_of n is_answer)) h p q
    (λ s e. grown n items more after is_answer (nat_lt most_items (length items + length more)) s refl (there_is_room old.cells n (length more) items h room) g)
    (stated fixed old.cells texts))
    ∙ ap (λ (w : Value). runs units (rest (reverse stack) (Gives w)) (stated fixed now.cells texts) printed) (sym e)
