-- Attributes of the cell that a number names.
use Rattle.std.proofs.Common.{◌≡◌, ℕ, Bool, true, false, List, [], reverse, Option, Some, None, Result, Ok, Err, IfOk, refl, sym, ◌∙◌, ap, subst}
use Rattle.rp_base.specs.declared.ends.NoMemory.{NoMemory}
use Rattle.rp_base.specs.declared.exceptions.Beyond.TheVariants as beyond
use Rattle.rp_base.specs.declared.plain.Plain.{Plain}
use Rattle.rp_base.specs.declared.plain.Plain.TheVariants as plain
use Rattle.rp_base.specs.declared.value.Value.{Value}
use Rattle.rp_base.specs.declared.value.Value.TheVariants as value
use Rattle.object_operations.specs.Names.{method_among, text_methods}
use Rattle.object_operations.specs.declared.method.BuiltinMethod.{BuiltinMethod}
use Rattle.py_ast.specs.declared.program.Program.{Program}
use Rattle.py_store.specs.Cells.{cell_of}
use Rattle.py_store.specs.declared.cell.Cell.{Cell}
use Rattle.side_trees.specs.Trees.{Stop, bind}
use Rattle.language_rules.specs.AtOnce.{stated}
use Rattle.language_rules.specs.Attributes.{attribute_of, bound_method, cell_attribute, sets_in_cell}
use Rattle.language_rules.specs.Going.{RuleTree, looks, on_cell, reads_cell}
use Rattle.language_rules.specs.Running.{runs}
use Rattle.language_rules.specs.States.{State}
use Rattle.eval_frames.specs.declared.frame.Frame.{Frame}
use Rattle.eval_frames.specs.declared.next.Next.{Next}
use Rattle.eval_frames.specs.declared.next.Next.TheVariants as next
use Rattle.eval_frames.specs.Meaning.{MeansIn, rest}
use Rattle.eval_instances.specs.Owners.{IsOwner, IsOwnerCell}
use Rattle.eval_objects.specs.Receivers.{OwnsOrNot, OwnsOrNotCell, OwnsThere}
use Rattle.eval_ranges.proofs.CellSteps.{Over}
use Rattle.eval_ranges.proofs.SpecialLemmas.{Plainly, in_state}

-- ---- reading

pub attribute_there : (cells : List Cell) (n : ℕ) (name : List ℕ) (c : Cell) (r : Result Next NoMemory) → cell_of cells n ≡ Some c
    → IfOk r (λ m. (fixed : State) (texts : List Program) (stack : List Frame) → MeansIn (stated fixed cells texts) stack m (cell_attribute (stated fixed cells texts) n name c) stack)
    → IfOk r (λ m. (fixed : State) (texts : List Program) (stack : List Frame) → MeansIn (stated fixed cells texts) stack m (attribute_of (value.Own n) name) stack)
attribute_there cells n name c (Ok m) is h = λ fixed texts stack units printed.
    ap (λ (o : Option Cell). runs units (bind (on_cell (λ d. looks (λ s. cell_attribute s n name d)) o) (rest (reverse stack))) (stated fixed cells texts) printed) is
    ∙ h fixed texts stack units printed
attribute_there cells n name c (Err e) is h = h

-- ---- whether a cell has attributes that can be set

owner_at : (o : Option Cell) (b : Option Bool) → OwnsThere o b → b ≡ Some true → IsOwnerCell o
owner_at (Some c) (Some true) h e = h
owner_at (Some c) (Some false) h e = cc
owner_at (Some c) None h e = absurd h
owner_at None b h e = cc

pub owner_told : (cells : List Cell) (n : ℕ) (b : Option Bool) → OwnsOrNot cells n b → b ≡ Some true → IsOwner cells n
owner_told cells n b h e = owner_at (cell_of cells n) b h e

stops_at : (cells : List Cell) (n : ℕ) (rule : Cell → RuleTree) (o : Option Cell) (b : Option Bool) → cell_of cells n ≡ o → OwnsThere o b → b ≡ Some false → ((c : Cell) → OwnsOrNotCell c false → rule c ≡ Stop beyond.Attribute)
    → Over cells cells (reads_cell n rule) (next.Leave beyond.Attribute)
stops_at cells n rule (Some c) (Some false) is h e stops = λ fixed texts stack units printed.
    ap (λ (o : Option Cell). runs units (bind (on_cell rule o) (rest (reverse stack))) (stated fixed cells texts) printed) is
    ∙ ap (λ (t : RuleTree). runs units (bind t (rest (reverse stack))) (stated fixed cells texts) printed) (stops c h)
stops_at cells n rule (Some c) (Some true) is h e stops = cc
stops_at cells n rule (Some c) None is h e stops = absurd h
stops_at cells n rule None b is h e stops = cc

pub no_owner : (cells : List Cell) (n : ℕ) (rule : Cell → RuleTree) (b : Option Bool) → OwnsOrNot cells n b → b ≡ Some false → ((c : Cell) → OwnsOrNotCell c false → rule c ≡ Stop beyond.Attribute)
    → Over cells cells (reads_cell n rule) (next.Leave beyond.Attribute)
no_owner cells n rule b h e stops = stops_at cells n rule (cell_of cells n) b refl h e stops

nothing_at : (cells : List Cell) (n : ℕ) (rule : Cell → RuleTree) (o : Option Cell) (b : Option Bool) → cell_of cells n ≡ o → OwnsThere o b → b ≡ None → Over cells cells (reads_cell n rule) (next.Leave beyond.NotYet)
nothing_at cells n rule None b is h e = λ fixed texts stack units printed.
    ap (λ (o : Option Cell). runs units (bind (on_cell rule o) (rest (reverse stack))) (stated fixed cells texts) printed) is
nothing_at cells n rule (Some c) None is h e = absurd h
nothing_at cells n rule (Some c) (Some b) is h e = cc

pub no_cell : (cells : List Cell) (n : ℕ) (rule : Cell → RuleTree) (b : Option Bool) → OwnsOrNot cells n b → b ≡ None → Over cells cells (reads_cell n rule) (next.Leave beyond.NotYet)
no_cell cells n rule b h e = nothing_at cells n rule (cell_of cells n) b refl h e

-- ---- by the kind of the cell

abbrev pub Reads : List Cell → ℕ → List ℕ → Cell → Next → Type 0
Reads cells n name c m = (fixed : State) (texts : List Program) (stack : List Frame) → MeansIn (stated fixed cells texts) stack m (cell_attribute (stated fixed cells texts) n name c) stack

pub as_cell : (cells : List Cell) (n : ℕ) (name : List ℕ) (c as_told : Cell) (r : Result Next NoMemory) → c ≡ as_told → IfOk r (Reads cells n name as_told) → IfOk r (Reads cells n name c)
as_cell cells n name c as_told r is h = subst (λ (d : Cell). IfOk r (Reads cells n name d)) (sym is) h

plainly_read : (cells : List Cell) (n : ℕ) (name : List ℕ) (c : Cell) (t : RuleTree) (r : Result Next NoMemory) → ((fixed : State) (texts : List Program) → t ≡ cell_attribute (stated fixed cells texts) n name c)
    → IfOk r (Plainly t) → IfOk r (Reads cells n name c)
plainly_read cells n name c t (Ok m) so h = λ fixed texts stack.
    subst (λ (u : RuleTree). MeansIn (stated fixed cells texts) stack m u stack) (so fixed texts) (in_state (stated fixed cells texts) t m stack stack (h stack))
plainly_read cells n name c t (Err e) so h = h

pub as_cell_plainly : (cells : List Cell) (n : ℕ) (name : List ℕ) (c as_told : Cell) (t : RuleTree) (r : Result Next NoMemory) → c ≡ as_told → ((fixed : State) (texts : List Program) → t ≡ cell_attribute (stated fixed cells texts) n name as_told)
    → IfOk r (Plainly t) → IfOk r (Reads cells n name c)
as_cell_plainly cells n name c as_told t r is so h = as_cell cells n name c as_told r is (plainly_read cells n name as_told t r so h)

-- a method of a text
pub of_text : (receiver : Plain) (held copied : List ℕ) (name : List ℕ) (found : Option BuiltinMethod) (m : Next) → receiver ≡ plain.Text held → copied ≡ held → found ≡ method_among text_methods name
    → Plainly (bound_method (value.Plain (plain.Text copied)) found) m → Plainly (attribute_of (value.Plain receiver) name) m
of_text receiver held copied name found m is same so h =
    subst (λ (p : Plain). Plainly (attribute_of (value.Plain p) name) m) (sym is)
    (subst (λ (t : List ℕ). Plainly (bound_method (value.Plain (plain.Text t)) (method_among text_methods name)) m) same
    (subst (λ (o : Option BuiltinMethod). Plainly (bound_method (value.Plain (plain.Text copied)) o) m) so h))

-- an attribute that is set to a copy
pub copies_set : (old after : List Cell) (n : ℕ) (name copied_name : List ℕ) (v copied : Value) (r : Result Next NoMemory) → copied_name ≡ name → copied ≡ v
    → IfOk r (Over old after (reads_cell n (sets_in_cell n copied_name copied))) → IfOk r (Over old after (reads_cell n (sets_in_cell n name v)))
copies_set old after n name copied_name v copied r p q h =
    subst (λ (w : List ℕ). IfOk r (Over old after (reads_cell n (sets_in_cell n w v)))) p
    (subst (λ (u : Value). IfOk r (Over old after (reads_cell n (sets_in_cell n copied_name u)))) q h)
