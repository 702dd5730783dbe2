-- How values cross, after the boxing of RPyC's module `protocol`: a box is a pair of a label and a content.
-- 1 a plain value, 2 a tuple with a reference in it, 3 an object of the receiver, 4 an object of the sender.
use Rattle.std.specs.Prelude.{ℕ, ◌==◌, pos, List, [], ◌∷◌, map, Option, Some, None, option_map, if◌then◌else◌}
use Rattle.rp_base.specs.declared.identity.IdPack.{IdPack}
use Rattle.rp_base.specs.declared.plain.Plain.{Plain}
use Rattle.rp_base.specs.declared.plain.Plain.TheOpen.{Plain-F}
use Rattle.rp_base.specs.declared.plain.Plain.TheVariants as plain
use Rattle.rp_base.specs.declared.value.Value.{Value}
use Rattle.rp_base.specs.declared.value.Value.TheOpen.{Value-F}
use Rattle.rp_base.specs.declared.value.Value.TheVariants as value
use Rattle.rp_base.specs.PlainValues.{look, gather}
use Rattle.rp_base.specs.Values.{gather_value, joined}
use Rattle.py_store.specs.Identities.{identity_of}
use Rattle.language_rules.specs.States.{State}

-- ---- writing

abbrev pub labelled : ℕ → Plain → Plain
labelled label content = plain.Tuple (plain.Int (pos label) ∷ content ∷ [])

-- an identity as three plain values
abbrev pub identity_triple : IdPack → Plain
identity_triple id = plain.Tuple (plain.Text id.name ∷ plain.Int (pos id.class_no) ∷ plain.Int (pos id.inst_no) ∷ [])

abbrev pub box_step : (ℕ → IdPack) → Value-F Plain → Plain
box_step ids (Value-F.Plain p) = labelled 1 p
box_step ids (Value-F.Tuple boxes) = labelled 2 (plain.Tuple boxes)
box_step ids (Value-F.Proxy id) = labelled 3 (identity_triple id)
box_step ids (Value-F.Own n) = labelled 4 (identity_triple (ids n))

-- a value as it crosses, where own cells have these identities
unfoldable pub boxed : (ℕ → IdPack) → Value → Plain
boxed ids = gather_value Plain (box_step ids)

-- as this side sends it
abbrev pub box : State → Value → Plain
box s v = boxed (identity_of s.cells) v

-- ---- reading

-- a part of a box: the value itself, what it is as a box, and what each of its items is as a box
pub record Part : Type 0 where
  pub itself : Plain
  pub value : Option Value
  pub items : Option (List Value)

abbrev pub all_of : List (Option Value) → Option (List Value)
all_of [] = Some []
all_of (None ∷ vs) = None
all_of (Some v ∷ vs) = option_map (λ us. v ∷ us) (all_of vs)

abbrev pub identity_of_parts : List (Plain-F Plain) → Option IdPack
identity_of_parts (Plain-F.Text name ∷ Plain-F.Int (pos class_no) ∷ Plain-F.Int (pos inst_no) ∷ []) = Some (record { name = name; class_no = class_no; inst_no = inst_no })
identity_of_parts _ = None

-- the identity that a triple spells
abbrev pub identity_in : Plain-F Plain → Option IdPack
identity_in (Plain-F.Tuple items) = identity_of_parts (map look items)
identity_in _ = None

-- the cell of one's own that an identity names: a class has no instance number
abbrev pub own_number : IdPack → ℕ
own_number id = if id.inst_no == 0 then id.class_no else id.inst_no

-- a tuple of boxes is a plain value where no reference stands in it
-- what is the sender's own is the other side's for the receiver, and the other way round
abbrev pub value_labelled : ℕ → Part → Option Value
value_labelled label content =
    if label == 1 then Some (value.Plain content.itself)
    else if label == 2 then option_map joined content.items
    else if label == 3 then option_map (λ id. value.Own (own_number id)) (identity_in (look content.itself))
    else if label == 4 then option_map value.Proxy (identity_in (look content.itself))
    else None

abbrev pub value_of_pair : Plain-F Plain → Part → Option Value
value_of_pair (Plain-F.Int (pos label)) content = value_labelled label content
value_of_pair _ content = None

abbrev pub value_of_parts : List Part → Option Value
value_of_parts (label ∷ content ∷ []) = value_of_pair (look label.itself) content
value_of_parts _ = None

abbrev pub part_step : Plain-F Part → Part
part_step Plain-F.None = record { itself = plain.None; value = None; items = None }
part_step (Plain-F.Bool b) = record { itself = plain.Bool b; value = None; items = None }
part_step (Plain-F.Int n) = record { itself = plain.Int n; value = None; items = None }
part_step (Plain-F.Text t) = record { itself = plain.Text t; value = None; items = None }
part_step (Plain-F.Bytes b) = record { itself = plain.Bytes b; value = None; items = None }
part_step Plain-F.NotImpl = record { itself = plain.NotImpl; value = None; items = None }
part_step Plain-F.Ellipsis = record { itself = plain.Ellipsis; value = None; items = None }
part_step (Plain-F.Tuple ps) = record { itself = plain.Tuple (map (λ p. p.itself) ps); value = value_of_parts ps; items = all_of (map (λ p. p.value) ps) }

unfoldable pub part_of : Plain → Part
part_of = gather Part part_step

-- the value that a box stands for, as its reader sees it; none where it is no box
abbrev pub unboxed : Plain → Option Value
unboxed p = (part_of p).value

-- ---- a value as the other side sees it

abbrev pub crossed_step : (ℕ → IdPack) → Value-F Value → Value
crossed_step ids (Value-F.Plain p) = value.Plain p
crossed_step ids (Value-F.Tuple vs) = joined vs
crossed_step ids (Value-F.Proxy id) = value.Own (own_number id)
crossed_step ids (Value-F.Own n) = value.Proxy (ids n)

-- an own cell is one of the other side's, by its identity, and the other way round
unfoldable pub crossed : (ℕ → IdPack) → Value → Value
crossed ids = gather_value Value (crossed_step ids)
