-- What a side boxes is read as the value that the other side sees.
use Rattle.std.proofs.Common.{◌≡◌, ℕ, pos, List, [], ◌∷◌, map, Option, Some, option_map, refl, sym, ◌∙◌, ap, subst}
use denote.Hole.Carrier
use Rattle.rp_base.specs.declared.identity.IdPack.{IdPack}
use Rattle.rp_base.specs.declared.plain.Plain.{Plain, roll-Plain}
use Rattle.rp_base.specs.declared.plain.Plain.TheOpen.{Plain-F}
use Rattle.rp_base.specs.declared.plain.Plain.TheVariants as plain
use Rattle.rp_base.specs.declared.plain.Plain.TheFolds.{map-Plain, ind-Plain}
use Rattle.rp_base.specs.declared.value.Value.{Value, roll-Value}
use Rattle.rp_base.specs.declared.value.Value.TheOpen.{Value-F}
use Rattle.rp_base.specs.declared.value.Value.TheVariants as value
use Rattle.rp_base.specs.declared.value.Value.TheFolds.{map-Value, ind-Value}
use Rattle.rp_base.specs.PlainLaws.{gather_tuple, gather_roll, look_tuple}
use Rattle.rp_base.specs.PlainValues.{look}
use Rattle.rp_base.specs.Values.{joined}
use Rattle.rp_base.specs.ValueLaws.{gather_value_roll}
use Rattle.language_rules.specs.Boxing.{labelled, identity_triple, box_step, boxed, Part, all_of, identity_in, own_number, value_labelled, part_step, part_of, unboxed, crossed_step, crossed}

pub part_of_tuple : (ps : List Plain) → part_of (plain.Tuple ps) ≡ part_step (Plain-F.Tuple (map part_of ps))
unfolding part_of
part_of_tuple ps = gather_tuple Part part_step ps

part_of_roll : (x : Plain-F Plain) → part_of (roll-Plain x) ≡ part_step (map-Plain Plain Part part_of x)
unfolding part_of
part_of_roll x = gather_roll Part part_step x

-- a part keeps the value itself
abbrev Itself : Plain → Type 0
Itself p = (part_of p).itself ≡ p

abbrev plain_layer : (P : Plain → Type 0) → Plain-F ((p : Plain) × P p) → Plain-F Plain
plain_layer P y = map-Plain ((p : Plain) × P p) Plain (λ e. e.0) y

items_itself : (ys : List ((p : Plain) × Itself p)) → map (λ q. q.itself) (map part_of (map (λ e. e.0) ys)) ≡ map (λ e. e.0) ys
items_itself [] = refl
items_itself (y ∷ ys) = λ i. y.1 i ∷ items_itself ys i

layer_itself : (y : Plain-F ((p : Plain) × Itself p)) → (part_step (map-Plain Plain Part part_of (plain_layer Itself y))).itself ≡ roll-Plain (plain_layer Itself y)
unfolding roll-Plain Carrier.roll
layer_itself Plain-F.None = refl
layer_itself (Plain-F.Bool b) = refl
layer_itself (Plain-F.Int n) = refl
layer_itself (Plain-F.Text t) = refl
layer_itself (Plain-F.Bytes b) = refl
layer_itself Plain-F.NotImpl = refl
layer_itself Plain-F.Ellipsis = refl
layer_itself (Plain-F.Tuple ys) = ap (λ (zs : List Plain). plain.Tuple zs) (items_itself ys)

itself_at : (y : Plain-F ((p : Plain) × Itself p)) → Itself (roll-Plain (plain_layer Itself y))
itself_at y = ap (λ (q : Part). q.itself) (part_of_roll (plain_layer Itself y)) ∙ layer_itself y

pub itself_of : (p : Plain) → (part_of p).itself ≡ p
itself_of = ind-Plain Itself (λ x y is. subst (λ z. Itself (roll-Plain z)) is (itself_at y))

-- a label with its content
label_part : (label : ℕ) (content : Part) → (part_step (Plain-F.Tuple (part_of (plain.Int (pos label)) ∷ content ∷ []))).value ≡ value_labelled label content
unfolding part_of
label_part label content = refl

pub labelled_value : (label : ℕ) (content : Plain) → unboxed (labelled label content) ≡ value_labelled label (part_of content)
labelled_value label content = ap (λ (q : Part). q.value) (part_of_tuple (plain.Int (pos label) ∷ content ∷ [])) ∙ label_part label (part_of content)

identity_read : (id : IdPack) → identity_in (look (part_of (identity_triple id)).itself) ≡ Some id
identity_read id =
    ap (λ (p : Plain). identity_in (look p)) (itself_of (identity_triple id))
    ∙ ap identity_in (look_tuple (plain.Text id.name ∷ plain.Int (pos id.class_no) ∷ plain.Int (pos id.inst_no) ∷ []))

-- by the layers of a value
abbrev Crosses : (ℕ → IdPack) → Value → Type 0
Crosses ids v = unboxed (boxed ids v) ≡ Some (crossed ids v)

abbrev value_layer : (P : Value → Type 0) → Value-F ((v : Value) × P v) → Value-F Value
value_layer P y = map-Value ((v : Value) × P v) Value (λ e. e.0) y

boxed_roll : (ids : ℕ → IdPack) (x : Value-F Value) → boxed ids (roll-Value x) ≡ box_step ids (map-Value Value Plain (boxed ids) x)
unfolding boxed
boxed_roll ids x = gather_value_roll Plain (box_step ids) x

crossed_roll : (ids : ℕ → IdPack) (x : Value-F Value) → crossed ids (roll-Value x) ≡ crossed_step ids (map-Value Value Value (crossed ids) x)
unfolding crossed
crossed_roll ids x = gather_value_roll Value (crossed_step ids) x

items_cross : (ids : ℕ → IdPack) (ys : List ((v : Value) × Crosses ids v))
    → all_of (map (λ q. q.value) (map part_of (map (boxed ids) (map (λ e. e.0) ys)))) ≡ Some (map (crossed ids) (map (λ e. e.0) ys))
items_cross ids [] = refl
items_cross ids (y ∷ ys) =
    ap (λ (o : Option Value). all_of (o ∷ map (λ q. q.value) (map part_of (map (boxed ids) (map (λ e. e.0) ys))))) y.1
    ∙ ap (λ (o : Option (List Value)). option_map (λ us. crossed ids y.0 ∷ us) o) (items_cross ids ys)

tuple_crosses : (ids : ℕ → IdPack) (ys : List ((v : Value) × Crosses ids v))
    → option_map joined (part_of (plain.Tuple (map (boxed ids) (map (λ e. e.0) ys)))).items ≡ Some (joined (map (crossed ids) (map (λ e. e.0) ys)))
tuple_crosses ids ys =
    ap (λ (q : Part). option_map joined q.items) (part_of_tuple (map (boxed ids) (map (λ e. e.0) ys)))
    ∙ ap (λ (o : Option (List Value)). option_map joined o) (items_cross ids ys)

layer_crosses : (ids : ℕ → IdPack) (y : Value-F ((v : Value) × Crosses ids v))
    → unboxed (box_step ids (map-Value Value Plain (boxed ids) (value_layer (Crosses ids) y))) ≡ Some (crossed_step ids (map-Value Value Value (crossed ids) (value_layer (Crosses ids) y)))
layer_crosses ids (Value-F.Plain p) = labelled_value 1 p ∙ ap (λ (q : Plain). Some (value.Plain q)) (itself_of p)
layer_crosses ids (Value-F.Proxy id) = labelled_value 3 (identity_triple id) ∙ ap (λ (o : Option IdPack). option_map (λ i. value.Own (own_number i)) o) (identity_read id)
layer_crosses ids (Value-F.Own n) = labelled_value 4 (identity_triple (ids n)) ∙ ap (λ (o : Option IdPack). option_map value.Proxy o) (identity_read (ids n))
layer_crosses ids (Value-F.Tuple ys) = labelled_value 2 (plain.Tuple (map (boxed ids) (map (λ e. e.0) ys))) ∙ tuple_crosses ids ys

crosses_at : (ids : ℕ → IdPack) (y : Value-F ((v : Value) × Crosses ids v)) → Crosses ids (roll-Value (value_layer (Crosses ids) y))
crosses_at ids y =
    ap unboxed (boxed_roll ids (value_layer (Crosses ids) y)) ∙ layer_crosses ids y
    ∙ sym (ap (λ (v : Value). Some v) (crossed_roll ids (value_layer (Crosses ids) y)))

pub boxes_are_read : (ids : ℕ → IdPack) (v : Value) → unboxed (boxed ids v) ≡ Some (crossed ids v)
boxes_are_read ids = ind-Value (Crosses ids) (λ x y is. subst (λ z. Crosses ids (roll-Value z)) is (crosses_at ids y))
