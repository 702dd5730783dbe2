-- Values and their parts, case by case.
use Rattle.std.proofs.Common.{◌≡◌, ℕ, ℤ, Bool, true, List, subst}
use denote.Hole.Carrier
use Rattle.rp_base.specs.declared.identity.IdPack.{IdPack}
use Rattle.rp_base.specs.declared.plain.Plain.{Plain, out-Plain, roll-Plain}
use Rattle.rp_base.specs.declared.plain.Plain.TheOpen.{Plain-F}
use Rattle.rp_base.specs.declared.plain.Plain.TheVariants as plain
use Rattle.rp_base.specs.declared.plain.Plain.TheViews.{roll-out-Plain}
use Rattle.rp_base.specs.declared.value.Value.{Value, out-Value, roll-Value}
use Rattle.rp_base.specs.declared.value.Value.TheOpen.{Value-F}
use Rattle.rp_base.specs.declared.value.Value.TheVariants as value
use Rattle.rp_base.specs.declared.value.Value.TheViews.{roll-out-Value}
use Rattle.language_rules.specs.Kinds.{is_reference}

value_layer : (P : Value → Type 0) → ((p : Plain) → P (value.Plain p)) → ((vs : List Value) → P (value.Tuple vs)) → ((n : ℕ) → P (value.Own n)) → ((id : IdPack) → P (value.Proxy id)) → (x : Value-F Value) → P (roll-Value x)
unfolding roll-Value Carrier.roll
value_layer P a b c d (Value-F.Plain p) = a p
value_layer P a b c d (Value-F.Tuple vs) = b vs
value_layer P a b c d (Value-F.Own n) = c n
value_layer P a b c d (Value-F.Proxy id) = d id

pub each_value : (P : Value → Type 0) → ((p : Plain) → P (value.Plain p)) → ((vs : List Value) → P (value.Tuple vs)) → ((n : ℕ) → P (value.Own n)) → ((id : IdPack) → P (value.Proxy id)) → (v : Value) → P v
each_value P a b c d v = subst P (roll-out-Value v) (value_layer P a b c d (out-Value v))

plain_layer : (P : Plain → Type 0) → P plain.None → ((b : Bool) → P (plain.Bool b)) → ((n : ℤ) → P (plain.Int n)) → ((t : List ℕ) → P (plain.Text t)) → ((t : List ℕ) → P (plain.Bytes t)) → P plain.NotImpl → P plain.Ellipsis → ((ps : List Plain) → P (plain.Tuple ps)) → (x : Plain-F Plain) → P (roll-Plain x)
unfolding roll-Plain Carrier.roll
plain_layer P a b c d e f g h Plain-F.None = a
plain_layer P a b c d e f g h (Plain-F.Bool x) = b x
plain_layer P a b c d e f g h (Plain-F.Int x) = c x
plain_layer P a b c d e f g h (Plain-F.Text x) = d x
plain_layer P a b c d e f g h (Plain-F.Bytes x) = e x
plain_layer P a b c d e f g h Plain-F.NotImpl = f
plain_layer P a b c d e f g h Plain-F.Ellipsis = g
plain_layer P a b c d e f g h (Plain-F.Tuple x) = h x

pub each_plain : (P : Plain → Type 0) → P plain.None → ((b : Bool) → P (plain.Bool b)) → ((n : ℤ) → P (plain.Int n)) → ((t : List ℕ) → P (plain.Text t)) → ((t : List ℕ) → P (plain.Bytes t)) → P plain.NotImpl → P plain.Ellipsis → ((ps : List Plain) → P (plain.Tuple ps)) → (p : Plain) → P p
each_plain P a b c d e f g h p = subst P (roll-out-Plain p) (plain_layer P a b c d e f g h (out-Plain p))

-- a value that refers to an object
pub each_reference : (P : Value → Type 0) → ((n : ℕ) → P (value.Own n)) → ((id : IdPack) → P (value.Proxy id)) → (v : Value) → is_reference v ≡ true → P v
each_reference P f g v = each_value (λ (w : Value). is_reference w ≡ true → P w) (λ p h. cc) (λ vs h. cc) (λ n h. f n) (λ id h. g id) v
