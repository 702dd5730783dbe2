-- A request is read as the operation that was asked, as the other side sees it, and an answer as the end that it tells of.
use Rattle.std.proofs.Common.{◌≡◌, ℕ, List, [], ◌∷◌, map, Option, Some, None, option_map, refl, sym, ◌∙◌, ap, subst}
use denote.Hole.Carrier
use Rattle.rp_base.specs.declared.exceptions.Raised.{Raised}
use Rattle.rp_base.specs.declared.handlers.Handler.{Handler}
use Rattle.rp_base.specs.declared.handlers.Handler.TheVariants as handler
use Rattle.rp_base.specs.declared.identity.IdPack.{IdPack}
use Rattle.rp_base.specs.declared.operators.CmpOp.{CmpOp}
use Rattle.rp_base.specs.declared.operators.CmpOp.TheVariants as cmp
use Rattle.rp_base.specs.declared.plain.Plain.{Plain}
use Rattle.rp_base.specs.declared.plain.Plain.TheVariants as plain
use Rattle.rp_base.specs.declared.value.Value.{Value, roll-Value}
use Rattle.rp_base.specs.declared.value.Value.TheOpen.{Value-F}
use Rattle.rp_base.specs.declared.value.Value.TheVariants as value
use Rattle.rp_base.specs.declared.value.Value.TheFolds.{map-Value, ind-Value}
use Rattle.rp_base.specs.PlainLaws.{look_tuple}
use Rattle.rp_base.specs.Values.{all_there, plain_of, plains_of, choose, joined}
use Rattle.rp_base.specs.ValueLaws.{look_value_tuple, gather_value_tuple, plain_of_tuple}
use Rattle.object_operations.specs.declared.operation.Operation.{Operation}
use Rattle.object_operations.specs.declared.operation.Operation.TheVariants as operation
use Rattle.object_operations.specs.declared.special.Special.{Special}
use Rattle.object_operations.specs.declared.special.Special.TheVariants as special
use Rattle.object_operations.specs.Names.{special_name, special_of}
use Rattle.py_store.specs.Identities.{identity_of}
use Rattle.language_rules.specs.Boxing.{crossed_step, crossed}
use Rattle.language_rules.specs.Codes.{Gives, Raises, Code, Perform}
use Rattle.language_rules.specs.Going.{text}
use Rattle.language_rules.specs.Messages.{comparison_name, request, request_of, answer_of, plain_items, items_at, items_of, comparison_of, without_keywords, special_code, code_at, value_or_none, code_of, completion_of, asked_code}
use Rattle.language_rules.specs.States.{State}
use Rattle.language_rules.proofs.BoxLaw.{boxes_are_read}
use Rattle.language_rules.proofs.ExceptionLaw.{exceptions_are_read}

-- ---- values without references

-- a value is this plain one, where there is one; lists alike
abbrev Is : Value → Option Plain → Type 0
Is v (Some p) = v ≡ value.Plain p
Is v None = Unit {0}

abbrev Are : List Value → Option (List Plain) → Type 0
Are vs (Some ps) = vs ≡ map value.Plain ps
Are vs None = Unit {0}

are_more : (v : Value) (vs : List Value) (p : Plain) (ps : Option (List Plain)) → v ≡ value.Plain p → Are vs ps → Are (v ∷ vs) (option_map (λ qs. p ∷ qs) ps)
are_more v vs p None is are = tt
are_more v vs p (Some ps) is are = λ i. is i ∷ are i

are_with : (v : Value) (vs : List Value) (p : Option Plain) (ps : List (Option Plain)) → Is v p → Are vs (all_there ps) → Are (v ∷ vs) (all_there (p ∷ ps))
are_with v vs None ps is are = tt
are_with v vs (Some p) ps is are = are_more v vs p (all_there ps) is are

plains_there : (ps : List Plain) → plains_of (map value.Plain ps) ≡ Some ps
unfolding plain_of
plains_there [] = refl
plains_there (p ∷ ps) = ap (λ (o : Option (List Plain)). option_map (λ qs. p ∷ qs) o) (plains_there ps)

joined_plains : (ps : List Plain) → joined (map value.Plain ps) ≡ value.Plain (plain.Tuple ps)
joined_plains ps = ap (λ (o : Option (List Plain)). choose o (map value.Plain ps)) (plains_there ps)

-- a tuple that Python makes holds a reference, or is plain
choice_is : (vs : List Value) (ps : Option (List Plain)) → plains_of vs ≡ ps → Is (choose ps vs) (plain_of (choose ps vs))
unfolding plain_of
choice_is vs (Some ps) e = refl
choice_is vs None e = subst (Is (value.Tuple vs)) (sym (plain_of_tuple vs ∙ ap (λ (o : Option (List Plain)). option_map plain.Tuple o) e)) tt

joined_is : (vs : List Value) → Is (joined vs) (plain_of (joined vs))
joined_is vs = choice_is vs (plains_of vs) refl

-- ---- values that cross

crossed_tuple : (ids : ℕ → IdPack) (vs : List Value) → crossed ids (value.Tuple vs) ≡ joined (map (crossed ids) vs)
unfolding crossed
crossed_tuple ids vs = gather_value_tuple Value (crossed_step ids) vs

abbrev value_layer : (P : Value → Type 0) → Value-F ((v : Value) × P v) → Value-F Value
value_layer P y = map-Value ((v : Value) × P v) Value (λ e. e.0) y

-- a value without references stays
abbrev Stays : (ℕ → IdPack) → Value → Type 0
Stays ids v = Is (crossed ids v) (plain_of v)

items_stay : (ids : ℕ → IdPack) (ys : List ((v : Value) × Stays ids v)) → Are (map (crossed ids) (map (λ e. e.0) ys)) (plains_of (map (λ e. e.0) ys))
items_stay ids [] = refl
items_stay ids (y ∷ ys) = are_with (crossed ids y.0) (map (crossed ids) (map (λ e. e.0) ys)) (plain_of y.0) (map plain_of (map (λ e. e.0) ys)) y.1 (items_stay ids ys)

tuple_stays_at : (ids : ℕ → IdPack) (vs : List Value) (ps : Option (List Plain)) → Are (map (crossed ids) vs) ps → Is (crossed ids (value.Tuple vs)) (option_map plain.Tuple ps)
tuple_stays_at ids vs None are = tt
tuple_stays_at ids vs (Some ps) are = crossed_tuple ids vs ∙ ap joined are ∙ joined_plains ps

tuple_stays : (ids : ℕ → IdPack) (vs : List Value) → Are (map (crossed ids) vs) (plains_of vs) → Stays ids (value.Tuple vs)
tuple_stays ids vs are = subst (Is (crossed ids (value.Tuple vs))) (sym (plain_of_tuple vs)) (tuple_stays_at ids vs (plains_of vs) are)

stays_at : (ids : ℕ → IdPack) (y : Value-F ((v : Value) × Stays ids v)) → Stays ids (roll-Value (value_layer (Stays ids) y))
unfolding roll-Value Carrier.roll plain_of crossed
stays_at ids (Value-F.Plain p) = refl
stays_at ids (Value-F.Own n) = tt
stays_at ids (Value-F.Proxy id) = tt
stays_at ids (Value-F.Tuple ys) = tuple_stays ids (map (λ e. e.0) ys) (items_stay ids ys)

stays : (ids : ℕ → IdPack) (v : Value) → Stays ids v
stays ids = ind-Value (Stays ids) (λ x y is. subst (λ z. Stays ids (roll-Value z)) is (stays_at ids y))

all_stay : (ids : ℕ → IdPack) (vs : List Value) → Are (map (crossed ids) vs) (plains_of vs)
all_stay ids [] = refl
all_stay ids (v ∷ vs) = are_with (crossed ids v) (map (crossed ids) vs) (plain_of v) (map plain_of vs) (stays ids v) (all_stay ids vs)

-- what has crossed is one that Python makes
abbrev Arrives : (ℕ → IdPack) → Value → Type 0
Arrives ids v = Is (crossed ids v) (plain_of (crossed ids v))

arrives_at : (ids : ℕ → IdPack) (y : Value-F ((v : Value) × Arrives ids v)) → Arrives ids (roll-Value (value_layer (Arrives ids) y))
unfolding roll-Value Carrier.roll plain_of crossed
arrives_at ids (Value-F.Plain p) = refl
arrives_at ids (Value-F.Own n) = tt
arrives_at ids (Value-F.Proxy id) = tt
arrives_at ids (Value-F.Tuple ys) =
    subst (λ (v : Value). Is v (plain_of v)) (sym (crossed_tuple ids (map (λ e. e.0) ys))) (joined_is (map (crossed ids) (map (λ e. e.0) ys)))

arrives : (ids : ℕ → IdPack) (v : Value) → Arrives ids v
arrives ids = ind-Value (Arrives ids) (λ x y is. subst (λ z. Arrives ids (roll-Value z)) is (arrives_at ids y))

all_arrive : (ids : ℕ → IdPack) (vs : List Value) → Are (map (crossed ids) vs) (plains_of (map (crossed ids) vs))
all_arrive ids [] = refl
all_arrive ids (v ∷ vs) = are_with (crossed ids v) (map (crossed ids) vs) (plain_of (crossed ids v)) (map plain_of (map (crossed ids) vs)) (arrives ids v) (all_arrive ids vs)

-- ---- the items of a tuple that crosses

plain_tuple_items : (ps : List Plain) → items_of (value.Plain (plain.Tuple ps)) ≡ map value.Plain ps
plain_tuple_items ps = ap plain_items (look_tuple ps)

choice_items : (vs : List Value) (ps : Option (List Plain)) → Are vs ps → items_of (choose ps vs) ≡ vs
choice_items vs (Some ps) are = plain_tuple_items ps ∙ sym are
choice_items vs None are = ap items_at (look_value_tuple vs)

crossed_choice_items : (ids : ℕ → IdPack) (vs : List Value) (ps : Option (List Plain)) → Are (map (crossed ids) vs) ps → items_of (crossed ids (choose ps vs)) ≡ map (crossed ids) vs
unfolding crossed
crossed_choice_items ids vs (Some ps) are = plain_tuple_items ps ∙ sym are
crossed_choice_items ids vs None are =
    ap items_of (crossed_tuple ids vs) ∙ choice_items (map (crossed ids) vs) (plains_of (map (crossed ids) vs)) (all_arrive ids vs)

items_cross : (ids : ℕ → IdPack) (vs : List Value) → items_of (crossed ids (joined vs)) ≡ map (crossed ids) vs
items_cross ids vs = crossed_choice_items ids vs (plains_of vs) (all_stay ids vs)

-- ---- requests

-- a value of this side as the other sees it
abbrev seen : State → Value → Value
seen s = crossed (identity_of s.cells)

items_seen : (s : State) (vs : List Value) → items_of (seen s (joined vs)) ≡ map (seen s) vs
items_seen s = items_cross (identity_of s.cells)

arguments_read : (s : State) (h : Handler) (vs : List Value) → code_of (request s h vs) ≡ code_at h (map (seen s) vs)
arguments_read s h vs =
    ap (λ (o : Option Value). code_at h (items_of (value_or_none o))) (boxes_are_read (identity_of s.cells) (joined vs))
    ∙ ap (λ (us : List Value). code_at h us) (items_seen s vs)

-- no keyword argument comes
no_keywords_read : (s : State) (c : Code) → without_keywords (items_of (seen s (joined []))) c ≡ c
no_keywords_read s c = ap (λ (us : List Value). without_keywords us c) (items_seen s [])

comparison_read : (op : CmpOp) → comparison_of (comparison_name op) ≡ op
comparison_read cmp.Eq = refl
comparison_read cmp.Ne = refl
comparison_read cmp.Lt = refl
comparison_read cmp.Le = refl
comparison_read cmp.Gt = refl
comparison_read cmp.Ge = refl

special_read : (ids : ℕ → IdPack) (receiver : Value) (sp : Special) (arguments : List Value)
    → special_code (crossed ids receiver) (special_name sp) (map (crossed ids) arguments) (special_of (special_name sp)) ≡ asked_code ids (operation.Special receiver sp arguments)
special_read ids receiver special.Len arguments = refl
special_read ids receiver special.Bool arguments = refl
special_read ids receiver special.GetItem arguments = refl
special_read ids receiver special.SetItem arguments = refl
special_read ids receiver special.DelItem arguments = refl
special_read ids receiver special.Contains arguments = refl
special_read ids receiver special.Iter arguments = refl
special_read ids receiver special.Next arguments = refl
special_read ids receiver special.Add arguments = refl
special_read ids receiver special.Sub arguments = refl
special_read ids receiver special.Mul arguments = refl
special_read ids receiver special.FloorDiv arguments = refl
special_read ids receiver special.Mod arguments = refl
special_read ids receiver special.Neg arguments = refl
special_read ids receiver special.IAdd arguments = refl
special_read ids receiver special.GetModule arguments = refl

call_read : (s : State) (callee : Value) (arguments : List Value) → code_of (request_of s (operation.Call callee arguments)) ≡ Perform (operation.Call (seen s callee) (map (seen s) arguments))
call_read s callee arguments =
    arguments_read s handler.Call (callee ∷ joined arguments ∷ joined [] ∷ [])
    ∙ no_keywords_read s (Perform (operation.Call (seen s callee) (items_of (seen s (joined arguments)))))
    ∙ ap (λ (us : List Value). Perform (operation.Call (seen s callee) us)) (items_seen s arguments)

special_call_read : (s : State) (receiver : Value) (sp : Special) (arguments : List Value)
    → code_of (request_of s (operation.Special receiver sp arguments)) ≡ special_code (seen s receiver) (special_name sp) (map (seen s) arguments) (special_of (special_name sp))
unfolding crossed
special_call_read s receiver sp arguments =
    arguments_read s handler.CallAttr (receiver ∷ text (special_name sp) ∷ joined arguments ∷ joined [] ∷ [])
    ∙ no_keywords_read s (special_code (seen s receiver) (special_name sp) (items_of (seen s (joined arguments))) (special_of (special_name sp)))
    ∙ ap (λ (us : List Value). special_code (seen s receiver) (special_name sp) us (special_of (special_name sp))) (items_seen s arguments)

-- a text crosses as it is, so a name is read at once
pub requests_are_read : (s : State) (o : Operation) → code_of (request_of s o) ≡ asked_code (identity_of s.cells) o
unfolding crossed
requests_are_read s operation.GetRoot = arguments_read s handler.GetRoot []
requests_are_read s (operation.GetAttr receiver name) = arguments_read s handler.GetAttr (receiver ∷ text name ∷ [])
requests_are_read s (operation.SetAttr receiver name v) = arguments_read s handler.SetAttr (receiver ∷ text name ∷ v ∷ [])
requests_are_read s (operation.DelAttr receiver name) = arguments_read s handler.DelAttr (receiver ∷ text name ∷ [])
requests_are_read s (operation.Call callee arguments) = call_read s callee arguments
requests_are_read s (operation.Special receiver sp arguments) = special_call_read s receiver sp arguments ∙ special_read (identity_of s.cells) receiver sp arguments
requests_are_read s (operation.Cmp receiver op other) =
    arguments_read s handler.Cmp (receiver ∷ other ∷ text (comparison_name op) ∷ [])
    ∙ ap (λ (c : CmpOp). Perform (operation.Cmp (seen s receiver) c (seen s other))) (comparison_read op)
requests_are_read s (operation.Str receiver) = arguments_read s handler.Str (receiver ∷ [])
requests_are_read s (operation.Repr receiver) = arguments_read s handler.Repr (receiver ∷ [])

-- ---- answers

pub values_are_read : (s : State) (v : Value) → completion_of (answer_of s (Gives v)) ≡ Gives (crossed (identity_of s.cells) v)
values_are_read s v = ap (λ (o : Option Value). Gives (value_or_none o)) (boxes_are_read (identity_of s.cells) v)

pub raised_is_read : (s : State) (r : Raised) → completion_of (answer_of s (Raises r)) ≡ Raises r
raised_is_read s r = ap Raises (exceptions_are_read r)
