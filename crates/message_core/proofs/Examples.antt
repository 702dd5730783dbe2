-- Worked examples, computed by the checker.
use Rattle.std.proofs.Common.{◌≡◌, ℕ, pos, true, false, List, [], ◌∷◌, Err, refl}
use Rattle.std.specs.Prelude.{codes}
use Rattle.rp_base.specs.Computing.{computing}
use Rattle.rp_base.specs.declared.handlers.Handler.TheVariants as handler
use Rattle.rp_base.specs.declared.plain.Plain.TheVariants as plain
use Rattle.rp_base.specs.declared.value.Value.{Value}
use Rattle.rp_base.specs.declared.value.Value.TheVariants as value
use Rattle.message_core.specs.Arguments.{fitting}
use Rattle.message_core.specs.Judging.{judged}
use Rattle.message_core.specs.Messages.{parts}
use Rattle.message_core.specs.declared.faults.MsgFault.TheVariants as fault

-- (4, 0, 0)
pub kind_four : judged (parts (pos 4) 0 (plain.Int (pos 0))) ≡ Err (fault.M2 (pos 4))
unfolding computing
kind_four = refl

-- (1, 0, 0)
pub no_pair : judged (parts (pos 1) 0 (plain.Int (pos 0))) ≡ Err fault.M1
unfolding computing
no_pair = refl

-- (1, 0, (12, ()))
pub left_out : judged (parts (pos 1) 0 (plain.Tuple (plain.Int (pos 12) ∷ plain.Tuple [] ∷ []))) ≡ Err (fault.M4 12)
unfolding computing
left_out = refl

abbrev text : List ℕ → Value
text t = value.Plain (plain.Text t)

abbrev no_items : Value
no_items = value.Plain (plain.Tuple [])

-- the arguments of a special call of the reader's object 5
abbrev special : List ℕ → Value → Value → Value
special name args kwargs = value.Tuple (value.Own 5 ∷ text name ∷ args ∷ kwargs ∷ [])

pub length_of : fitting handler.CallAttr (special (codes "__len__") no_items no_items) ≡ true
unfolding computing
length_of = refl

pub item_of_nothing : fitting handler.CallAttr (special (codes "__getitem__") no_items no_items) ≡ false
unfolding computing
item_of_nothing = refl

pub item_of_a_reference : fitting handler.CallAttr (special (codes "__getitem__") (value.Tuple (value.Own 6 ∷ [])) no_items) ≡ true
unfolding computing
item_of_a_reference = refl

-- {"key": 1} as a tuple of pairs
pub a_keyword : fitting handler.CallAttr (special (codes "f") no_items (value.Plain (plain.Tuple (plain.Tuple (plain.Text (codes "key") ∷ plain.Int (pos 1) ∷ []) ∷ [])))) ≡ true
unfolding computing
a_keyword = refl

-- a text is no object
pub a_text : fitting handler.Repr (value.Tuple (text (codes "x") ∷ [])) ≡ false
unfolding computing
a_text = refl

pub an_identity : fitting handler.Inspect (value.Plain (plain.Tuple (plain.Tuple (plain.Text (codes "builtins.list") ∷ plain.Int (pos 0) ∷ plain.Int (pos 5) ∷ []) ∷ []))) ≡ true
unfolding computing
an_identity = refl
