-- What the rules ask of an object.
use Rattle.std.proofs.Common.{◌≡◌, ℕ, zero, suc, Bool, true, false, List, [], ◌∷◌, ◌++◌, reverse, Option, Some, None, Result, Ok, Err, IfOk, refl, sym, ◌∙◌, ap, subst, if◌then◌else◌}
use Rattle.rp_base.specs.declared.ends.NoMemory.{NoMemory}
use Rattle.rp_base.specs.declared.exceptions.Beyond.TheVariants as beyond
use Rattle.rp_base.specs.declared.identity.Kind.{Kind}
use Rattle.rp_base.specs.declared.identity.Kind.TheVariants as kind
use Rattle.rp_base.specs.declared.operators.BinaryOp.{BinaryOp}
use Rattle.rp_base.specs.declared.operators.UnaryOp.TheVariants as unary_op
use Rattle.rp_base.specs.declared.value.Value.{Value}
use Rattle.rp_base.specs.declared.value.Value.TheVariants as value
use Rattle.py_ast.specs.declared.builtin.Builtin.{Builtin}
use Rattle.py_ast.specs.declared.builtin.Builtin.TheVariants as builtin
use Rattle.py_ast.specs.declared.program.Program.{Program}
use Rattle.py_store.specs.declared.cell.Cell.{Cell}
use Rattle.object_operations.specs.declared.operation.Operation.{Operation}
use Rattle.object_operations.specs.declared.operation.Operation.TheVariants as operation
use Rattle.object_operations.specs.declared.special.Special.{Special}
use Rattle.object_operations.specs.declared.special.Special.TheVariants as special
use Rattle.side_trees.specs.Trees.{Return, Stop, bind}
use Rattle.language_rules.specs.Answers.{asked}
use Rattle.language_rules.specs.AtOnce.{stated}
use Rattle.language_rules.specs.Builtins.{builtin_rule}
use Rattle.language_rules.specs.Chains.{opposite}
use Rattle.language_rules.specs.Codes.{Completion, Give}
use Rattle.language_rules.specs.Draining.{drains_kind, goes_over}
use Rattle.language_rules.specs.Going.{RuleTree, on_value, operates}
use Rattle.language_rules.specs.Kinds.{is_reference, on_kind}
use Rattle.language_rules.specs.Operators.{binary_rule, is_defined, left_out, object_rule, special_for, unary_rule, unasked_rule, value_rule}
use Rattle.language_rules.specs.PlainItems.{contains_in, contains_within, item_of, item_within, sequence_name}
use Rattle.language_rules.specs.Draining.{items_at_hand}
use Rattle.language_rules.specs.Printing.{gives_text, on_text, repr_step}
use Rattle.language_rules.specs.Running.{runs}
use Rattle.language_rules.specs.States.{State}
use Rattle.language_rules.specs.Truth.{on_bool, on_truth}
use Rattle.eval_frames.proofs.Operating.{operates_bound}
use Rattle.eval_frames.specs.declared.frame.Decision.{Decision}
use Rattle.eval_frames.specs.declared.frame.Decision.TheVariants as decision
use Rattle.eval_frames.specs.declared.frame.Frame.{Frame}
use Rattle.eval_frames.specs.declared.frame.Frame.TheVariants as frame
use Rattle.eval_frames.specs.declared.next.Next.{Next}
use Rattle.eval_frames.specs.declared.object_frames.OperationFrame.TheVariants as operation_frame
use Rattle.eval_frames.specs.declared.loop_frames.Collection.{Collection}
use Rattle.eval_frames.specs.declared.loop_frames.DrainFrame.TheVariants as drain_frame
use Rattle.eval_frames.specs.declared.loop_frames.Draining.TheVariants as draining
use Rattle.eval_frames.specs.LoopFrames.{container, drained}
use Rattle.eval_frames.specs.Meaning.{Means, RunsAs, decides, operates_over, rest, resume}
use Rattle.eval_exprs.proofs.Moving.{popped}
use Rattle.eval_exprs.proofs.Shapes.{each_reference, each_value}
use Rattle.eval_exprs.specs.Steps.{MeansAt, collection_for, drains_object, is_gone_over, takes_no_object, value_kind}

-- ---- an operation, and then what goes on

pub asked_bind : (o : Operation) (k : Completion → RuleTree) → bind (asked o) k ≡ operates o (λ a. Give a) k
asked_bind o k = operates_bound o (λ a. Give a) (λ a. Return a) k

-- ---- truth

abbrev TruthAsked : Decision → Value → Type 0
TruthAsked d v = operates_over (operation.Special v special.Bool []) (frame.Truth d v) ≡ on_truth v (decides d v)

pub truth_asked : (v copied : Value) (d : Decision) → copied ≡ v → is_reference v ≡ true → operates_over (operation.Special copied special.Bool []) (frame.Truth d v) ≡ on_truth v (decides d v)
truth_asked v copied d e h =
    ap (λ (w : Value). operates_over (operation.Special w special.Bool []) (frame.Truth d v)) e
    ∙ each_reference (TruthAsked d) (λ n. sym (asked_bind (operation.Special (value.Own n) special.Bool []) (on_bool (decides d (value.Own n)))))
    (λ id. sym (asked_bind (operation.Special (value.Proxy id) special.Bool []) (on_bool (decides d (value.Proxy id))))) v h

-- ---- builtin functions

abbrev LengthAsked : Value → Type 0
LengthAsked v = asked (operation.Special v special.Len []) ≡ builtin_rule builtin.Len (v ∷ [])

pub length_asked : (v : Value) → is_reference v ≡ true → asked (operation.Special v special.Len []) ≡ builtin_rule builtin.Len (v ∷ [])
unfolding builtin_rule
length_asked = each_reference LengthAsked (λ n. refl) (λ id. refl)

abbrev TextAsked : Value → Type 0
TextAsked v = operates_over (operation.Str v) (frame.Operation operation_frame.Text) ≡ builtin_rule builtin.Str (v ∷ [])

pub text_asked : (v : Value) → is_reference v ≡ true → operates_over (operation.Str v) (frame.Operation operation_frame.Text) ≡ builtin_rule builtin.Str (v ∷ [])
unfolding builtin_rule
text_asked = each_reference TextAsked (λ n. sym (asked_bind (operation.Str (value.Own n)) (on_text gives_text))) (λ id. sym (asked_bind (operation.Str (value.Proxy id)) (on_text gives_text)))

abbrev ReprAsked : Value → Type 0
ReprAsked v = operates_over (operation.Repr v) (frame.Operation operation_frame.Text) ≡ builtin_rule builtin.Repr (v ∷ [])

pub repr_asked : (v : Value) → is_reference v ≡ true → operates_over (operation.Repr v) (frame.Operation operation_frame.Text) ≡ builtin_rule builtin.Repr (v ∷ [])
unfolding builtin_rule repr_step
repr_asked = each_reference ReprAsked (λ n. sym (asked_bind (operation.Repr (value.Own n)) (on_text gives_text))) (λ id. sym (asked_bind (operation.Repr (value.Proxy id)) (on_text gives_text)))

pub bool_asked : (v : Value) → on_truth v (decides decision.Bool v) ≡ builtin_rule builtin.Bool (v ∷ [])
unfolding builtin_rule
bool_asked v = refl

abbrev Refused : Builtin → Value → Type 0
Refused f v = Stop beyond.Arguments ≡ builtin_rule f (v ∷ [])

pub object_refused : (f : Builtin) (v : Value) → takes_no_object f ≡ true → is_reference v ≡ true → Refused f v
unfolding builtin_rule
object_refused builtin.Int v g h = each_reference (Refused builtin.Int) (λ n. refl) (λ id. refl) v h
object_refused builtin.Abs v g h = each_reference (Refused builtin.Abs) (λ n. refl) (λ id. refl) v h
object_refused builtin.Ord v g h = each_reference (Refused builtin.Ord) (λ n. refl) (λ id. refl) v h
object_refused builtin.Chr v g h = each_reference (Refused builtin.Chr) (λ n. refl) (λ id. refl) v h
object_refused builtin.Dict v g h = refl
object_refused builtin.Range v g h = each_reference (Refused builtin.Range) (λ n. refl) (λ id. refl) v h
object_refused builtin.Print v g h = cc
object_refused builtin.Len v g h = cc
object_refused builtin.Str v g h = cc
object_refused builtin.Repr v g h = cc
object_refused builtin.Bool v g h = cc
object_refused builtin.List v g h = cc
object_refused builtin.Tuple v g h = cc
object_refused builtin.Min v g h = cc
object_refused builtin.Max v g h = cc
object_refused builtin.Sum v g h = cc
object_refused builtin.Sorted v g h = cc

-- what such a function does with an object that is gone over
abbrev over_items : Builtin → Value → RuleTree
over_items f v = goes_over (container (collection_for f)) v (drained (draining.Builtin f))

abbrev GoneOver : Builtin → Value → Type 0
GoneOver f v = builtin_rule f (v ∷ []) ≡ on_kind v (drains_kind (over_items f v))

pub object_gone_over : (f : Builtin) (v : Value) → drains_object f ≡ true → is_reference v ≡ true → GoneOver f v
unfolding builtin_rule
object_gone_over builtin.Tuple v g h = each_reference (GoneOver builtin.Tuple) (λ n. refl) (λ id. refl) v h
object_gone_over builtin.Min v g h = each_reference (GoneOver builtin.Min) (λ n. refl) (λ id. refl) v h
object_gone_over builtin.Max v g h = each_reference (GoneOver builtin.Max) (λ n. refl) (λ id. refl) v h
object_gone_over builtin.Sum v g h = each_reference (GoneOver builtin.Sum) (λ n. refl) (λ id. refl) v h
object_gone_over builtin.List v g h = each_reference (GoneOver builtin.List) (λ n. refl) (λ id. refl) v h
object_gone_over builtin.Sorted v g h = each_reference (GoneOver builtin.Sorted) (λ n. refl) (λ id. refl) v h
object_gone_over builtin.Print v g h = cc
object_gone_over builtin.Len v g h = cc
object_gone_over builtin.Str v g h = cc
object_gone_over builtin.Repr v g h = cc
object_gone_over builtin.Bool v g h = cc
object_gone_over builtin.Int v g h = cc
object_gone_over builtin.Abs v g h = cc
object_gone_over builtin.Ord v g h = cc
object_gone_over builtin.Chr v g h = cc
object_gone_over builtin.Dict v g h = cc
object_gone_over builtin.Range v g h = cc

pub gone_over_asked : (r : Result Next NoMemory) (now before : List Frame) (f : Builtin) (v : Value) (collection : Collection) (o : Operation) → collection ≡ collection_for f → o ≡ operation.Special v special.Iter []
    → IfOk r (λ n. Means now n (operates_over o (frame.Drain (drain_frame.Iterator collection (draining.Builtin f)))) before) → IfOk r (λ n. Means now n (over_items f v) before)
gone_over_asked r now before f v collection o e h =
    subst (λ (t : RuleTree). IfOk r (λ n. Means now n t before))
    (ap (λ (c : Collection). operates_over o (frame.Drain (drain_frame.Iterator c (draining.Builtin f)))) e
    ∙ ap (λ (x : Operation). operates_over x (frame.Drain (drain_frame.Iterator (collection_for f) (draining.Builtin f)))) h)

pub drains_over : (over : RuleTree) (k : Option Kind) → is_gone_over k ≡ true → drains_kind over k ≡ over
drains_over over (Some kind.List) h = refl
drains_over over (Some kind.Dict) h = refl
drains_over over (Some kind.Range) h = refl
drains_over over (Some kind.View) h = refl
drains_over over (Some kind.Function) h = cc
drains_over over (Some kind.Class) h = cc
drains_over over (Some kind.Instance) h = cc
drains_over over (Some kind.Bound) h = cc
drains_over over (Some kind.Iter) h = cc
drains_over over (Some kind.Namespace) h = cc
drains_over over (Some kind.Root) h = cc
drains_over over (Some kind.Host) h = cc
drains_over over (Some kind.HostFunc) h = cc
drains_over over (Some kind.Conn) h = cc
drains_over over (Some kind.Modules) h = cc
drains_over over None h = cc

-- ---- kinds

own_looked : (n : ℕ) (f : Option Kind → RuleTree) (k : Completion → RuleTree) (fixed : State) (cells : List Cell) (texts : List Program) → RunsAs (stated fixed cells texts) (bind (on_kind (value.Own n) f) k) (bind (f (value_kind cells (value.Own n))) k)
own_looked zero f k fixed cells texts units printed = refl
own_looked (suc n) f k fixed cells texts units printed = refl

abbrev KindLooked : Value → Type 0
KindLooked v = (f : Option Kind → RuleTree) (k : Completion → RuleTree) (fixed : State) (cells : List Cell) (texts : List Program) → RunsAs (stated fixed cells texts) (bind (on_kind v f) k) (bind (f (value_kind cells v)) k)

pub kind_looked : (v : Value) → KindLooked v
kind_looked = each_value KindLooked (λ p f k fixed cells texts units printed. refl) (λ vs f k fixed cells texts units printed. refl) own_looked (λ id f k fixed cells texts units printed. refl)

-- a function that goes over an object, by the kind that the object has
at_kind : (n : Next) (now before : List Frame) (f : Builtin) (v : Value) (kind : Option Kind) (cells : List Cell) → drains_object f ≡ true → is_reference v ≡ true → kind ≡ value_kind cells v
    → Means now n (drains_kind (over_items f v) kind) before → MeansAt cells now n (builtin_rule f (v ∷ [])) before
at_kind n now before f v kind cells g h e m = λ fixed texts units printed.
    ap (λ (t : RuleTree). runs units (bind t (rest (reverse before))) (stated fixed cells texts) printed) (object_gone_over f v g h)
    ∙ kind_looked v (drains_kind (over_items f v)) (rest (reverse before)) fixed cells texts units printed
    ∙ ap (λ (o : Option Kind). runs units (bind (drains_kind (over_items f v) o) (rest (reverse before))) (stated fixed cells texts) printed) (sym e)
    ∙ ap (λ (t : RuleTree). runs units t (stated fixed cells texts) printed) (sym m)

pub kind_refused : (r : Result Next NoMemory) (stack : List Frame) (f : Builtin) (v : Value) (kind : Option Kind) (cells : List Cell) → drains_object f ≡ true → is_reference v ≡ true → kind ≡ value_kind cells v
    → IfOk r (λ n. (over : RuleTree) (stack : List Frame) → Means stack n (drains_kind over kind) stack)
    → IfOk r (λ n. MeansAt cells stack n (builtin_rule f (v ∷ [])) stack)
kind_refused (Ok n) stack f v kind cells g h e m = at_kind n stack stack f v kind cells g h e (m (over_items f v) stack)
kind_refused (Err x) stack f v kind cells g h e m = tt

pub kind_gone_over : (r : Result Next NoMemory) (now before : List Frame) (f : Builtin) (v : Value) (kind : Option Kind) (cells : List Cell) → drains_object f ≡ true → is_reference v ≡ true → kind ≡ value_kind cells v → is_gone_over kind ≡ true
    → IfOk r (λ n. Means now n (over_items f v) before)
    → IfOk r (λ n. MeansAt cells now n (builtin_rule f (v ∷ [])) before)
kind_gone_over (Ok n) now before f v kind cells g h e over m = at_kind n now before f v kind cells g h e (m ∙ ap (λ (t : RuleTree). bind t (rest (reverse before))) (sym (drains_over (over_items f v) kind over)))
kind_gone_over (Err x) now before f v kind cells g h e over m = tt

-- ---- operators

abbrev NegationAsked : Value → Type 0
NegationAsked v = asked (operation.Special v special.Neg []) ≡ unary_rule unary_op.Neg v

pub negation_asked : (v : Value) → is_reference v ≡ true → asked (operation.Special v special.Neg []) ≡ unary_rule unary_op.Neg v
unfolding unary_rule
negation_asked = each_reference NegationAsked (λ n. refl) (λ id. refl)

pub item_asked : (v key : Value) → is_reference v ≡ true → asked (operation.Special v special.GetItem (key ∷ [])) ≡ item_of v key
unfolding item_of
item_asked v key h = sym (ap (λ (b : Bool). if b then asked (operation.Special v special.GetItem (key ∷ [])) else item_within (sequence_name v) key (items_at_hand v)) h)

pub object_operates : (o : BinaryOp) (a b : Value) → is_reference a ≡ true → object_rule (special_for o) o a b ≡ binary_rule o a b
unfolding binary_rule
object_operates o a b h = sym (ap (λ (x : Bool). if x then object_rule (special_for o) o a b else (if is_reference b then unasked_rule o a b else value_rule o a b)) h)

pub object_beside : (o : BinaryOp) (a b : Value) → is_reference a ≡ false → is_reference b ≡ true → unasked_rule o a b ≡ binary_rule o a b
unfolding binary_rule
object_beside o a b g h =
    sym (ap (λ (x : Bool). if x then object_rule (special_for o) o a b else (if is_reference b then unasked_rule o a b else value_rule o a b)) g
    ∙ ap (λ (x : Bool). if x then unasked_rule o a b else value_rule o a b) h)

pub special_asked : (o : BinaryOp) (a b : Value) (found as_told : Option Special) → found ≡ special_for o → found ≡ as_told → object_rule as_told o a b ≡ object_rule (special_for o) o a b
special_asked o a b found as_told h e = ap (λ (x : Option Special). object_rule x o a b) (sym e ∙ h)

pub unasked : (r : Result Next NoMemory) (o : BinaryOp) (a b : Value) (k l : Option Kind) (defined : Bool) (cells : List Cell) → k ≡ value_kind cells a → l ≡ value_kind cells b
    → defined ≡ is_defined o (a, k) (b, l)
    → IfOk r (λ n. (stack : List Frame) → Means stack n (left_out defined) stack)
    → IfOk r (λ n. (stack : List Frame) → MeansAt cells stack n (unasked_rule o a b) stack)
unasked (Ok n) o a b k l defined cells e f g m = λ stack fixed texts units printed.
    kind_looked a (λ i. on_kind b (λ j. left_out (is_defined o (a, i) (b, j)))) (rest (reverse stack)) fixed cells texts units printed
    ∙ kind_looked b (λ j. left_out (is_defined o (a, value_kind cells a) (b, j))) (rest (reverse stack)) fixed cells texts units printed
    ∙ ap (λ (i : Option Kind). runs units (bind (left_out (is_defined o (a, i) (b, value_kind cells b))) (rest (reverse stack))) (stated fixed cells texts) printed) (sym e)
    ∙ ap (λ (j : Option Kind). runs units (bind (left_out (is_defined o (a, k) (b, j))) (rest (reverse stack))) (stated fixed cells texts) printed) (sym f)
    ∙ ap (λ (x : Bool). runs units (bind (left_out x) (rest (reverse stack))) (stated fixed cells texts) printed) (sym g)
    ∙ ap (λ (t : RuleTree). runs units t (stated fixed cells texts) printed) (sym (m stack))
unasked (Err x) o a b k l defined cells e f g m = tt

-- ---- membership

pub container_asked : (v x : Value) → is_reference v ≡ true → asked (operation.Special v special.Contains (x ∷ [])) ≡ contains_in v x
container_asked v x h = sym (ap (λ (b : Bool). if b then asked (operation.Special v special.Contains (x ∷ [])) else contains_within v x) h)

pub other_container_asked : (v x : Value) → is_reference v ≡ true
    → operates_over (operation.Special v special.Contains (x ∷ [])) (frame.Operation operation_frame.Opposite) ≡ bind (contains_in v x) (on_value opposite)
other_container_asked v x h =
    sym (asked_bind (operation.Special v special.Contains (x ∷ [])) (on_value opposite))
    ∙ ap (λ (t : RuleTree). bind t (on_value opposite)) (container_asked v x h)

-- ---- an operation over a frame

pub asked_over : (n : Next) (before over : List Frame) (f : Frame) (o : Operation) → over ≡ before ++ f ∷ [] → ((stack : List Frame) → Means stack n (asked o) stack) → Means over n (operates_over o f) before
asked_over n before over f o e h =
    h over
    ∙ ap (λ (fs : List Frame). bind (asked o) (rest (reverse fs))) e
    ∙ sym (popped before f (asked o))
    ∙ ap (λ (t : RuleTree). bind t (rest (reverse before))) (asked_bind o (resume f))
