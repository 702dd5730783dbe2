-- What is printed one after another, in every run.
use Rattle.std.proofs.Common.{◌≡◌, ℕ, ◌∷◌, ◌++◌, [], List, reverse, codes, Option, Some, None, true, Result, Ok, Err, IfOk, refl, sym, ◌∙◌, ap, subst}
use Rattle.std.proofs.lemmas.List.{reverse-append}
use Rattle.rp_base.specs.declared.ends.NoMemory.{NoMemory}
use Rattle.rp_base.specs.declared.ends.OpEnd.{OpEnd}
use Rattle.rp_base.specs.declared.ends.OpEnd.TheVariants as op_end
use Rattle.rp_base.specs.declared.exceptions.Beyond.{Beyond}
use Rattle.rp_base.specs.declared.exceptions.Beyond.TheVariants as beyond
use Rattle.rp_base.specs.declared.value.Value.{Value}
use Rattle.rp_base.specs.declared.value.Value.TheVariants as value
use Rattle.object_operations.specs.declared.operation.Operation.TheVariants as operation
use Rattle.side_trees.specs.Trees.{Return, Stop, bind}
use Rattle.language_rules.specs.Codes.{Give, Leaves, Step}
use Rattle.language_rules.specs.Going.{RuleTree, asked_step, carry, done}
use Rattle.language_rules.specs.Kinds.{is_reference}
use Rattle.language_rules.specs.Output.{prints, prints_further, writes, writes_line_end}
use Rattle.language_rules.specs.Printing.{gives_text, on_str, on_text, repr_step}
use Rattle.language_rules.specs.Running.{runs}
use Rattle.language_rules.specs.States.{State}
use Rattle.eval_frames.proofs.Operating.{operates_bound}
use Rattle.eval_frames.specs.declared.frame.Frame.{Frame}
use Rattle.eval_frames.specs.declared.frame.Frame.TheVariants as frame
use Rattle.eval_frames.specs.declared.next.Next.{Next}
use Rattle.eval_frames.specs.declared.next.Next.TheVariants as next
use Rattle.eval_frames.specs.declared.object_frames.PrintingFrame.TheVariants as printing_frame
use Rattle.eval_frames.specs.Meaning.{Means, MeansIn, operates_over, rest}
use Rattle.eval_frames.specs.declared.list_frames.TupleLevel.{TupleLevel}
use Rattle.eval_tuple_texts.proofs.TextLaws.{text_goes_on}
use Rattle.eval_tuple_texts.specs.TextLevels.{Shows, texts_around}
use Rattle.eval_tuple_texts.specs.declared.tuples.TupleText.{TupleText}
use Rattle.eval_tuple_texts.specs.declared.tuples.TupleText.TheVariants as tuple_text
use Rattle.print_output.specs.Printed.{PrintsAs, PrintsOver, PrintsTo, RunsOn, counted, left_behind, left_to_print, prints_from}

-- ---- one after another

pub then_on : (t middle last : RuleTree) (before between now : List ℕ) → RunsOn t before middle between → RunsOn middle between last now → RunsOn t before last now
then_on t middle last before between now first second = λ fixed units k. first fixed units k ∙ second fixed units k

module _ (A B : Type 0) where
  -- an end that is not Ok says nothing of what would have followed
  pub ends_to : (e : OpEnd) (t next : RuleTree) (f : A → RuleTree) (before now : List ℕ) → PrintsAs {A = B} t next (Err e) before now → PrintsTo {A = A} t f (Err e) before now
  ends_to (op_end.Raise r) t next f before now h = h
  ends_to (op_end.Beyond b) t next f before now h = h
  ends_to op_end.NoMemory t next f before now h = h

  -- the same, where the end comes of what follows
  pub ends_later : (e : OpEnd) (t middle : RuleTree) (f : A → RuleTree) (g : B → RuleTree) (before between now : List ℕ) → RunsOn t before middle between → PrintsTo {A = B} middle g (Err e) between now → PrintsTo {A = A} t f (Err e) before now
  ends_later (op_end.Raise r) t middle f g before between now first second = second
  ends_later (op_end.Beyond b) t middle f g before between now first second = λ fixed units k. first fixed units k ∙ second fixed units k
  ends_later op_end.NoMemory t middle f g before between now first second = second

module _ (A : Type 0) where
  pub behind_to : (r : Result A OpEnd) (t middle : RuleTree) (f : A → RuleTree) (before between now : List ℕ) → RunsOn t before middle between → PrintsTo {A = A} middle f r between now → PrintsTo {A = A} t f r before now
  behind_to (Ok a) t middle f before between now first second = λ fixed units k. first fixed units k ∙ second fixed units k
  behind_to (Err (op_end.Raise r)) t middle f before between now first second = second
  behind_to (Err (op_end.Beyond b)) t middle f before between now first second = λ fixed units k. first fixed units k ∙ second fixed units k
  behind_to (Err op_end.NoMemory) t middle f before between now first second = second

-- the last of the values that wait is the next one
pub next_waits : (t : RuleTree) (before between : List ℕ) (waiting rest : List Value) (v : Value) → waiting ≡ rest ++ v ∷ [] → RunsOn t before (prints_further (reverse waiting)) between → RunsOn t before (prints_further (v ∷ reverse rest)) between
next_waits t before between waiting rest v is first = λ fixed units k.
    first fixed units k
    ∙ ap (λ (vs : List Value). runs units (bind (prints_further (reverse vs)) k) (counted fixed between) between) is
    ∙ ap (λ (vs : List Value). runs units (bind (prints_further vs) k) (counted fixed between) between) (reverse-append rest (v ∷ []))

pub none_waits : (t : RuleTree) (before between : List ℕ) (waiting : List Value) → waiting ≡ [] → RunsOn t before (prints_further (reverse waiting)) between → RunsOn t before writes_line_end between
none_waits t before between waiting is first = λ fixed units k.
    first fixed units k ∙ ap (λ (vs : List Value). runs units (bind (prints_further (reverse vs)) k) (counted fixed between) between) is

-- ---- the steps of what waits

abbrev pub Answer : Type 0
Answer = Result (Option Value) OpEnd

-- a value, told for whatever is behind it
abbrev pub TellsBehind : (List Value → RuleTree) → Answer → List ℕ → List ℕ → Type 0
TellsBehind t answer before now = (others : List Value) → PrintsTo (t others) (left_behind others) answer before now

pub value_printed : (t : RuleTree) (before between now : List ℕ) (waiting rest : List Value) (v : Value) (answer : Answer) → waiting ≡ rest ++ v ∷ [] → RunsOn t before (prints_further (reverse waiting)) between
    → TellsBehind (λ others. prints_further (v ∷ others)) answer between now → answer ≡ Ok None → RunsOn t before (prints_further (reverse rest)) now
value_printed t before between now waiting rest v answer is first told ok =
    then_on t (prints_further (v ∷ reverse rest)) (prints_further (reverse rest)) before between now (next_waits t before between waiting rest v is first)
    (subst (λ (r : Answer). PrintsTo (prints_further (v ∷ reverse rest)) (left_behind (reverse rest)) r between now) ok (told (reverse rest)))

pub value_left : (t : RuleTree) (before between now : List ℕ) (waiting rest : List Value) (v w : Value) (answer : Answer) → waiting ≡ rest ++ v ∷ [] → RunsOn t before (prints_further (reverse waiting)) between
    → TellsBehind (λ others. prints_further (v ∷ others)) answer between now → answer ≡ Ok (Some w) → RunsOn t before (prints_from w (reverse rest)) now
value_left t before between now waiting rest v w answer is first told ok =
    then_on t (prints_further (v ∷ reverse rest)) (prints_from w (reverse rest)) before between now (next_waits t before between waiting rest v is first)
    (subst (λ (r : Answer). PrintsTo (prints_further (v ∷ reverse rest)) (left_behind (reverse rest)) r between now) ok (told (reverse rest)))

pub value_ended : (t : RuleTree) (f : Option Value → RuleTree) (before between now : List ℕ) (waiting rest : List Value) (v : Value) (e : OpEnd) (answer : Answer) → waiting ≡ rest ++ v ∷ [] → RunsOn t before (prints_further (reverse waiting)) between
    → TellsBehind (λ others. prints_further (v ∷ others)) answer between now → answer ≡ Err e → PrintsTo {A = Option Value} t f (Err e) before now
value_ended t f before between now waiting rest v e answer is first told bad =
    ends_later (Option Value) (Option Value) e t (prints_further (v ∷ reverse rest)) f (left_behind (reverse rest)) before between now (next_waits t before between waiting rest v is first)
    (subst (λ (r : Answer). PrintsTo (prints_further (v ∷ reverse rest)) (left_behind (reverse rest)) r between now) bad (told (reverse rest)))

-- the line end
pub line_printed : (t : RuleTree) (before between now : List ℕ) (waiting : List Value) (u : Unit {0}) (answer : Result (Unit {0}) OpEnd) → waiting ≡ [] → RunsOn t before (prints_further (reverse waiting)) between
    → PrintsAs writes_line_end (Return done) answer between now → answer ≡ Ok u → RunsOn t before (Return done) now
line_printed t before between now waiting u answer is first told ok =
    then_on t writes_line_end (Return done) before between now (none_waits t before between waiting is first)
    (subst (λ (r : Result (Unit {0}) OpEnd). PrintsAs writes_line_end (Return done) r between now) ok told)

as_to : (B : Type 0) (t next : RuleTree) (e : OpEnd) (before now : List ℕ) → PrintsAs {A = B} t next (Err e) before now → PrintsTo {A = B} t (λ b. next) (Err e) before now
as_to B t next (op_end.Raise r) before now h = h
as_to B t next (op_end.Beyond b) before now h = h
as_to B t next op_end.NoMemory before now h = h

pub line_ended : (t : RuleTree) (f : Option Value → RuleTree) (before between now : List ℕ) (waiting : List Value) (e : OpEnd) (answer : Result (Unit {0}) OpEnd) → waiting ≡ [] → RunsOn t before (prints_further (reverse waiting)) between
    → PrintsAs writes_line_end (Return done) answer between now → answer ≡ Err e → PrintsTo {A = Option Value} t f (Err e) before now
line_ended t f before between now waiting e answer is first told bad =
    ends_later (Option Value) (Unit {0}) e t writes_line_end f (λ u. Return done) before between now (none_waits t before between waiting is first)
    (as_to (Unit {0}) writes_line_end (Return done) e between now (subst (λ (r : Result (Unit {0}) OpEnd). PrintsAs writes_line_end (Return done) r between now) bad told))

-- ---- one value

pub spaced : (v : Value) (u : Unit {0}) (before between now : List ℕ) (piece : Result (Unit {0}) OpEnd) (answer : Answer) → ((next : RuleTree) → PrintsAs (writes (codes " ") next) next piece before between) → piece ≡ Ok u
    → TellsBehind (prints_from v) answer between now → TellsBehind (λ others. prints_further (v ∷ others)) answer before now
spaced v u before between now piece answer first ok told = λ others.
    behind_to (Option Value) answer (prints_further (v ∷ others)) (prints_from v others) (left_behind others) before between now
    (subst (λ (r : Result (Unit {0}) OpEnd). PrintsAs (prints_further (v ∷ others)) (prints_from v others) r before between) ok (first (prints_from v others))) (told others)

pub unspaced : (v : Value) (e : OpEnd) (before now : List ℕ) (piece : Result (Unit {0}) OpEnd) → ((next : RuleTree) → PrintsAs (writes (codes " ") next) next piece before now) → piece ≡ Err e
    → TellsBehind (λ others. prints_further (v ∷ others)) (Err e) before now
unspaced v e before now piece first bad = λ others.
    ends_to (Option Value) (Unit {0}) e (prints_further (v ∷ others)) (prints_from v others) (left_behind others) before now
    (subst (λ (r : Result (Unit {0}) OpEnd). PrintsAs (prints_further (v ∷ others)) (prints_from v others) r before now) bad (first (prints_from v others)))

pub plain_printed : (v : Value) (u : Unit {0}) (before now : List ℕ) (piece : Result (Unit {0}) OpEnd) → ((next : RuleTree) → PrintsAs (on_str v (λ t. writes t next)) next piece before now) → piece ≡ Ok u → TellsBehind (prints_from v) (Ok None) before now
plain_printed v u before now piece told ok = λ others. subst (λ (r : Result (Unit {0}) OpEnd). PrintsAs (prints_from v others) (prints_further others) r before now) ok (told (prints_further others))

pub plain_ended : (v : Value) (e : OpEnd) (before now : List ℕ) (piece : Result (Unit {0}) OpEnd) → ((next : RuleTree) → PrintsAs (on_str v (λ t. writes t next)) next piece before now) → piece ≡ Err e → TellsBehind (prints_from v) (Err e) before now
plain_ended v e before now piece told bad = λ others.
    ends_to (Option Value) (Unit {0}) e (prints_from v others) (prints_further others) (left_behind others) before now
    (subst (λ (r : Result (Unit {0}) OpEnd). PrintsAs (prints_from v others) (prints_further others) r before now) bad (told (prints_further others)))

-- ---- over a stack

pub over_given : (t : RuleTree) (stack : List Frame) (before after : List ℕ) → RunsOn t before (Return done) after → PrintsOver t stack before stack (next.Give done) after
over_given t stack before after h = λ fixed units. h fixed units (rest (reverse stack))

pub over_left : (t : RuleTree) (stack : List Frame) (before after : List ℕ) (b : Beyond) → RunsOn t before (Stop b) after → PrintsOver t stack before stack (next.Leave b) after
over_left t stack before after b h = λ fixed units. h fixed units (rest (reverse stack))

pub over_asked : (t middle : RuleTree) (now stack : List Frame) (before after : List ℕ) (result : Result Next NoMemory) → RunsOn t before middle after
    → IfOk result (λ n. (s : State) → MeansIn s now n middle stack) → IfOk result (λ n. PrintsOver t stack before now n after)
over_asked t middle now stack before after (Ok n) first h = λ fixed units.
    first fixed units (rest (reverse stack)) ∙ h (counted fixed after) units after
over_asked t middle now stack before after (Err e) first h = h

pub first_asked : (t : RuleTree) (now stack : List Frame) (before : List ℕ) (result : Result Next NoMemory) → IfOk result (λ n. (s : State) → MeansIn s now n t stack) → IfOk result (λ n. PrintsOver t stack before now n before)
first_asked t now stack before result h = over_asked t t now stack before before result (λ fixed units k. refl) h

pub over_behind : (t middle : RuleTree) (now stack : List Frame) (before between after : List ℕ) (result : Result Next NoMemory) → RunsOn t before middle between
    → IfOk result (λ n. PrintsOver middle stack between now n after) → IfOk result (λ n. PrintsOver t stack before now n after)
over_behind t middle now stack before between after (Ok n) first h = λ fixed units. first fixed units (rest (reverse stack)) ∙ h fixed units
over_behind t middle now stack before between after (Err e) first h = h

-- the same values, told otherwise
pub over_same : (xs ys : List Value) (now stack : List Frame) (before after : List ℕ) (result : Result Next NoMemory) → xs ≡ ys
    → IfOk result (λ n. PrintsOver (prints xs) stack before now n after) → IfOk result (λ n. PrintsOver (prints ys) stack before now n after)
over_same xs ys now stack before after result is h = subst (λ (vs : List Value). IfOk result (λ n. PrintsOver (prints vs) stack before now n after)) is h

-- ---- a text that is asked

reference_asked : (v : Value) (others : List Value) → is_reference v ≡ true → prints_from v others ≡ bind (carry (asked_step (operation.Str v))) (on_text (λ t. writes t (prints_further others)))
reference_asked (value.Own n) others h = refl
reference_asked (value.Proxy id) others h = refl
reference_asked _ others h = cc

pub text_asked : (v : Value) (waiting : List Value) (now stack : List Frame) (result : Result Next NoMemory) → is_reference v ≡ true
    → IfOk result (λ n. Means now n (operates_over (operation.Str v) (frame.Printing (printing_frame.Print waiting))) stack)
    → IfOk result (λ n. (s : State) → MeansIn s now n (prints_from v (reverse waiting)) stack)
text_asked v waiting now stack (Ok n) is h = λ s units printed. ap (λ (t : RuleTree). runs units t s printed) (sym (
    h
    ∙ ap (λ (t : RuleTree). bind t (rest (reverse stack))) (sym (operates_bound (operation.Str v) (λ a. Give a) (λ a. Return a) (on_text (λ t. writes t (prints_further (reverse waiting))))))
    ∙ ap (λ (t : RuleTree). bind t (rest (reverse stack))) (sym (reference_asked v (reverse waiting) is))))
text_asked v waiting now stack (Err e) is h = h

-- an object within a tuple
pub tuple_asked : (vs waiting : List Value) (levels : List TupleLevel) (v : Value) (o : TupleText) (now over stack : List Frame) (result : Result Next NoMemory) → o ≡ tuple_text.Asked levels v → Shows (repr_step (value.Tuple vs)) o
    → over ≡ stack ++ frame.Printing (printing_frame.Print waiting) ∷ []
    → IfOk result (λ n. (s : State) → is_reference v ≡ true → MeansIn s now n (bind (carry (texts_around (reverse levels) (repr_step v))) (on_text gives_text)) over)
    → IfOk result (λ n. (s : State) → MeansIn s now n (prints_from (value.Tuple vs) (reverse waiting)) stack)
tuple_asked vs waiting levels v o now over stack (Ok n) is shows pushed h = λ s units printed.
    let there : (repr_step (value.Tuple vs) ≡ texts_around (reverse levels) (repr_step v)) × (is_reference v ≡ true) = subst (λ (x : TupleText). Shows (repr_step (value.Tuple vs)) x) is shows in
    let writing : List ℕ → RuleTree = λ t. writes t (prints_further (reverse waiting)) in
    ap (λ (t : Step). runs units (bind (bind (carry t) (on_text writing)) (rest (reverse stack))) s printed) there.0
    ∙ ap (λ (t : RuleTree). runs units t s printed) (text_goes_on (carry (texts_around (reverse levels) (repr_step v))) writing (rest (reverse stack)))
    ∙ ap (λ (fs : List Frame). runs units (bind (bind (carry (texts_around (reverse levels) (repr_step v))) (on_text gives_text)) (rest fs)) s printed) (sym (ap (λ (fs : List Frame). reverse fs) pushed ∙ reverse-append stack (frame.Printing (printing_frame.Print waiting) ∷ [])))
    ∙ h s there.1 units printed
tuple_asked vs waiting levels v o now over stack (Err e) is shows pushed h = tt

pub tuple_long : (vs waiting : List Value) (o : TupleText) (stack : List Frame) → o ≡ tuple_text.TooLong → Shows (repr_step (value.Tuple vs)) o → (s : State) → MeansIn s stack (next.Leave beyond.Size) (prints_from (value.Tuple vs) waiting) stack
tuple_long vs waiting o stack is shows s units printed =
    let there : repr_step (value.Tuple vs) ≡ Leaves beyond.Size = subst (λ (x : TupleText). Shows (repr_step (value.Tuple vs)) x) is shows in
    ap (λ (t : Step). runs units (bind (bind (carry t) (on_text (λ u. writes u (prints_further waiting)))) (rest (reverse stack))) s printed) there

pub value_as : (v : Value) (vs waiting : List Value) (now stack : List Frame) (result : Result Next NoMemory) → v ≡ value.Tuple vs → IfOk result (λ n. (s : State) → MeansIn s now n (prints_from (value.Tuple vs) waiting) stack) → IfOk result (λ n. (s : State) → MeansIn s now n (prints_from v waiting) stack)
value_as v vs waiting now stack result is h = subst (λ (w : Value). IfOk result (λ n. (s : State) → MeansIn s now n (prints_from w waiting) stack)) (sym is) h

-- ---- over a stack, by the answer of a step

pub all_printed : (t : RuleTree) (waiting : List Value) (stack : List Frame) (before after : List ℕ) (answer : Answer) → PrintsTo t (left_to_print waiting) answer before after → answer ≡ Ok None → PrintsOver t stack before stack (next.Give done) after
all_printed t waiting stack before after answer told ok = over_given t stack before after (subst (λ (r : Answer). PrintsTo t (left_to_print waiting) r before after) ok told)

pub rest_asked : (t : RuleTree) (waiting : List Value) (v : Value) (now stack : List Frame) (before after : List ℕ) (answer : Answer) (result : Result Next NoMemory) → PrintsTo t (left_to_print waiting) answer before after → answer ≡ Ok (Some v)
    → IfOk result (λ n. (s : State) → MeansIn s now n (prints_from v waiting) stack) → IfOk result (λ n. PrintsOver t stack before now n after)
rest_asked t waiting v now stack before after answer result told ok h =
    over_asked t (prints_from v waiting) now stack before after result (subst (λ (r : Answer). PrintsTo t (left_to_print waiting) r before after) ok told) h

pub limit_passed : (t : RuleTree) (waiting : List Value) (b : Beyond) (stack : List Frame) (before after : List ℕ) (answer : Answer) → PrintsTo t (left_to_print waiting) answer before after → answer ≡ Err (op_end.Beyond b) → PrintsOver t stack before stack (next.Leave b) after
limit_passed t waiting b stack before after answer told bad = over_left t stack before after b (subst (λ (r : Answer). PrintsTo t (left_to_print waiting) r before after) bad told)

-- a piece, and what comes behind it
pub piece_written : (t middle : RuleTree) (u : Unit {0}) (now stack : List Frame) (before between after : List ℕ) (answer : Result (Unit {0}) OpEnd) (result : Result Next NoMemory) → PrintsAs t middle answer before between → answer ≡ Ok u
    → IfOk result (λ n. PrintsOver middle stack between now n after) → IfOk result (λ n. PrintsOver t stack before now n after)
piece_written t middle u now stack before between after answer result told ok h =
    over_behind t middle now stack before between after result (subst (λ (r : Result (Unit {0}) OpEnd). PrintsAs t middle r before between) ok told) h

-- an end that is not Ok says nothing of what would have followed
other_next : (t middle next : RuleTree) (e : OpEnd) (before after : List ℕ) → PrintsAs {A = Unit {0}} t middle (Err e) before after → PrintsAs {A = Unit {0}} t next (Err e) before after
other_next t middle next (op_end.Raise r) before after h = h
other_next t middle next (op_end.Beyond b) before after h = h
other_next t middle next op_end.NoMemory before after h = h

pub piece_refused : (t middle : RuleTree) (e : OpEnd) (stack : List Frame) (before after : List ℕ) (answer : Result (Unit {0}) OpEnd) (result : Result Next NoMemory) → PrintsAs t middle answer before after → answer ≡ Err e
    → IfOk result (λ n. (u : RuleTree) (fs : List Frame) (old new : List ℕ) → PrintsAs {A = Unit {0}} u (Return done) (Err e) old new → PrintsOver u fs old fs n new)
    → IfOk result (λ n. PrintsOver t stack before stack n after)
piece_refused t middle e stack before after answer (Ok n) told bad h =
    h t stack before after (other_next t middle (Return done) e before after (subst (λ (r : Result (Unit {0}) OpEnd). PrintsAs t middle r before after) bad told))
piece_refused t middle e stack before after answer (Err x) told bad h = tt
