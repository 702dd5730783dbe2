-- An item of a list or a dict that is a tuple which holds objects.
use Rattle.std.proofs.Common.{◌≡◌, ◌==◌, ◌++◌, [], ◌∷◌, ℕ, suc, true, false, List, Result, Ok, Err, IfOk, drop, reverse, refl, sym, ◌∙◌, ap, subst}
use Rattle.std.proofs.lemmas.List.{reverse-append}
use mathlib.Core.Path.{fun_ext}
use Rattle.rp_base.specs.declared.ends.NoMemory.{NoMemory}
use Rattle.rp_base.specs.declared.exceptions.Beyond.TheVariants as beyond
use Rattle.rp_base.specs.declared.value.Value.{Value}
use Rattle.rp_base.specs.declared.value.Value.TheVariants as value
use Rattle.object_operations.specs.declared.operation.Operation.{Operation}
use Rattle.object_operations.specs.declared.operation.Operation.TheVariants as operation
use Rattle.side_trees.proofs.BindLaw.{bind-bind}
use Rattle.side_trees.specs.Trees.{Return, Stop, bind}
use Rattle.language_rules.specs.Codes.{Asks, Code, Completion, Ends, Give, Go, Leaves, Step, Then}
use Rattle.language_rules.specs.Going.{RuleTree, carry, operates, value_step}
use Rattle.language_rules.specs.Kinds.{is_reference}
use Rattle.language_rules.specs.Printing.{adds_part, adds_step, gives_text, on_text, prints_entries, prints_items, repr_step, text_value_step}
use Rattle.language_rules.specs.Rules.{expand}
use Rattle.language_rules.specs.Running.{runs}
use Rattle.language_rules.specs.Searching.{reads_dict, reads_list}
use Rattle.language_rules.specs.States.{State}
use Rattle.eval_frames.proofs.Operating.{code_goes_on}
use Rattle.eval_frames.specs.declared.frame.Frame.{Frame}
use Rattle.eval_frames.specs.declared.frame.Frame.TheVariants as frame
use Rattle.eval_frames.specs.declared.list_frames.TextFrame.{TextFrame}
use Rattle.eval_frames.specs.declared.list_frames.TextFrame.TheVariants as text_frame
use Rattle.eval_frames.specs.declared.list_frames.TupleLevel.{TupleLevel}
use Rattle.eval_frames.specs.declared.next.Next.{Next}
use Rattle.eval_frames.specs.declared.next.Next.TheVariants as next
use Rattle.eval_frames.specs.ListFrames.{through_text}
use Rattle.eval_frames.specs.Meaning.{MeansIn, rest}
use Rattle.eval_tuple_texts.proofs.TextLaws.{text_goes_on}
use Rattle.eval_tuple_texts.specs.declared.tuples.TupleText.{TupleText}
use Rattle.eval_tuple_texts.specs.declared.tuples.TupleText.TheVariants as tuple_text
use Rattle.eval_tuple_texts.specs.TextLevels.{Shows, behind_item, texts_around}
use Rattle.eval_texts.specs.Texts.{GoesOnAs, TakesText, item_text}

-- the item by the step that its text is
abbrev of_step : (Completion → Code) → List ℕ → (List ℕ → RuleTree) → Step → RuleTree
of_step f before go t = elim t [
  | Ends a ↦ on_text (λ u. adds_part before u go) a
  | Leaves b ↦ Stop b
  | Asks o c ↦ operates o (λ a. Then (c a) f) (λ a. Return a)
]

reference_asks : (v : Value) → is_reference v ≡ true → repr_step v ≡ Asks (operation.Repr v) (λ a. Give a)
unfolding repr_step
reference_asks (value.Own n) h = refl
reference_asks (value.Proxy id) h = refl
reference_asks _ h = cc

-- what is asked within levels is asked first
asks_first : (ls : List TupleLevel) (o : Operation) (c : Completion → Code) → (d : Completion → Code) × (texts_around ls (Asks o c) ≡ Asks o d)
asks_first [] o c = (c, refl)
asks_first (l ∷ ls) o c = asks_first ls o (λ a. Then (c a) (λ e. Go (value_step (text_value_step (λ t. adds_step l.made t (behind_item l.is_single (reverse l.waiting)))) e)))

-- a frame takes a text, and nothing else
taken : (fr : TextFrame) (t : RuleTree) (k : Completion → RuleTree) → TakesText fr → bind t (λ r. bind (through_text fr r) k) ≡ bind (bind t (on_text gives_text)) (λ r. bind (through_text fr r) k)
taken (text_frame.List n i made) t k h =
    let f : List ℕ → RuleTree = λ u. adds_part made u (λ after. reads_list n (λ items. prints_items n (suc i) after (drop (suc i) items))) in
    sym (bind-bind t (on_text f) k) ∙ text_goes_on t f k
taken (text_frame.Dict n shape i made) t k h =
    let f : List ℕ → RuleTree = λ u. reads_dict n (λ entries now. elim (now == shape) [ true ↦ adds_part made u (λ after. prints_entries n shape (suc i) after (drop (suc i) entries)) | false ↦ Stop beyond.Changed ]) in
    sym (bind-bind t (on_text f) k) ∙ text_goes_on t f k
taken _ t k h = absurd h

pub tuple_asked : (v w obj : Value) (levels : List TupleLevel) (shown : TupleText) (fr : TextFrame) (r : Result Next NoMemory) (now over before : List Frame) → w ≡ v → shown ≡ tuple_text.Asked levels obj → Shows (repr_step w) shown
    → TakesText fr → over ≡ before ++ frame.Text fr ∷ []
    → IfOk r (λ n. (s : State) → is_reference obj ≡ true → MeansIn s now n (bind (carry (texts_around (reverse levels) (repr_step obj))) (on_text gives_text)) over)
    → IfOk r (λ n. (f : Completion → Code) (made : List ℕ) (go : List ℕ → RuleTree) (s : State) → GoesOnAs fr f → MeansIn s now n (item_text f made v go) before)
tuple_asked v w obj levels shown fr (Ok n) now over before same is shows takes pushed h = λ f made go s goes units printed.
    let there : (repr_step w ≡ texts_around (reverse levels) (repr_step obj)) × (is_reference obj ≡ true) = subst (λ (x : TupleText). Shows (repr_step w) x) is shows in
    let first = asks_first (reverse levels) (operation.Repr obj) (λ a. Give a) in
    let asks : texts_around (reverse levels) (repr_step obj) ≡ Asks (operation.Repr obj) first.0 = ap (λ (t : Step). texts_around (reverse levels) t) (reference_asks obj there.1) ∙ first.1 in
    let k : Completion → RuleTree = rest (reverse before) in
    ap (λ (t : Step). runs units (bind (of_step f made go t) k) s printed) (ap repr_step (sym same) ∙ there.0 ∙ asks)
    ∙ code_goes_on s (operation.Repr obj) first.0 f k units printed
    ∙ ap (λ (g : Completion → RuleTree). runs units (bind (operates (operation.Repr obj) first.0 (λ a. Return a)) g) s printed) (fun_ext (λ x. ap (λ (t : RuleTree). bind t k) (goes x)))
    ∙ ap (λ (t : RuleTree). runs units t s printed) (taken fr (operates (operation.Repr obj) first.0 (λ a. Return a)) k takes)
    ∙ ap (λ (t : Step). runs units (bind (bind (carry t) (on_text gives_text)) (λ x. bind (through_text fr x) k)) s printed) (sym asks)
    ∙ ap (λ (fs : List Frame). runs units (bind (bind (carry (texts_around (reverse levels) (repr_step obj))) (on_text gives_text)) (rest fs)) s printed) (sym (ap (λ (fs : List Frame). reverse fs) pushed ∙ reverse-append before (frame.Text fr ∷ [])))
    ∙ h s there.1 units printed
tuple_asked v w obj levels shown fr (Err e) now over before same is shows takes pushed h = tt

pub tuple_long : (v w : Value) (shown : TupleText) (f : Completion → Code) (made : List ℕ) (go : List ℕ → RuleTree) (s : State) (stack : List Frame) → w ≡ v → shown ≡ tuple_text.TooLong → Shows (repr_step w) shown
    → MeansIn s stack (next.Leave beyond.Size) (item_text f made v go) stack
tuple_long v w shown f made go s stack same is shows units printed =
    let there : repr_step w ≡ Leaves beyond.Size = subst (λ (x : TupleText). Shows (repr_step w) x) is shows in
    ap (λ (t : Step). runs units (bind (of_step f made go t) (rest (reverse stack))) s printed) (ap repr_step (sym same) ∙ there)
