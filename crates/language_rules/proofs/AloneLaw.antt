-- A script alone on the one heap and the run of its side end alike: the side's state is what it sees of the heap, and its bytes are those that the log has of it.
use Rattle.std.proofs.Common.{◌≡◌, List, [], ◌∷◌, ◌++◌, ℕ, zero, suc, reverse, refl, sym, ap, ◌∙◌, subst, append_assoc}
use Rattle.std.proofs.Math.Path.{fun_ext}
use Rattle.std.proofs.lemmas.Grind.{reverse_onto}
use Rattle.std.proofs.lemmas.List.{append-nil}
use Rattle.py_ast.specs.declared.program.Program.{Program}
use Rattle.side_trees.specs.Sides.{Lang, TreeOf, Shows, shown}
use Rattle.side_trees.specs.SharedRun.{A, Heap, Tree2, Puts, Begins, both, run2, wrote, closes}
use Rattle.side_trees.specs.Trees.{Return, Act, Tell, Stop, Spend, Do, Ask, bind}
use Rattle.side_trees.proofs.BindLaw.{bind-return}
use Rattle.side_trees.proofs.HomeTrees.{both-bind}
use Rattle.language_rules.specs.Codes.{Code, Completion}
use Rattle.language_rules.specs.Conversation.{script_language, one_heap}
use Rattle.language_rules.specs.Going.{RuleTree}
use Rattle.language_rules.specs.OneInterpreter.{ScriptCourse, ScriptLog, both_done, first_heap, solo_course}
use Rattle.language_rules.specs.References.{in_turn}
use Rattle.language_rules.specs.Rules.{expand}
use Rattle.language_rules.specs.Running.{IsRunOfOne, runs}
use Rattle.language_rules.specs.SharedCells.{SharedHeap, seen_by, changed_by, seen_changed}
use Rattle.language_rules.specs.Starting.{Reader, first_state, text_of}

-- ---- what the log has printed

pieces-append : (xss yss : List (List ℕ)) → in_turn (xss ++ yss) ≡ in_turn xss ++ in_turn yss
pieces-append [] yss = refl
pieces-append (xs ∷ xss) yss = ap (λ l. xs ++ l) (pieces-append xss yss) ∙ sym (append_assoc xs (in_turn xss) (in_turn yss))

-- the newest piece stands behind the others
piece-behind : (piece : List ℕ) (pieces : List (List ℕ)) → in_turn (reverse (piece ∷ pieces)) ≡ in_turn (reverse pieces) ++ piece
piece-behind piece pieces =
    ap in_turn (reverse_onto pieces piece [])
    ∙ pieces-append (reverse pieces) (piece ∷ [])
    ∙ ap (λ l. in_turn (reverse pieces) ++ l) (append-nil piece)

abbrev pieces_of : ScriptLog → List (List ℕ)
pieces_of log = shown script_language (wrote script_language A log)

-- ---- trees of side A

-- what is joined at side A is joined on the one heap
both-joins : (L : Lang) (H : Heap L) (t : TreeOf L) (k : L.A → TreeOf L) → both L H A (bind t k) ≡ bind (both L H A t) (λ a. both L H A (k a))
both-joins L H t k =
    sym (bind-return (both L H A (bind t k)))
    ∙ both-bind L H A t k (λ a. Return a)
    ∙ ap (λ (r : L.A → Tree2 L H). bind (both L H A t) r) (fun_ext (λ a. bind-return (both L H A (k a))))

-- ---- the runs

-- the course of a tree of side A from the middle of a run
abbrev course : ℕ → Tree2 script_language one_heap → SharedHeap → ScriptLog → ScriptCourse
course u t w log = closes script_language one_heap A both_done (run2 script_language one_heap u t w log)

abbrev at_a : RuleTree → Tree2 script_language one_heap
at_a t = both script_language one_heap A t

joins-spent : (c : Code) (k : Completion → RuleTree) → at_a (bind (expand c) k) ≡ bind (at_a (expand c)) (λ a. at_a (k a))
joins-spent c k = both-joins script_language one_heap (expand c) k

joins-done : (o : Code) (c : Completion → Code) (k : Completion → RuleTree)
    → at_a (bind (expand o) (λ a. bind (expand (c a)) k)) ≡ bind (at_a (expand o)) (λ a. bind (at_a (expand (c a))) (λ b. at_a (k b)))
joins-done o c k =
    both-joins script_language one_heap (expand o) (λ a. bind (expand (c a)) k)
    ∙ ap (λ (r : Completion → Tree2 script_language one_heap). bind (at_a (expand o)) r) (fun_ext (λ a. joins-spent (c a) k))

-- By recursion on the units, and then on the tree.
run-alone : (u : ℕ) (t : RuleTree) (w : SharedHeap) (log : ScriptLog) → IsRunOfOne (course u (at_a t) w log) (runs u t (seen_by A w) (in_turn (reverse (pieces_of log))))
run-alone u (Return a) w log = (refl, refl, refl)
run-alone u (Act g f) w log =
    subst (λ s. IsRunOfOne (course u (at_a (f (seen_by A w))) (changed_by A g w) log) (runs u (f (seen_by A w)) s (in_turn (reverse (pieces_of log)))))
    (seen_changed A g w) (run-alone u (f (seen_by A w)) (changed_by A g w) log)
run-alone u (Tell piece t) w log =
    subst (λ printed. IsRunOfOne (course u (at_a t) w (Puts A (Shows piece) ∷ log)) (runs u t (seen_by A w) printed))
    (piece-behind piece (pieces_of log)) (run-alone u t w (Puts A (Shows piece) ∷ log))
run-alone u (Stop b) w log = (refl, refl, refl)
run-alone zero (Spend c k) w log = (refl, refl, refl)
run-alone (suc u) (Spend c k) w log =
    subst (λ x. IsRunOfOne (course u x w log) (runs u (bind (expand c) k) (seen_by A w) (in_turn (reverse (pieces_of log)))))
    (joins-spent c k) (run-alone u (bind (expand c) k) w log)
run-alone zero (Do o c k) w log = (refl, refl, refl)
run-alone (suc u) (Do o c k) w log =
    subst (λ x. IsRunOfOne (course u x w log) (runs u (bind (expand o) (λ a. bind (expand (c a)) k)) (seen_by A w) (in_turn (reverse (pieces_of log)))))
    (joins-done o c k) (run-alone u (bind (expand o) (λ a. bind (expand (c a)) k)) w log)
run-alone u (Ask q c k) w log = tt

pub script_alone : (reader : Reader) (program : Program) (u : ℕ) → IsRunOfOne (solo_course reader program u) (runs u (text_of program) (first_state reader []) [])
script_alone reader program u = run-alone u (text_of program) (first_heap reader []) (Begins A (text_of program) ∷ [])
