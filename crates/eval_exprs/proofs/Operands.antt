-- Links of a chain.
use Rattle.std.proofs.Common.{◌≡◌, List, [], ◌∷◌, ◌++◌, Bool, true, false, not, Option, Some, None, Result, Ok, Err, IfOk, reverse, refl, sym, ◌∙◌, ap, subst}
use Rattle.std.proofs.lemmas.List.{reverse-append}
use Rattle.rp_base.specs.declared.ends.NoMemory.{NoMemory}
use Rattle.rp_base.specs.declared.ends.OpEnd.{OpEnd}
use Rattle.rp_base.specs.declared.ends.OpEnd.TheVariants as op_end
use Rattle.rp_base.specs.declared.operators.CmpOp.{CmpOp}
use Rattle.rp_base.specs.declared.value.Value.{Value}
use Rattle.py_ast.specs.declared.expression.Comparison.{Comparison}
use Rattle.py_ast.specs.declared.expression.Comparison.TheVariants as comparison
use Rattle.py_ast.specs.declared.expression.Link.{Link}
use Rattle.side_trees.proofs.BindLaw.{bind-bind}
use Rattle.side_trees.specs.Trees.{bind}
use Rattle.language_rules.specs.AtOnce.{Computes, ComputesUnlessAsked}
use Rattle.language_rules.specs.Chains.{link_rule, links_from, opposite}
use Rattle.language_rules.specs.Codes.{Completion, Env}
use Rattle.language_rules.specs.Comparing.{compare_step}
use Rattle.language_rules.specs.Going.{RuleTree, carry, on_value}
use Rattle.language_rules.specs.PlainItems.{contains_in}
use Rattle.language_rules.specs.Running.{runs}
use Rattle.language_rules.specs.Truth.{on_truth}
use Rattle.value_operators.specs.Answering.{AsksOnly}
use Rattle.eval_frames.specs.declared.frame.Decision.TheVariants as decision
use Rattle.eval_frames.specs.declared.frame.Frame.{Frame}
use Rattle.eval_frames.specs.declared.next.Next.{Next}
use Rattle.eval_frames.specs.Meaning.{Means, decides, rest}
use Rattle.eval_comparing.proofs.Moving.{in_state}
use Rattle.eval_comparing.specs.Answers.{question_step, refers}
use Rattle.eval_comparing.specs.Compared.{Compares, RunsLike, turned_by}
use Rattle.eval_comparing.specs.declared.answer.Compared.{Compared}
use Rattle.eval_comparing.specs.declared.answer.Compared.TheVariants as compared
use Rattle.eval_comparing.specs.declared.answer.Question.{Question}
use Rattle.eval_comparing.specs.Steps.{MeansAnywhere}

pub next_linked : (env : Env) (c : Comparison) (a b : Value) (old new : List Link) (l : Link) → old ≡ new ++ l ∷ [] → links_from env (l ∷ reverse new) c a b ≡ links_from env (reverse old) c a b
next_linked env c a b old new l e = ap (λ (ls : List Link). links_from env ls c a b) (sym (ap (λ (ls : List Link). reverse ls) e ∙ reverse-append new (l ∷ [])))

pub last_linked : (env : Env) (c : Comparison) (a b : Value) (old : List Link) → old ≡ [] → link_rule c a b ≡ links_from env (reverse old) c a b
last_linked env c a b old e = ap (λ (ls : List Link). links_from env (reverse ls) c a b) (sym e)

pub ordered : (c : Comparison) (o : CmpOp) (a b : Value) → c ≡ comparison.Order o → carry (compare_step o a b) ≡ link_rule c a b
unfolding link_rule
ordered c o a b e = ap (λ (x : Comparison). link_rule x a b) (sym e)

pub contained : (c : Comparison) (a b : Value) → c ≡ comparison.In → contains_in b a ≡ link_rule c a b
unfolding link_rule
contained c a b e = ap (λ (x : Comparison). link_rule x a b) (sym e)

pub not_contained : (c : Comparison) (a b : Value) → c ≡ comparison.NotIn → bind (contains_in b a) (on_value opposite) ≡ link_rule c a b
unfolding link_rule
not_contained c a b e = ap (λ (x : Comparison). link_rule x a b) (sym e)

-- ---- links of tuples

-- an object within the tuples is asked, and its answer decides whether the chain goes on
pub tuples_before : (r : Result Next NoMemory) (now before : List Frame) (env : Env) (b : Value) (old new : List Link) (l : Link) (u : RuleTree) → old ≡ new ++ l ∷ []
    → IfOk r (λ n. MeansAnywhere now n (bind u (on_value (λ v. on_truth v (decides (decision.Link env b l new) v)))) before)
    → IfOk r (λ n. (c : Comparison) (a : Value) → RunsLike (link_rule c a b) u → MeansAnywhere now n (links_from env (reverse old) c a b) before)
tuples_before (Ok n) now before env b old new l u is h = λ c a like s units printed.
    let decided : Completion → RuleTree = on_value (λ v. on_truth v (decides (decision.Link env b l new) v)) in
    ap (λ (t : RuleTree). runs units (bind t (rest (reverse before))) s printed) (sym (next_linked env c a b old new l is))
    ∙ ap (λ (t : RuleTree). runs units t s printed) (bind-bind (link_rule c a b) decided (rest (reverse before)))
    ∙ like s (λ e. bind (decided e) (rest (reverse before))) units printed
    ∙ ap (λ (t : RuleTree). runs units t s printed) (sym (bind-bind u decided (rest (reverse before))))
    ∙ h s units printed
tuples_before (Err x) now before env b old new l u is h = tt

pub tuples_last : (r : Result Next NoMemory) (now before : List Frame) (env : Env) (b : Value) (old : List Link) (u : RuleTree) → old ≡ []
    → IfOk r (λ n. MeansAnywhere now n u before)
    → IfOk r (λ n. (c : Comparison) (a : Value) → RunsLike (link_rule c a b) u → MeansAnywhere now n (links_from env (reverse old) c a b) before)
tuples_last (Ok n) now before env b old u is h = λ c a like s units printed.
    ap (λ (t : RuleTree). runs units (bind t (rest (reverse before))) s printed) (sym (last_linked env c a b old is))
    ∙ like s (rest (reverse before)) units printed
    ∙ h s units printed
tuples_last (Err x) now before env b old u is h = tt

-- ---- links that ask no object

pub told_link : (r : Result Next NoMemory) (now before : List Frame) (env : Env) (ls : List Link) (b : Value) (answer : Result Value OpEnd) (c : Comparison) (a : Value) → Computes (link_rule c a b) answer
    → IfOk r (λ n. (d : Comparison) (v : Value) → Computes (link_rule d v b) answer → Means now n (links_from env ls d v b) before)
    → IfOk r (λ n. MeansAnywhere now n (links_from env ls c a b) before)
told_link (Ok n) now before env ls b answer c a is h = λ s. in_state n now before (links_from env ls c a b) s (h c a is)
told_link (Err x) now before env ls b answer c a is h = tt

pub computed_value : (t : RuleTree) (r : Result (Option Value) OpEnd) (v : Value) → r ≡ Ok (Some v) → ComputesUnlessAsked t r → Computes t (Ok v)
computed_value t r v is h = subst (λ (x : Result (Option Value) OpEnd). ComputesUnlessAsked t x) is h

computed_to : (t : RuleTree) (e : OpEnd) → ComputesUnlessAsked t (Err e) → Computes t (Err e)
computed_to t (op_end.Raise r) h = h
computed_to t (op_end.Beyond b) h = h
computed_to t op_end.NoMemory h = tt

pub computed_end : (t : RuleTree) (r : Result (Option Value) OpEnd) (e : OpEnd) → r ≡ Err e → ComputesUnlessAsked t r → Computes t (Err e)
computed_end t r e is h = computed_to t e (subst (λ (x : Result (Option Value) OpEnd). ComputesUnlessAsked t x) is h)

turned_false : (b : Bool) → not b ≡ true → b ≡ false
turned_false true h = cc
turned_false false h = refl

pub not_both : (b : Bool) (r : Result (Option Value) OpEnd) → r ≡ Ok None → AsksOnly (not b) r → b ≡ false
not_both b r is h = turned_false b (subst (λ (x : Result (Option Value) OpEnd). AsksOnly (not b) x) is h)

-- a comparison that asks is no other in any run
pub same_runs : (t u : RuleTree) → t ≡ u → RunsLike t u
same_runs t u e s k units printed = ap (λ (x : RuleTree). runs units (bind x k) s printed) e

pub compared_asked : (t : RuleTree) (x : Compared) (q : Question) → x ≡ compared.Asked q → Compares t x → RunsLike t (turned_by false (carry (question_step q)))
compared_asked t x q is h =
    let there : (t ≡ carry (question_step q)) × refers q.left q.right = subst (λ (y : Compared). Compares t y) is h in
    same_runs t (carry (question_step q)) there.0

pub compared_opposite : (t : RuleTree) (x : Compared) (q : Question) → x ≡ compared.Opposite q → Compares t x → RunsLike t (turned_by true (carry (question_step q)))
compared_opposite t x q is h =
    let there : RunsLike t (bind (carry (question_step q)) (on_value opposite)) × refers q.left q.right = subst (λ (y : Compared). Compares t y) is h in there.0

pub refers_asked : (t : RuleTree) (x : Compared) (q : Question) → x ≡ compared.Asked q → Compares t x → refers q.left q.right
refers_asked t x q is h =
    let there : (t ≡ carry (question_step q)) × refers q.left q.right = subst (λ (y : Compared). Compares t y) is h in there.1

pub refers_opposite : (t : RuleTree) (x : Compared) (q : Question) → x ≡ compared.Opposite q → Compares t x → refers q.left q.right
refers_opposite t x q is h =
    let there : RunsLike t (bind (carry (question_step q)) (on_value opposite)) × refers q.left q.right = subst (λ (y : Compared). Compares t y) is h in there.1

pub compared_ended : (t : RuleTree) (x : Compared) (answer : Result Value OpEnd) → x ≡ compared.Ended answer → Compares t x → Computes t answer
compared_ended t x answer is h = subst (λ (y : Compared). Compares t y) is h

pub links_like : (r : Result Next NoMemory) (now before : List Frame) (env : Env) (ls : List Link) (b : Value) (u : RuleTree) (c : Comparison) (a : Value) → RunsLike (link_rule c a b) u
    → IfOk r (λ n. (d : Comparison) (v : Value) → RunsLike (link_rule d v b) u → MeansAnywhere now n (links_from env ls d v b) before)
    → IfOk r (λ n. MeansAnywhere now n (links_from env ls c a b) before)
links_like (Ok n) now before env ls b u c a is h = h c a is
links_like (Err x) now before env ls b u c a is h = tt

pub ok_some : (r : Result (Option Value) OpEnd) (o : Option Value) (v : Value) → r ≡ Ok o → o ≡ Some v → r ≡ Ok (Some v)
ok_some r o v h g = h ∙ ap (λ (x : Option Value). Ok x) g

pub ok_none : (r : Result (Option Value) OpEnd) (o : Option Value) → r ≡ Ok o → o ≡ None → r ≡ Ok None
ok_none r o h g = h ∙ ap (λ (x : Option Value). Ok x) g
