-- A text that ends is read to its end, or is stuck at one of its tokens.
use Rattle.std.proofs.Common.{◌≡◌, ◌∙◌, sym, refl, subst, ℕ, zero, suc, Bool, true, false, List, [], ◌∷◌, ◌++◌, Option, Some, None}
use Rattle.py_grammar.specs.declared.act.Act.{Act}
use Rattle.py_grammar.specs.declared.symbol.Limits.{Limits}
use Rattle.py_grammar.specs.declared.symbol.Symbol.{Symbol}
use Rattle.py_grammar.specs.declared.symbol.Symbol.TheVariants.{Terminal as Tk, Word as Nt, Act as Do}
use Rattle.py_grammar.specs.declared.terminal.Terminal.TheVariants as t
use Rattle.py_grammar.specs.declared.word.Word.{Word}
use Rattle.py_grammar.specs.Building.{Lexeme, Builder}
use Rattle.py_grammar.specs.Reading.{pick, fits, Step, Refused, Took, Closed, when, opening_by, skipping, step, Stuck, go_on, run, depth_of_words}
use Rattle.py_grammar.specs.Refusals.{IsAt}
use Rattle.py_grammar.specs.Table.{ways, empty}
use Rattle.py_grammar.specs.Terminals.{same}
use Rattle.py_grammar.specs.Ways.{Way}
use Rattle.py_grammar.specs.Writing.{Among, deeper}
use Rattle.py_grammar.proofs.SetLaws.{not-both, pick-among}
use Rattle.py_grammar.proofs.TakenLaws.{stuck-done, stuck-one}
use Rattle.py_grammar.proofs.TerminalLaws.{same-is, is-same}
use Rattle.py_grammar.proofs.ExactLaws.{Good, good-way}
use Rattle.py_grammar.proofs.RefusalLaws.{further-stuck}

-- what stays on the stack is good, and the end is not taken
Stays : (B : Type 0) → Lexeme → Step B → Type 0
Stays B u Refused = Unit {0}
Stays B u (Took ss b) = Good ss × (u.kind ≡ t.End → ⊥)
Stays B u (Closed b) = Unit {0}

stays-when : (B : Type 0) (u : Lexeme) (x : Bool) (s : Step B) → (x ≡ true → Stays B u s) → Stays B u (when B x s)
unfolding Stays
stays-when B u true s f = f refl
stays-when B u false s f = tt

stays-opening : (B : Type 0) (u : Lexeme) (n : Word) (o : Option Way) (open_way : Way → Step B) (other : Step B)
    → pick (ways n) u.kind ≡ o → ((w : Way) → Among w (ways n) → Stays B u (open_way w)) → Stays B u other → Stays B u (opening_by B o open_way other)
stays-opening B u n (Some w) open_way other e f g = f w (pick-among u.kind w (ways n) e)
stays-opening B u n None open_way other e f g = g

stays-skipping : (B : Type 0) (u : Lexeme) (o : Option Act) (skip : Act → Step B) → ((a : Act) → Stays B u (skip a)) → Stays B u (skipping B o skip)
unfolding Stays
stays-skipping B u (Some a) skip f = f a
stays-skipping B u None skip f = tt

step-stays : (B : Type 0) (m : Builder B) (lim : Limits) (f : ℕ) (ss : List Symbol) (b : B) (u : Lexeme) → Good ss → Stays B u (step B m lim f ss b u)
unfolding Stays Good
step-stays B m lim f [] b u g = stays-when B u (same u.kind t.End) (Closed b) (λ e. tt)
step-stays B m lim f (Tk k ∷ ss) b u g =
    stays-when B u (same u.kind k) (Took ss (m.take_in u b))
    (λ e. (g.1, λ i. not-both (same k t.End) g.0 (is-same k t.End (sym (same-is u.kind k e) ∙ i))))
step-stays B m lim f (Do a ∷ ss) b u g = step-stays B m lim f ss (m.act a b) u g
step-stays B m lim zero (Nt n d ∷ ss) b u g = tt
step-stays B m lim (suc f) (Nt n d ∷ ss) b u g =
    stays-opening B u n (pick (ways n) u.kind)
    (λ w. when B (fits B m lim w d b) (step B m lim f (deeper d w.symbols ++ ss) b u)) (skipping B (empty n) (λ a. step B m lim (suc f) ss (m.act a b) u)) refl
    (λ w i. stays-when B u (fits B m lim w d b) (step B m lim f (deeper d w.symbols ++ ss) b u)
    (λ e. step-stays B m lim f (deeper d w.symbols ++ ss) b u (good-way n w d ss i g)))
    (stays-skipping B u (empty n) (λ a. step B m lim (suc f) ss (m.act a b) u) (λ a. step-stays B m lim (suc f) ss (m.act a b) u g.1))

-- some token stands at the place
unfoldable pub HasPlace : List Lexeme → ℕ → Type 0
HasPlace ts n = (u : Lexeme) × IsAt n ts u

module _ (B : Type 0) (m : Builder B) (lim : Limits) (e : Lexeme) (ends : e.kind ≡ t.End) where
  places-last : (n : ℕ) (s : Step B) → Stays B e s → go_on B (λ rest c. run B m lim rest c []) s [] ≡ Stuck n → HasPlace (e ∷ []) n
  unfolding Stays HasPlace
  places-last n Refused g h = subst (λ x. HasPlace (e ∷ []) x) (stuck-one B 0 n h) (e, refl)
  places-last n (Took rest c) g h = absurd (g.1 ends)
  places-last n (Closed c) g h = absurd (stuck-done B n c (sym h))

  places-of : (n : ℕ) (v : Lexeme) (vs : List Lexeme) (s : Step B) → Stays B v s → ((rest : List Symbol) (c : B) (k : ℕ) → Good rest → run B m lim rest c (vs ++ (e ∷ [])) ≡ Stuck k → HasPlace (vs ++ (e ∷ [])) k)
      → go_on B (λ rest c. run B m lim rest c (vs ++ (e ∷ []))) s (vs ++ (e ∷ [])) ≡ Stuck n → HasPlace (v ∷ (vs ++ (e ∷ []))) n
  unfolding Stays HasPlace
  places-of n v vs Refused g f h = subst (λ x. HasPlace (v ∷ (vs ++ (e ∷ []))) x) (stuck-one B 0 n h) (v, refl)
  places-of n v vs (Took rest c) g f h =
      let k = further-stuck B (run B m lim rest c (vs ++ (e ∷ []))) n h in
      subst (λ x. HasPlace (v ∷ (vs ++ (e ∷ []))) x) (sym k.1) (f rest c k.0 g.0 k.2)
  places-of n v [] (Closed c) g f h = subst (λ x. HasPlace (v ∷ e ∷ []) x) (stuck-one B 1 n h) (e, refl)
  places-of n v (w ∷ ws) (Closed c) g f h = subst (λ x. HasPlace (v ∷ w ∷ (ws ++ (e ∷ []))) x) (stuck-one B 1 n h) (w, refl)

  -- a text that ends is stuck at one of its tokens
  pub stuck-places : (ts : List Lexeme) (ss : List Symbol) (b : B) (n : ℕ) → Good ss → run B m lim ss b (ts ++ (e ∷ [])) ≡ Stuck n → HasPlace (ts ++ (e ∷ [])) n
  stuck-places [] ss b n g h = places-last n (step B m lim depth_of_words ss b e) (step-stays B m lim depth_of_words ss b e g) h
  stuck-places (v ∷ vs) ss b n g h =
      places-of n v vs (step B m lim depth_of_words ss b v) (step-stays B m lim depth_of_words ss b v g) (λ rest c k. stuck-places vs rest c k) h
