-- A text has one judgement.
use Rattle.std.proofs.Common.{◌≡◌, ◌∙◌, sym, ap, subst, refl, ℕ, zero, suc, ◌<◌, ◌≤◌, true, false, List, [], ◌∷◌, ◌++◌, append_assoc, Result, Ok, Err, ◌⊎◌, inl, inr, arith}
use Rattle.std.proofs.lemmas.Bool.{cases_order}
use Rattle.rp_base.specs.declared.rules.Rule.{Rule}
use Rattle.rp_base.specs.declared.rules.Rule.TheVariants as rule
use Rattle.rp_base.specs.declared.rules.Refused.{Refused}
use Rattle.py_ast.specs.declared.program.Program.{Program}
use Rattle.py_grammar.specs.declared.symbol.Limits.{Limits}
use Rattle.py_grammar.specs.declared.symbol.Start.{Start}
use Rattle.py_grammar.specs.declared.symbol.Symbol.{Symbol}
use Rattle.py_grammar.specs.Building.{Lexeme, Builder}
use Rattle.py_grammar.specs.Deriving.{Derives, CanBegin}
use Rattle.py_grammar.specs.Refusals.{leading, IsAt, IsRefused, Breaks, any_depth, unlimited, belongs_to_left_out}
use Rattle.py_grammar.specs.Table.{opening}
use Rattle.py_grammar.proofs.TextLaws.{has-one-tree}
use Rattle.py_lexer.specs.declared.token.Token.{Token}
use Rattle.py_lexer.specs.Reading.{tokens_of}
use Rattle.py_mentions.specs.Walks.{mentions_in}
use Rattle.py_parser.specs.Building.{begun, program_of}
use Rattle.py_parser.specs.BuildingActs.{builder}
use Rattle.py_parser.specs.Lexemes.{lexemes}
use Rattle.py_parser.specs.Parsing.{script_limits, is_expression, HasTree, IsFirstMisfit}
use Rattle.py_scope.specs.Accepting.{HasTokens, HasNoTokens, Unreadable, readable_lines, Accepted, RefusedAt}
use Rattle.py_scope.specs.Finished.{finished}
use Rattle.py_scope.specs.Judging.{broken}
use Rattle.py_mentions.specs.Worst.{IsWorst}
use Rattle.py_scope.proofs.FirstLaws.{one_worst}

-- ---- the front of a list

whole : (n : ℕ) (ts : List Lexeme) → (rest : List Lexeme) × (leading n ts ++ rest ≡ ts)
whole zero ts = (ts, refl)
whole (suc n) [] = ([], refl)
whole (suc n) (u ∷ us) = let y = whole n us in (y.0, ap (λ x. u ∷ x) y.1)

longer : (k n : ℕ) (ts : List Lexeme) → k ≤ n → (rest : List Lexeme) × (leading k ts ++ rest ≡ leading n ts)
longer zero n ts h = (leading n ts, refl)
longer (suc k) zero ts h = absurd (omega arith)
longer (suc k) (suc n) [] h = ([], refl)
longer (suc k) (suc n) (u ∷ us) h = let less : k ≤ n = omega arith in let y = longer k n us less in (y.0, ap (λ x. u ∷ x) y.1)

next : (n : ℕ) (ts : List Lexeme) (u : Lexeme) → IsAt n ts u → leading n ts ++ (u ∷ []) ≡ leading (suc n) ts
next zero [] u i = absurd i
next zero (v ∷ vs) u i = ap (λ x. x ∷ []) (sym i)
next (suc n) [] u i = absurd i
next (suc n) (v ∷ vs) u i = ap (λ x. v ∷ x) (next n vs u i)

one_at : (n : ℕ) (ts : List Lexeme) (u v : Lexeme) → IsAt n ts u → IsAt n ts v → u ≡ v
one_at zero [] u v i j = absurd i
one_at zero (x ∷ xs) u v i j = sym i ∙ j
one_at (suc n) [] u v i j = absurd i
one_at (suc n) (x ∷ xs) u v i j = one_at n xs u v i j

module _ (B : Type 0) (m : Builder B) (lim : Limits) (ss : List Symbol) (b : B) where
  shorter : (xs ys : List Lexeme) → CanBegin B m lim ss b (xs ++ ys) → CanBegin B m lim ss b xs
  shorter xs ys c = (ys ++ c.0, c.1, subst (λ ts. Derives B m lim ss b ts c.1) (append_assoc xs ys c.0) c.2)

  -- what stops a text stops it at its first such place
  not_before : (ts : List Lexeme) (n k : ℕ) (u : Lexeme) → IsAt n ts u → (CanBegin B m lim ss b (leading n ts ++ (u ∷ [])) → ⊥) → CanBegin B m lim ss b (leading k ts) → n < k → ⊥
  not_before ts n k u i stops begins less =
      let within : suc n ≤ k = omega arith in
      let y = longer (suc n) k ts within in
      stops (subst (λ x. CanBegin B m lim ss b x) (sym (next n ts u i)) (shorter (leading (suc n) ts) y.0 (subst (λ x. CanBegin B m lim ss b x) (sym y.1) begins)))

  not_derived : (ts : List Lexeme) (n : ℕ) (u : Lexeme) (out : B) → IsAt n ts u → (CanBegin B m lim ss b (leading n ts ++ (u ∷ [])) → ⊥) → Derives B m lim ss b ts out → ⊥
  not_derived ts n u out i stops d =
      let y = whole (suc n) ts in
      stops (subst (λ x. CanBegin B m lim ss b x) (sym (next n ts u i)) (y.0, out, subst (λ x. Derives B m lim ss b x out) (sym y.1) d))

  module _ (before : List Lexeme) (u : Lexeme) where
    abbrev Deep : Type 0
    Deep = CanBegin B m (any_depth lim) ss b (before ++ (u ∷ []))

    abbrev Long : Type 0
    Long = CanBegin B m unlimited ss b (before ++ (u ∷ []))

    abbrev Verdict : Rule → Type 0
    Verdict r = ((r ≡ rule.P3) × Deep) ⊎ (((r ≡ rule.P4) × (Deep → ⊥) × Long) ⊎ (((r ≡ rule.P2) × (Deep → ⊥) × (Long → ⊥) × (belongs_to_left_out before u ≡ true))
        ⊎ ((r ≡ rule.P1) × (Deep → ⊥) × (Long → ⊥) × (belongs_to_left_out before u ≡ false))))

    verdict : (r : Rule) → Breaks B m lim ss b before u r → Verdict r
    verdict rule.P3 h = inl (refl, h)
    verdict rule.P4 h = inr (inl (refl, h.0, h.1))
    verdict rule.P2 h = inr (inr (inl (refl, h.0, h.1, h.2)))
    verdict rule.P1 h = inr (inr (inr (refl, h.0, h.1, h.2)))
    verdict _ h = absurd h

    one_verdict : (r s : Rule) → Verdict r → Verdict s → r ≡ s
    one_verdict r s (inl x) (inl y) = x.0 ∙ sym y.0
    one_verdict r s (inl x) (inr (inl y)) = absurd (y.1 x.1)
    one_verdict r s (inl x) (inr (inr (inl y))) = absurd (y.1 x.1)
    one_verdict r s (inl x) (inr (inr (inr y))) = absurd (y.1 x.1)
    one_verdict r s (inr (inl x)) (inl y) = absurd (x.1 y.1)
    one_verdict r s (inr (inl x)) (inr (inl y)) = x.0 ∙ sym y.0
    one_verdict r s (inr (inl x)) (inr (inr (inl y))) = absurd (y.2 x.2)
    one_verdict r s (inr (inl x)) (inr (inr (inr y))) = absurd (y.2 x.2)
    one_verdict r s (inr (inr (inl x))) (inl y) = absurd (x.1 y.1)
    one_verdict r s (inr (inr (inl x))) (inr (inl y)) = absurd (x.2 y.2)
    one_verdict r s (inr (inr (inl x))) (inr (inr (inl y))) = x.0 ∙ sym y.0
    one_verdict r s (inr (inr (inl x))) (inr (inr (inr y))) = let no : true ≡ false = sym x.3 ∙ y.3 in cc
    one_verdict r s (inr (inr (inr x))) (inl y) = absurd (x.1 y.1)
    one_verdict r s (inr (inr (inr x))) (inr (inl y)) = absurd (x.2 y.2)
    one_verdict r s (inr (inr (inr x))) (inr (inr (inl y))) = let no : true ≡ false = sym y.3 ∙ x.3 in cc
    one_verdict r s (inr (inr (inr x))) (inr (inr (inr y))) = x.0 ∙ sym y.0

-- ---- the first token that fits nowhere

module _ (s : Start) (ts : List Lexeme) where
  abbrev Refuses : ℕ → Lexeme → Rule → Type 0
  Refuses n u r = IsRefused _ builder script_limits (opening s) begun ts n u r

  same_place : (n : ℕ) (u v : Lexeme) (q r : Rule) → Refuses n u q → Refuses n v r → (u ≡ v) × (q ≡ r)
  same_place n u v q r x y =
      let same : u ≡ v = one_at n ts u v x.0 y.0 in
      let here : Breaks _ builder script_limits (opening s) begun (leading n ts) u r = subst (λ w. Breaks _ builder script_limits (opening s) begun (leading n ts) w r) (sym same) y.3 in (
        same,
        one_verdict _ builder script_limits (opening s) begun (leading n ts) u q r
            (verdict _ builder script_limits (opening s) begun (leading n ts) u q x.3) (verdict _ builder script_limits (opening s) begun (leading n ts) u r here),
      )

  same_refusal : (n k : ℕ) (u v : Lexeme) (q r : Rule) → Refuses n u q → Refuses k v r → (n ≡ k) ⊎ ((n < k) ⊎ (k < n)) → (u ≡ v) × (q ≡ r)
  same_refusal n k u v q r x y (inl e) = same_place n u v q r x (subst (λ i. Refuses i v r) (sym e) y)
  same_refusal n k u v q r x y (inr (inl h)) = absurd (not_before _ builder script_limits (opening s) begun ts n k u x.0 x.2 y.1 h)
  same_refusal n k u v q r x y (inr (inr h)) = absurd (not_before _ builder script_limits (opening s) begun ts k n v y.0 y.2 x.1 h)

  one_misfit : (q r : Refused) → IsFirstMisfit s ts q → IsFirstMisfit s ts r → q ≡ r
  one_misfit q r x y =
      let same = same_refusal x.0 y.0 x.1 y.1 q.rule r.rule x.2 y.2 (cases_order x.0 y.0) in
      let lines : q.line ≡ r.line = x.3 ∙ ap (λ (u : Lexeme). u.line) same.0 ∙ sym y.3 in
      λ j. record { line = lines j; rule = same.1 j }

  one_tree : (p q : Program) → HasTree s ts p → HasTree s ts q → p ≡ q
  one_tree p q x y = x.2 ∙ ap (program_of (is_expression s)) (has-one-tree _ builder script_limits s begun x.0 y.0 ts x.1 y.1) ∙ sym y.2

  no_both : (p : Program) (r : Refused) → HasTree s ts p → IsFirstMisfit s ts r → ⊥
  no_both p r x y = not_derived _ builder script_limits (opening s) begun ts y.0 y.1 x.0 y.2.0 y.2.2 x.1

-- ---- tokens

same_tokens : (t : List ℕ) (a b : List Token) → HasTokens t a → HasTokens t b → a ≡ b
same_tokens t a b x y = let e : Ok a ≡ Ok b = sym x.1 ∙ y.1 in cc

tokens_or_not : (t : List ℕ) (a : List Token) (r : Refused) → HasTokens t a → HasNoTokens t r → ⊥
tokens_or_not t a r x (inl y) = let e : Ok a ≡ Err r = sym x.1 ∙ y.1 in cc
tokens_or_not t a r x (inr y) = y.0 x.0

one_line : (lines : List ℕ) (read : Result (List Token) Refused) (q r : Refused) → Unreadable lines read q → Unreadable lines read r → q ≡ r
one_line lines (Ok ts) q r x y = x ∙ sym y
one_line lines (Err e) q r x y = x ∙ sym y

one_bad_token : (t : List ℕ) (q r : Refused) → HasNoTokens t q → HasNoTokens t r → q ≡ r
one_bad_token t q r (inl x) (inl y) = let e : Err q ≡ Err r = sym x.1 ∙ y.1 in cc
one_bad_token t q r (inl x) (inr y) = absurd (y.0 x.0)
one_bad_token t q r (inr x) (inl y) = absurd (x.0 y.0)
one_bad_token t q r (inr x) (inr y) = one_line (readable_lines t) (tokens_of (readable_lines t)) q r x.1 y.1

-- ---- texts

module _ (s : Start) (t : List ℕ) where
  moved : (P : List Lexeme → Type 0) (a b : List Token) → HasTokens t a → HasTokens t b → P (lexemes t b) → P (lexemes t a)
  moved P a b x y h = subst (λ ts. P (lexemes t ts)) (sym (same_tokens t a b x y)) h

  pub one_program : (p q : Program) → Accepted s t p → Accepted s t q → p ≡ q
  one_program p q x y =
      let trees : x.1 ≡ y.1 = one_tree s (lexemes t x.0) x.1 y.1 x.3 (moved (λ ts. HasTree s ts y.1) x.0 y.0 x.2 y.2 y.3) in
      x.5 ∙ ap (λ (tree : Program). finished (mentions_in tree) tree) trees ∙ sym y.5

  pub never_both : (p : Program) (r : Refused) → Accepted s t p → RefusedAt s t r → ⊥
  never_both p r x (inl y) = tokens_or_not t x.0 r x.2 y
  never_both p r x (inr (inl y)) = no_both s (lexemes t x.0) x.1 r x.3 (moved (λ ts. IsFirstMisfit s ts r) x.0 y.0 x.2 y.1 y.2)
  never_both p r x (inr (inr y)) =
      let trees : x.1 ≡ y.1 = one_tree s (lexemes t x.0) x.1 y.1 x.3 (moved (λ ts. HasTree s ts y.1) x.0 y.0 x.2 y.2 y.3) in
      let empty : broken y.1 ≡ [] = ap broken (sym trees) ∙ x.4 in
      (subst (λ rs. IsWorst rs r) empty y.4).one

  pub one_refusal : (q r : Refused) → RefusedAt s t q → RefusedAt s t r → q ≡ r
  one_refusal q r (inl x) (inl y) = one_bad_token t q r x y
  one_refusal q r (inl x) (inr (inl y)) = absurd (tokens_or_not t y.0 q y.1 x)
  one_refusal q r (inl x) (inr (inr y)) = absurd (tokens_or_not t y.0 q y.2 x)
  one_refusal q r (inr (inl x)) (inl y) = absurd (tokens_or_not t x.0 r x.1 y)
  one_refusal q r (inr (inl x)) (inr (inl y)) = one_misfit s (lexemes t x.0) q r x.2 (moved (λ ts. IsFirstMisfit s ts r) x.0 y.0 x.1 y.1 y.2)
  one_refusal q r (inr (inl x)) (inr (inr y)) = absurd (no_both s (lexemes t x.0) y.1 q (moved (λ ts. HasTree s ts y.1) x.0 y.0 x.1 y.2 y.3) x.2)
  one_refusal q r (inr (inr x)) (inl y) = absurd (tokens_or_not t x.0 r x.2 y)
  one_refusal q r (inr (inr x)) (inr (inl y)) = absurd (no_both s (lexemes t x.0) x.1 r x.3 (moved (λ ts. IsFirstMisfit s ts r) x.0 y.0 x.2 y.1 y.2))
  one_refusal q r (inr (inr x)) (inr (inr y)) =
      let trees : x.1 ≡ y.1 = one_tree s (lexemes t x.0) x.1 y.1 x.3 (moved (λ ts. HasTree s ts y.1) x.0 y.0 x.2 y.2 y.3) in
      one_worst (broken x.1) q r x.4 (subst (λ tree. IsWorst (broken tree) r) (sym trees) y.4)
