-- What is written by pieces is what is derived from the left.
use Rattle.std.proofs.Common.{◌≡◌, ◌∙◌, sym, refl, ap, subst, ℕ, List, [], ◌∷◌, ◌++◌, append_assoc, append-nil}
use Rattle.py_grammar.specs.declared.act.Act.{Act}
use Rattle.py_grammar.specs.declared.symbol.Limits.{Limits}
use Rattle.py_grammar.specs.declared.symbol.Symbol.{Symbol}
use Rattle.py_grammar.specs.declared.symbol.Symbol.TheVariants.{Terminal as Tk, Word as Nt, Act as Do}
use Rattle.py_grammar.specs.declared.terminal.Terminal.{Terminal}
use Rattle.py_grammar.specs.declared.terminal.Terminal.TheVariants as t
use Rattle.py_grammar.specs.declared.word.Word.{Word}
use Rattle.py_grammar.specs.Building.{Lexeme, Builder}
use Rattle.py_grammar.specs.Deriving.{Derives, Ends, Takes, Makes, Skips, Opens}
use Rattle.py_grammar.specs.Writing.{deeper, Writes, NoMore, OneToken, Building, Absent, Written}

-- ---- from pieces

pub joined : (B : Type 0) (m : Builder B) (lim : Limits) {xs : List Symbol} {b c : B} {us : List Lexeme} → Writes B m lim xs b us c
    → (ss : List Symbol) (ts : List Lexeme) (out : B) → Derives B m lim ss c ts out → Derives B m lim (xs ++ ss) b (us ++ ts) out
joined B m lim (NoMore e) ss ts out r = subst (λ x. Derives B m lim ss x ts out) (sym e) r
joined B m lim (OneToken e w) ss ts out r = Takes e (joined B m lim w ss ts out r)
joined B m lim (Building w) ss ts out r = Makes (joined B m lim w ss ts out r)
joined B m lim (Absent a e w) ss ts out r = Skips a e (joined B m lim w ss ts out r)
joined B m lim (Written {n = n} {d = d} {ss = xs} {b = b} w left right middle i h p e v x) ss ts out r =
    let all : Derives B m lim (deeper d w.symbols ++ (xs ++ ss)) b (left ++ (right ++ ts)) out = joined B m lim v (xs ++ ss) (right ++ ts) out (joined B m lim x ss ts out r) in
    Opens w i h p (subst (λ us. Derives B m lim (deeper d w.symbols ++ (xs ++ ss)) b us out) (sym (append_assoc left right ts) ∙ ap (λ us. us ++ ts) (sym e)) all)

-- ---- into pieces

-- what is written where two lists stand
Parts : (B : Type 0) → Builder B → Limits → List Symbol → List Symbol → B → List Lexeme → B → Type 0
Parts B m lim xs ys b us out = (left right : List Lexeme) × (middle : B) × (us ≡ left ++ right) × (Writes B m lim xs b left middle) × Writes B m lim ys middle right out

token-head : (B : Type 0) (m : Builder B) (lim : Limits) (k : Terminal) (xs ys ss : List Symbol) {b out : B} {us : List Lexeme}
    → ((c : B) (ts : List Lexeme) → Writes B m lim ss c ts out → Parts B m lim xs ys c ts out) → Writes B m lim (Tk k ∷ ss) b us out → Parts B m lim (Tk k ∷ xs) ys b us out
unfolding Parts
token-head B m lim k xs ys ss {b = b} f (OneToken {t = u} {ts = ts} e w) =
    let y = f (m.take_in u b) ts w in (u ∷ y.0, y.1, y.2, ap (λ x. u ∷ x) y.3, OneToken e y.4, y.5)

act-head : (B : Type 0) (m : Builder B) (lim : Limits) (a : Act) (xs ys ss : List Symbol) {b out : B} {us : List Lexeme}
    → ((c : B) (ts : List Lexeme) → Writes B m lim ss c ts out → Parts B m lim xs ys c ts out) → Writes B m lim (Do a ∷ ss) b us out → Parts B m lim (Do a ∷ xs) ys b us out
unfolding Parts
act-head B m lim a xs ys ss {b = b} {us = us} f (Building w) = let y = f (m.act a b) us w in (y.0, y.1, y.2, y.3, Building y.4, y.5)

word-head : (B : Type 0) (m : Builder B) (lim : Limits) (n : Word) (d : ℕ) (xs ys ss : List Symbol) {b out : B} {us : List Lexeme}
    → ((c : B) (ts : List Lexeme) → Writes B m lim ss c ts out → Parts B m lim xs ys c ts out) → Writes B m lim (Nt n d ∷ ss) b us out → Parts B m lim (Nt n d ∷ xs) ys b us out
unfolding Parts
word-head B m lim n d xs ys ss {b = b} {us = us} f (Absent a e w) = let y = f (m.act a b) us w in (y.0, y.1, y.2, y.3, Absent a e y.4, y.5)
word-head B m lim n d xs ys ss {b = b} {us = us} f (Written w left right middle i h p e v x) =
    let y = f middle right x in
    (left ++ y.0, y.1, y.2, e ∙ ap (λ r. left ++ r) y.3 ∙ sym (append_assoc left y.0 y.1), Written w left y.0 middle i h p refl v y.4, y.5)

parted : (B : Type 0) (m : Builder B) (lim : Limits) (xs ys : List Symbol) (b out : B) (us : List Lexeme) → Writes B m lim (xs ++ ys) b us out → Parts B m lim xs ys b us out
unfolding Parts
parted B m lim [] ys b out us w = ([], us, b, refl, NoMore refl, w)
parted B m lim (Tk k ∷ xs) ys b out us w = token-head B m lim k xs ys (xs ++ ys) (λ c ts v. parted B m lim xs ys c out ts v) w
parted B m lim (Do a ∷ xs) ys b out us w = act-head B m lim a xs ys (xs ++ ys) (λ c ts v. parted B m lim xs ys c out ts v) w
parted B m lim (Nt n d ∷ xs) ys b out us w = word-head B m lim n d xs ys (xs ++ ys) (λ c ts v. parted B m lim xs ys c out ts v) w

pub written : (B : Type 0) (m : Builder B) (lim : Limits) {ss : List Symbol} {b out : B} {ts : List Lexeme} → Derives B m lim ss b ts out
    → (us : List Lexeme) × (e : Lexeme) × (e.kind ≡ t.End) × (ts ≡ us ++ (e ∷ [])) × Writes B m lim ss b us out
unfolding Parts
written B m lim (Ends {u = u} e o) = ([], u, e, refl, NoMore o)
written B m lim (Takes {u = u} e r) = let y = written B m lim r in (u ∷ y.0, y.1, y.2, ap (λ x. u ∷ x) y.3, OneToken e y.4)
written B m lim (Makes r) = let y = written B m lim r in (y.0, y.1, y.2, y.3, Building y.4)
written B m lim (Skips a e r) = let y = written B m lim r in (y.0, y.1, y.2, y.3, Absent a e y.4)
written B m lim (Opens {n = n} {d = d} {ss = ss} {b = b} {out = out} w i h p r) =
    let y = written B m lim r in
    let z = parted B m lim (deeper d w.symbols) ss b out y.0 y.4 in
    (y.0, y.1, y.2, y.3, Written w z.0 z.1 z.2 i h p z.3 z.4 z.5)

pub derived : (B : Type 0) (m : Builder B) (lim : Limits) (ss : List Symbol) (b out : B) (us : List Lexeme) (e : Lexeme) → e.kind ≡ t.End → Writes B m lim ss b us out → Derives B m lim ss b (us ++ (e ∷ [])) out
derived B m lim ss b out us e k w = subst (λ x. Derives B m lim x b (us ++ (e ∷ [])) out) (append-nil ss) (joined B m lim w [] (e ∷ []) out (Ends k refl))
