-- No way has more than 16 parts.
use Rattle.std.proofs.Common.{◌≡◌, sym, refl, ap, subst, ℕ, suc, ◌+◌, ◌-◌, ◌*◌, ◌<◌, ◌≤◌, Bool, true, ◌&&◌, nat_le, inl, inr, List, [], ◌∷◌, ◌++◌, length, length-append, Option, Some, None, arith, leb-true}
use Rattle.py_grammar.specs.declared.symbol.Limits.{Limits}
use Rattle.py_grammar.specs.declared.symbol.Symbol.{Symbol}
use Rattle.py_grammar.specs.declared.symbol.Symbol.TheVariants as symbol
use Rattle.py_grammar.specs.declared.terminal.Terminal.{Terminal}
use Rattle.py_grammar.specs.declared.word.Word.{Word}
use Rattle.py_grammar.specs.declared.word.Word.TheVariants as w
use Rattle.py_grammar.specs.Reading.{pick}
use Rattle.py_grammar.specs.Table.{ways}
use Rattle.py_grammar.specs.Ways.{Way}
use Rattle.py_grammar.specs.Writing.{Among, deeper}
use Rattle.py_grammar.proofs.SetLaws.{both, pick-among}
use Rattle.py_parser.specs.declared.builder.Building.{Building}
use Rattle.py_parser.specs.declared.reading.Opened.{Opened}
use Rattle.py_parser.specs.declared.reading.Opened.TheVariants as opened
use Rattle.py_parser.specs.Stepping.{OpenedBy}

small : List Way → Bool
small [] = true
small (v ∷ vs) = nat_le (length v.symbols) 16 && small vs

ways_small : (n : Word) → small (ways n) ≡ true
unfolding ways small
ways_small w.Statements = refl
ways_small w.Statement = refl
ways_small w.IfTail = refl
ways_small w.TryTail = refl
ways_small w.Handler = refl
ways_small w.HandlersTail = refl
ways_small w.Caught = refl
ways_small w.AsName = refl
ways_small w.Final = refl
ways_small w.FinalTail = refl
ways_small w.Parameters = refl
ways_small w.ParametersTail = refl
ways_small w.Base = refl
ways_small w.Suite = refl
ways_small w.Simple = refl
ways_small w.SimpleTail = refl
ways_small w.ReturnTail = refl
ways_small w.RaiseTail = refl
ways_small w.RaiseArguments = refl
ways_small w.NamesTail = refl
ways_small w.Targets = refl
ways_small w.TargetsTail = refl
ways_small w.TargetItems = refl
ways_small w.TargetItemsTail = refl
ways_small w.Target = refl
ways_small w.TargetTail = refl
ways_small w.Place = refl
ways_small w.PlaceTail = refl
ways_small w.Exprs = refl
ways_small w.ExprsTail = refl
ways_small w.Items = refl
ways_small w.ItemsTail = refl
ways_small w.Expr = refl
ways_small w.ExprTail = refl
ways_small w.LambdaNames = refl
ways_small w.LambdaTail = refl
ways_small w.Either = refl
ways_small w.EitherTail = refl
ways_small w.EitherMore = refl
ways_small w.Both = refl
ways_small w.BothTail = refl
ways_small w.BothMore = refl
ways_small w.Inverse = refl
ways_small w.Compare = refl
ways_small w.CompareTail = refl
ways_small w.CompareMore = refl
ways_small w.Link = refl
ways_small w.IsRight = refl
ways_small w.Bits = refl
ways_small w.BitsTail = refl
ways_small w.Differences = refl
ways_small w.DifferencesTail = refl
ways_small w.Commons = refl
ways_small w.CommonsTail = refl
ways_small w.Shifts = refl
ways_small w.ShiftsTail = refl
ways_small w.Sums = refl
ways_small w.SumsTail = refl
ways_small w.Products = refl
ways_small w.ProductsTail = refl
ways_small w.Unary = refl
ways_small w.Power = refl
ways_small w.PowerTail = refl
ways_small w.Postfix = refl
ways_small w.PostfixTail = refl
ways_small w.Arguments = refl
ways_small w.ArgumentsTail = refl
ways_small w.Atom = refl
ways_small w.Other = refl
ways_small w.Inside = refl
ways_small w.Pairs = refl
ways_small w.PairsTail = refl
ways_small w.LineEnd = refl

small_among : (v : Way) (vs : List Way) → Among v vs → small vs ≡ true → length v.symbols ≤ 16
unfolding small
small_among v [] i h = absurd i
small_among v (u ∷ us) (inl e) h = subst (λ x. length x.symbols ≤ 16) (sym e) (leb-true (length u.symbols) 16 (both (nat_le (length u.symbols) 16) (small us) h).0)
small_among v (u ∷ us) (inr i) h = small_among v us i (both (nat_le (length u.symbols) 16) (small us) h).1

deeper_length : (d : ℕ) (ss : List Symbol) → length (deeper d ss) ≡ length ss
deeper_length d [] = refl
deeper_length d (symbol.Terminal k ∷ ss) = ap (λ n. suc n) (deeper_length d ss)
deeper_length d (symbol.Word n e ∷ ss) = ap (λ n. suc n) (deeper_length d ss)
deeper_length d (symbol.Act a ∷ ss) = ap (λ n. suc n) (deeper_length d ss)

-- a word that is opened lets the stack grow by no more
pub grown : (lim : Limits) (d : ℕ) (b : Building) (old new : List Symbol) (n : Word) (k : Terminal) (p : Option Way) → pick (ways n) k ≡ p
    → OpenedBy lim d b old new n opened.Open p → length new ≤ length old + 16
grown lim d b old new n k (Some v) e h =
    let size : length v.symbols ≤ 16 = small_among v (ways n) (pick-among k v (ways n) e) (ways_small n) in
    let long : length (deeper d v.symbols ++ old) ≡ length (deeper d v.symbols) + length old = length-append (deeper d v.symbols) old in
    let same : length (deeper d v.symbols) ≡ length v.symbols = deeper_length d v.symbols in
    let all : length new ≡ length (deeper d v.symbols ++ old) = ap (λ x. length x) h.1 in
    omega (arith, size, long, same, all)
grown lim d b old new n k None e h = absurd h

-- so each way that is opened leaves less to do
pub falls : (lim : Limits) (d bound : ℕ) (b : Building) (top : Symbol) (stack old new : List Symbol) (n : Word) (k : Terminal) (o : Opened)
    → OpenedBy lim d b old new n o (pick (ways n) k) → o ≡ opened.Open → stack ≡ top ∷ old → (bound ≡ 0 → ⊥) → 16 * (bound - 1) + length new < 16 * bound + length stack
falls lim d bound b top stack old new n k o h e s z =
    let more : length new ≤ length old + 16 = grown lim d b old new n k (pick (ways n) k) refl (subst (λ x. OpenedBy lim d b old new n x (pick (ways n) k)) e h) in
    let one : length stack ≡ suc (length old) = ap (λ x. length x) s in
    omega (arith, more, one, z)
