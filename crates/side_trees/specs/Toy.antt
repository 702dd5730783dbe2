-- A small language as an instance: counters as cells, functions that call back, a loop that drains a counter of either side until it raises.
use Rattle.std.specs.Prelude.{Bool, true, false, List, [], ◌∷◌, ◌++◌, length, ℕ, zero, suc, ◌≡◌, Option, None, Some}
use Rattle.std.proofs.Common.{refl, ap}
use Rattle.side_trees.specs.Trees.{Tree, Return, Act, Tell, Stop, Spend, Do, Ask}
use Rattle.side_trees.specs.Sides.{Lang}
use Rattle.side_trees.specs.SharedRun.{Side, A, B, other, Heap}

-- a value as a side sees it: an int, a cell of its own by number, a cell of the other side by identity (here its number)
pub data Value : Type 0 where
  Int Own Far : ℕ → Value

pub data Outcome : Type 0 where
  Gives : Value → Outcome
  Raises : ℕ → Outcome

-- a value as it crosses: an int, a cell of the sender, a cell of the receiver
pub data Boxed : Type 0 where
  Plain Mine Yours : ℕ → Boxed

pub data BoxedOutcome : Type 0 where
  Answers : Boxed → BoxedOutcome
  Faults : ℕ → BoxedOutcome

-- what is asked of the other side: one step of a counter, a new counter, a call of a function
pub data Question : Type 0 where
  Step : ℕ → Question
  Make : ℕ → Question
  Call : ℕ → Value → Question

pub data BoxedQuestion : Type 0 where
  BoxedStep : ℕ → BoxedQuestion
  BoxedMake : ℕ → BoxedQuestion
  BoxedCall : ℕ → Boxed → BoxedQuestion

pub data Way : Type 0 where
  Left : Way

-- Says n prints n. Counts k takes a step of the own counter k. Makes n makes a counter of n steps. Calls f v is the own function f with v.
-- Drains v takes steps of v until it raises, Drained v o goes on with it after the answer o, Borrows n drains a new counter of the other side (Borrowed o once it is there).
-- Lends n f calls the other side's function f with a new own counter, Asks q asks, Hands o gives o, Then c d is c and then d.
pub data Code : Type 0 where
  Says Counts Makes Borrows : ℕ → Code
  Calls : ℕ → Value → Code
  Drains : Value → Code
  Drained : Value → Outcome → Code
  Lends : ℕ → ℕ → Code
  Asks : Question → Code
  Hands : Outcome → Code
  Borrowed : Outcome → Code
  Then : Code → Code → Code

abbrev pub ToyTree : Type 0
ToyTree = Tree Code (List ℕ) Question Outcome Way ℕ

-- the steps left of the k-th counter, and the counters after its step
abbrev pub counter : ℕ → List ℕ → Option ℕ
counter k [] = None
counter zero (n ∷ ns) = Some n
counter (suc k) (n ∷ ns) = counter k ns

abbrev pub stepped : ℕ → List ℕ → List ℕ
stepped k [] = []
stepped zero (zero ∷ ns) = zero ∷ ns
stepped zero (suc n ∷ ns) = n ∷ ns
stepped (suc k) (n ∷ ns) = n ∷ stepped k ns

-- a step gives the steps that are left, or raises; a counter that is not there is outside the subset
abbrev pub step_of : Option ℕ → ToyTree
step_of None = Stop Left
step_of (Some zero) = Return (Raises zero)
step_of (Some (suc n)) = Return (Gives (Int n))

-- one step of v, at home or asked of the other side, and on with the loop
abbrev pub drain : Value → ToyTree
drain (Int n) = Return (Raises n)
drain (Own k) = Do (Counts k) (λ o. Drained (Own k) o) (λ o. Return o)
drain (Far k) = Ask (Step k) (λ o. Drained (Far k) o) (λ o. Return o)

-- each item is printed where the loop runs; the exception ends the loop
abbrev pub drained : Value → Outcome → ToyTree
drained v (Raises n) = Return (Gives (Int n))
drained v (Gives (Int n)) = Tell n (drain v)
drained v (Gives (Own k)) = drain v
drained v (Gives (Far k)) = drain v

-- on with a value; an exception is handed on
abbrev pub with_value : (Value → ToyTree) → Outcome → ToyTree
with_value f (Gives v) = f v
with_value f (Raises n) = Return (Raises n)

-- the function of number f prints it and calls back that of the number before; the first drains what it is given
abbrev pub body : ℕ → Value → ToyTree
body zero v = Spend (Drains v) (λ o. Return o)
body (suc f) v = Tell (suc f) (Ask (Call f v) (λ o. Hands o) (λ o. Return o))

abbrev pub rules : Code → ToyTree
rules (Says n) = Tell n (Return (Gives (Int zero)))
rules (Counts k) = Act (stepped k) (λ ns. step_of (counter k ns))
rules (Makes n) = Act (λ ns. ns ++ (n ∷ [])) (λ ns. Return (Gives (Own (length ns))))
rules (Borrows n) = Ask (Make n) (λ o. Borrowed o) (λ o. Return o)
rules (Calls f v) = body f v
rules (Drains v) = drain v
rules (Drained v o) = drained v o
rules (Lends n f) = Spend (Makes n) (with_value (λ v. Ask (Call f v) (λ o. Hands o) (λ o. Return o)))
rules (Asks q) = Ask q (λ o. Hands o) (λ o. Return o)
rules (Hands o) = Return o
rules (Borrowed o) = with_value drain o
rules (Then c d) = Spend c (with_value (λ v. Spend d (λ o. Return o)))

-- how a value crosses: what is mine for the sender is far for the receiver
abbrev pub boxed : Value → Boxed
boxed (Int n) = Plain n
boxed (Own k) = Mine k
boxed (Far k) = Yours k

abbrev pub unboxed : Boxed → Value
unboxed (Plain n) = Int n
unboxed (Mine k) = Far k
unboxed (Yours k) = Own k

abbrev pub box_question : Question → BoxedQuestion
box_question (Step k) = BoxedStep k
box_question (Make n) = BoxedMake n
box_question (Call f v) = BoxedCall f (boxed v)

abbrev pub code_of : BoxedQuestion → Code
code_of (BoxedStep k) = Counts k
code_of (BoxedMake n) = Makes n
code_of (BoxedCall f b) = Calls f (unboxed b)

abbrev pub box_outcome : Outcome → BoxedOutcome
box_outcome (Gives v) = Answers (boxed v)
box_outcome (Raises n) = Faults n

abbrev pub outcome_of : BoxedOutcome → Outcome
outcome_of (Answers b) = Gives (unboxed b)
outcome_of (Faults n) = Raises n

-- a text that raised is the last
abbrev pub gave : Outcome → Bool
gave (Gives v) = true
gave (Raises n) = false

abbrev pub toy : Lang
toy = record {
  C = Code;
  S = List ℕ;
  Q = Question;
  A = Outcome;
  K = Way;
  O = ℕ;
  Req = BoxedQuestion;
  Ans = BoxedOutcome;
  expand = rules;
  box_q = λ s q. box_question q;
  read_q = code_of;
  box_a = λ s o. box_outcome o;
  read_a = λ s m. outcome_of m;
  goes_on = gave;
}

-- One heap that is one list of cells, each with its home.
pub record Cell : Type 0 where
  pub home : Side
  pub steps : ℕ

-- the cells of a home, in order
abbrev pub at_home : Side → Side → ℕ → List ℕ → List ℕ
at_home A A n ns = n ∷ ns
at_home A B n ns = ns
at_home B A n ns = ns
at_home B B n ns = n ∷ ns

abbrev pub cells_of : Side → List Cell → List ℕ
cells_of h [] = []
cells_of h (c ∷ cs) = at_home h c.home c.steps (cells_of h cs)

-- the cells of home h with new contents: each in its place, more at the end; rest does so with the cells behind
abbrev pub cell : Side → ℕ → Cell
cell h n = record { home = h; steps = n }

abbrev pub added : Side → List ℕ → List Cell
added h [] = []
added h (n ∷ ns) = cell h n ∷ added h ns

abbrev pub placed : Side → Side → ℕ → List ℕ → (List ℕ → List Cell) → List Cell
placed A A m [] rest = rest []
placed A A m (n ∷ ns) rest = cell A n ∷ rest ns
placed A B m ns rest = cell B m ∷ rest ns
placed B A m ns rest = cell A m ∷ rest ns
placed B B m [] rest = rest []
placed B B m (n ∷ ns) rest = cell B n ∷ rest ns

abbrev pub replaced : Side → List ℕ → List Cell → List Cell
replaced h ns [] = added h ns
replaced h ns (c ∷ cs) = placed h c.home c.steps ns (λ ms. replaced h ms cs)

-- each side finds its cells as they were put, and the other's as they were
added-own : (h : Side) (ns : List ℕ) → cells_of h (added h ns) ≡ ns
added-own A [] = refl
added-own A (n ∷ ns) = ap (λ ms. n ∷ ms) (added-own A ns)
added-own B [] = refl
added-own B (n ∷ ns) = ap (λ ms. n ∷ ms) (added-own B ns)

added-across : (h : Side) (ns : List ℕ) → cells_of (other h) (added h ns) ≡ []
added-across A [] = refl
added-across A (n ∷ ns) = added-across A ns
added-across B [] = refl
added-across B (n ∷ ns) = added-across B ns

placed-own : (h k : Side) (m : ℕ) (ns : List ℕ) (rest : List ℕ → List Cell) → ((ms : List ℕ) → cells_of h (rest ms) ≡ ms) → cells_of h (placed h k m ns rest) ≡ ns
placed-own A A m [] rest f = f []
placed-own A A m (n ∷ ns) rest f = ap (λ ms. n ∷ ms) (f ns)
placed-own A B m ns rest f = f ns
placed-own B A m ns rest f = f ns
placed-own B B m [] rest f = f []
placed-own B B m (n ∷ ns) rest f = ap (λ ms. n ∷ ms) (f ns)

placed-across : (h k : Side) (m : ℕ) (ns : List ℕ) (rest : List ℕ → List Cell) (old : List ℕ) → ((ms : List ℕ) → cells_of (other h) (rest ms) ≡ old)
    → cells_of (other h) (placed h k m ns rest) ≡ at_home (other h) k m old
placed-across A A m [] rest old f = f []
placed-across A A m (n ∷ ns) rest old f = f ns
placed-across A B m ns rest old f = ap (λ ms. m ∷ ms) (f ns)
placed-across B A m ns rest old f = ap (λ ms. m ∷ ms) (f ns)
placed-across B B m [] rest old f = f []
placed-across B B m (n ∷ ns) rest old f = f ns

pub replaced-own : (h : Side) (ns : List ℕ) (cs : List Cell) → cells_of h (replaced h ns cs) ≡ ns
replaced-own h ns [] = added-own h ns
replaced-own h ns (c ∷ cs) = placed-own h c.home c.steps ns (λ ms. replaced h ms cs) (λ ms. replaced-own h ms cs)

pub replaced-across : (h : Side) (ns : List ℕ) (cs : List Cell) → cells_of (other h) (replaced h ns cs) ≡ cells_of (other h) cs
replaced-across h ns [] = added-across h ns
replaced-across h ns (c ∷ cs) = placed-across h c.home c.steps ns (λ ms. replaced h ms cs) (cells_of (other h) cs) (λ ms. replaced-across h ms cs)

abbrev pub cell_list : Heap toy
cell_list = record {
  W = List Cell;
  seen_by = cells_of;
  changed_by = λ h g cs. replaced h (g (cells_of h cs)) cs;
  seen_changed = λ h g cs. replaced-own h (g (cells_of h cs)) cs;
  seen_across = λ h g cs. replaced-across h (g (cells_of h cs)) cs;
}
