-- An endpoint's steps, by those of its machine.
use Rattle.std.proofs.Common.{◌≡◌, ◌+◌, ◌-◌, ◌≤◌, ℕ, [], Some, None, refl, sym, subst, ap, ◌∙◌, arith}
use Rattle.rp_base.specs.declared.exceptions.Beyond.{Beyond}
use Rattle.py_ast.specs.declared.program.Program.{Program}
use Rattle.side_trees.specs.Trees.{Done, Stopped}
use Rattle.language_rules.proofs.AloneLaw.{script_alone}
use Rattle.language_rules.specs.OneInterpreter.{solo_course}
use Rattle.language_rules.specs.Rules.{expand}
use Rattle.language_rules.specs.Running.{IsRunOfOne, ScriptEnd, prints_behind, runs}
use Rattle.language_rules.specs.Starting.{Reader, first_state, text_of}
use Rattle.language_rules.specs.States.{State}
use Rattle.eval_frames.specs.declared.next.Next.{Next}
use Rattle.eval_frames.specs.Meaning.{meant}
use Rattle.nested_serve.specs.declared.alone.AloneEnd.{AloneEnd}
use Rattle.nested_serve.specs.declared.alone.AloneEnd.TheVariants as end
use Rattle.nested_serve.specs.declared.endpoint.StepEnd.{StepEnd}
use Rattle.nested_serve.specs.declared.endpoint.StepEnd.TheVariants as step
use Rattle.nested_serve.specs.declared.endpoint.TextEnd.{TextEnd}
use Rattle.nested_serve.specs.declared.endpoint.Turn.{Turn}
use Rattle.nested_serve.specs.declared.endpoint.Turn.TheVariants as turn
use Rattle.nested_serve.specs.declared.machine.Halt.{Halt}
use Rattle.nested_serve.specs.declared.machine.Halt.TheVariants as halt
use Rattle.nested_serve.specs.declared.machine.Machine.{Machine}
use Rattle.nested_serve.specs.declared.running.Progress.{Progress}
use Rattle.nested_serve.specs.declared.running.Progress.TheVariants as progress
use Rattle.nested_serve.specs.Alone.{IsEndOf, IsRunAlone, IsRunOf}
use Rattle.nested_serve.specs.Endpoints.{Answers, IsTurnAfter, IsTurnOf, StandsAt, ahead_at, answer_after, answer_at, answer_to, end_at, run_over, told_end}
use Rattle.nested_serve.specs.Machines.{Advances, Ends, Halts, LeavesRun, ahead, course, printed_by, state_in}
use Rattle.nested_serve.proofs.AloneRuns.{by_end}
use Rattle.eval_suites.proofs.UnitsLeft.{HadUnits, left_at, others_left, with_left}

-- ---- where an endpoint stands

-- nothing was spent at the beginning
pub at_first : (program : Program) (m : Machine) (n : Next) → ((reader : Reader) (more : ℕ) → runs more (text_of program) (first_state reader []) [] ≡ course (first_state reader []) m n more) → StandsAt program 0 m (turn.Next n)
at_first program m n begins reader more =
    let none : 0 + more ≡ more = omega arith in
    ap {B = ScriptEnd} (λ (u : ℕ). runs u (text_of program) (first_state reader []) []) none ∙ begins reader more

-- nothing was spent
pub stays : (program : Program) (spent units : ℕ) (m : Machine) (t : Turn) → StandsAt program spent m t → StandsAt program (spent + (units - units)) m t
stays program spent units m t h =
    let same : spent ≡ spent + (units - units) = omega arith in
    subst (λ (u : ℕ). StandsAt program u m t) same h

-- one step of a text that runs on
runs_on : (program : Program) (spent units left : ℕ) (m m' : Machine) (n n' : Next) → StandsAt program spent m (turn.Next n) → LeavesRun m n (units - left) m' n' → StandsAt program (spent + (units - left)) m' (turn.Next n')
runs_on program spent units left m m' n n' stands leaves reader more =
    let grouped : (spent + (units - left)) + more ≡ spent + ((units - left) + more) = omega arith in
    ap {B = ScriptEnd} (λ (u : ℕ). runs u (text_of program) (first_state reader []) []) grouped ∙ stands reader ((units - left) + more) ∙ leaves (first_state reader []) more

-- ---- ends

-- the last step with those that it spent and any more
with_others : (fixed : State) (m m' : Machine) (n : Next) (units left more : ℕ) (e : ScriptEnd) → course fixed m n units ≡ e → HadUnits e → left_at e ≡ left
    → course fixed m n ((units - left) + more) ≡ with_left more e
with_others fixed m m' n units left more e h had l =
    let had' : HadUnits (course fixed m n units) = subst (λ (x : ScriptEnd). HadUnits x) (sym h) had in
    let here : left ≡ left_at (course fixed m n units) = sym l ∙ sym (ap left_at h) in
    ap {B = ScriptEnd} (λ (k : ℕ). course fixed m n ((units - k) + more)) here
    ∙ others_left expand prints_behind units more (meant m.stack.items n) (state_in fixed m) (printed_by m) had'
    ∙ ap (with_left more) h

spent_here : (spent more : ℕ) → spent ≡ (spent + more) - more
spent_here spent more = omega arith

-- what the run of one came to, by the end of the side's
comes_to : (program : Program) (reader : Reader) (m m' : Machine) (n : Next) (h : Halt) (e : AloneEnd) (spent given more : ℕ) → IsEndOf h e
    → runs (spent + more) (text_of program) (first_state reader []) [] ≡ course (first_state reader []) m n given
    → Ends (first_state reader []) (course (first_state reader []) m n given) h m' more
    → IsRunOf (solo_course reader program (spent + more)) (spent + more) (run_over e m' spent)
comes_to program reader m m' n h e spent given more is same ends =
    let less : more ≤ spent + more = omega arith in
    by_end (solo_course reader program (spent + more)) (first_state reader []) (course (first_state reader []) m n given) m' h (spent + more) more (run_over e m' spent)
    (subst (λ (x : ScriptEnd). IsRunOfOne (solo_course reader program (spent + more)) x) same (script_alone reader program (spent + more)))
    ends less is refl (spent_here spent more)

-- the script's run with those that were spent and any more, by the side's with those of this step and any more
grouped_run : (program : Program) (reader : Reader) (m : Machine) (n : Next) (spent units left more : ℕ) → StandsAt program spent m (turn.Next n)
    → runs ((spent + (units - left)) + more) (text_of program) (first_state reader []) [] ≡ course (first_state reader []) m n ((units - left) + more)
grouped_run program reader m n spent units left more stands =
    let grouped : (spent + (units - left)) + more ≡ spent + ((units - left) + more) = omega arith in
    ap {B = ScriptEnd} (λ (u : ℕ). runs u (text_of program) (first_state reader []) []) grouped ∙ stands reader ((units - left) + more)

out_of_units : (program : Program) (reader : Reader) (m m' : Machine) (n : Next) (spent units left : ℕ) → StandsAt program spent m (turn.Next n) → left ≤ units → Ends (first_state reader []) (course (first_state reader []) m n units) halt.OutOfFuel m' left
    → IsRunOf (solo_course reader program (spent + (units - left))) (spent + (units - left)) (run_over end.OutOfFuel m' (spent + (units - left)))
out_of_units program reader m m' n spent units left stands less ends =
    let all : spent + units ≡ (spent + (units - left)) + 0 = omega (arith, ends.1) in
    let same : (spent + (units - left)) + 0 ≡ spent + (units - left) = omega arith in
    subst (λ (u : ℕ). IsRunOf (solo_course reader program u) u (run_over end.OutOfFuel m' (spent + (units - left)))) same
    (comes_to program reader m m' n halt.OutOfFuel end.OutOfFuel (spent + (units - left)) units 0 refl
    (ap {B = ScriptEnd} (λ (u : ℕ). runs u (text_of program) (first_state reader []) []) (sym all) ∙ stands reader units)
    (ends.0, refl))

-- the last step of a text that ran
ends_at : (program : Program) (spent units left : ℕ) (m m' : Machine) (n : Next) (h : Halt) (t : Turn) → StandsAt program spent m (turn.Next n) → left ≤ units → Halts m n units h m' left → IsTurnOf h t
    → StandsAt program (spent + (units - left)) m' t
ends_at program spent units left m m' n (halt.Done a) (turn.Ended e) stands less halts is = λ more reader.
    comes_to program reader m m' n (halt.Done a) (told_end e) (spent + (units - left)) ((units - left) + more) more is
    (grouped_run program reader m n spent units left more stands)
    (with_others (first_state reader []) m m' n units left more (Done a (state_in (first_state reader []) m') left (printed_by m')) (halts (first_state reader [])) tt refl)
ends_at program spent units left m m' n (halt.Done a) (turn.Next k) stands less halts is = absurd is
ends_at program spent units left m m' n (halt.Done a) turn.NoFuel stands less halts is = absurd is
ends_at program spent units left m m' n (halt.Done a) (turn.Beyond b) stands less halts is = absurd is
ends_at program spent units left m m' n (halt.Done a) turn.NoMemory stands less halts is = absurd is
ends_at program spent units left m m' n halt.OutOfFuel t stands less halts is =
    subst (λ (x : Turn). StandsAt program (spent + (units - left)) m' x) (sym is)
    (λ reader. out_of_units program reader m m' n spent units left stands less (halts (first_state reader [])))
ends_at program spent units left m m' n (halt.Beyond b) t stands less halts is =
    subst (λ (x : Turn). StandsAt program (spent + (units - left)) m' x) (sym is)
    (λ more reader.
    comes_to program reader m m' n (halt.Beyond b) (end.Beyond b) (spent + (units - left)) ((units - left) + more) more refl
    (grouped_run program reader m n spent units left more stands)
    (with_others (first_state reader []) m m' n units left more (Stopped b (state_in (first_state reader []) m') left (printed_by m')) (halts (first_state reader [])) tt refl))

-- ---- answers

-- a reader of no text
no_reader : Reader
no_reader = record { script = λ text. None; expression = λ text. None }

none_left : (m m' : Machine) (n : Next) (units left : ℕ) → Halts m n units halt.OutOfFuel m' left → left ≡ 0
none_left m m' n units left halts = (halts (first_state no_reader [])).1

some_ahead : (k : ℕ) → 1 ≤ k + 1
some_ahead k = omega arith

nearer : (now before : ℕ) → now + 1 ≤ before → (now + 1) + 1 ≤ before + 1
nearer now before h = omega (arith, h)

answers_to : (units left ahead_before : ℕ) (m m' : Machine) (n : Next) (h : Halt) (t : Turn) → 1 ≤ ahead_before → Halts m n units h m' left → IsTurnOf h t → Answers ahead_before (answer_to h) (ahead_at m' t left) (answer_at t) left
answers_to units left ahead_before m m' n (halt.Done a) (turn.Ended e) some halts is = (tt, omega (arith, some))
answers_to units left ahead_before m m' n (halt.Done a) (turn.Next k) some halts is = absurd is
answers_to units left ahead_before m m' n (halt.Done a) turn.NoFuel some halts is = absurd is
answers_to units left ahead_before m m' n (halt.Done a) (turn.Beyond b) some halts is = absurd is
answers_to units left ahead_before m m' n (halt.Done a) turn.NoMemory some halts is = absurd is
answers_to units left ahead_before m m' n halt.OutOfFuel t some halts is = (ap answer_at is, none_left m m' n units left halts)
answers_to units left ahead_before m m' n (halt.Beyond b) t some halts is = ap answer_at is

answered : (units left ahead_before : ℕ) (m m' : Machine) (n : Next) (h : Halt) (t : Turn) (answer : StepEnd) → 1 ≤ ahead_before → Halts m n units h m' left → IsTurnOf h t → answer ≡ answer_to h → Answers ahead_before answer (ahead_at m' t left) (answer_at t) left
answered units left ahead_before m m' n h t answer some halts is e =
    subst (λ (x : StepEnd). Answers ahead_before x (ahead_at m' t left) (answer_at t) left) (sym e) (answers_to units left ahead_before m m' n h t some halts is)

-- ---- a step

pub stands_after : (program : Program) (spent units left : ℕ) (m m' : Machine) (n : Next) (p : Progress) (t : Turn) → StandsAt program spent m (turn.Next n) → left ≤ units → Advances m n units p m' left → IsTurnAfter p t
    → StandsAt program (spent + (units - left)) m' t
stands_after program spent units left m m' n (progress.On further) t stands less goes is =
    subst (λ (x : Turn). StandsAt program (spent + (units - left)) m' x) (sym is) (runs_on program spent units left m m' n further stands goes.0)
stands_after program spent units left m m' n (progress.Halted h) t stands less goes is = ends_at program spent units left m m' n h t stands less goes is

went : (units left : ℕ) (m m' : Machine) (n further : Next) → ahead m' further left + 1 ≤ ahead m n units → Answers (ahead m n units + 1) step.Went (ahead_at m' (turn.Next further) left) (answer_at (turn.Next further)) left
went units left m m' n further less = (tt, nearer (ahead m' further left) (ahead m n units) less)

pub answers_after : (units left : ℕ) (m m' : Machine) (n : Next) (p : Progress) (t : Turn) (answer : StepEnd) → Advances m n units p m' left → IsTurnAfter p t → answer ≡ answer_after p
    → Answers (ahead m n units + 1) answer (ahead_at m' t left) (answer_at t) left
answers_after units left m m' n (progress.On further) t answer goes is e =
    let here : Answers (ahead m n units + 1) step.Went (ahead_at m' t left) (answer_at t) left = subst (λ (x : Turn). Answers (ahead m n units + 1) step.Went (ahead_at m' x left) (answer_at x) left) (sym is) (went units left m m' n further goes.1) in
    subst (λ (x : StepEnd). Answers (ahead m n units + 1) x (ahead_at m' t left) (answer_at t) left) (sym e) here
answers_after units left m m' n (progress.Halted h) t answer goes is e = answered units left (ahead m n units + 1) m m' n h t answer (some_ahead (ahead m n units)) goes is e

-- ---- what an endpoint tells

pub ended : (program : Program) (spent more : ℕ) (m : Machine) (t : Turn) (e : TextEnd) → StandsAt program spent m t → end_at t ≡ Some e → IsRunAlone program (spent + more) (run_over (told_end e) m spent)
ended program spent more m (turn.Ended e') e stands h =
    let same : e' ≡ e = cc in
    subst (λ (x : TextEnd). IsRunAlone program (spent + more) (run_over (told_end x) m spent)) same (stands more)
ended program spent more m (turn.Next n) e stands h = cc
ended program spent more m turn.NoFuel e stands h = cc
ended program spent more m (turn.Beyond b) e stands h = cc
ended program spent more m turn.NoMemory e stands h = cc

pub out_of_fuel : (program : Program) (spent : ℕ) (m : Machine) (t : Turn) → StandsAt program spent m t → answer_at t ≡ Some step.NoFuel → IsRunAlone program spent (run_over end.OutOfFuel m spent)
out_of_fuel program spent m (turn.Ended e) stands h = cc
out_of_fuel program spent m (turn.Next n) stands h = cc
out_of_fuel program spent m turn.NoFuel stands h = stands
out_of_fuel program spent m (turn.Beyond b) stands h = cc
out_of_fuel program spent m turn.NoMemory stands h = cc

pub beyond_subset : (program : Program) (spent more : ℕ) (m : Machine) (t : Turn) (b : Beyond) → StandsAt program spent m t → answer_at t ≡ Some (step.Beyond b) → IsRunAlone program (spent + more) (run_over (end.Beyond b) m spent)
beyond_subset program spent more m (turn.Ended e) b stands h = cc
beyond_subset program spent more m (turn.Next n) b stands h = cc
beyond_subset program spent more m turn.NoFuel b stands h = cc
beyond_subset program spent more m (turn.Beyond b') b stands h =
    let same : b' ≡ b = cc in
    subst (λ (x : Beyond). IsRunAlone program (spent + more) (run_over (end.Beyond x) m spent)) same (stands more)
beyond_subset program spent more m turn.NoMemory b stands h = cc

pub idle : (t : Turn) → answer_at t ≡ Some step.Idle → (e : TextEnd) × (end_at t ≡ Some e)
idle (turn.Ended e) h = (e, refl)
idle (turn.Next n) h = cc
idle turn.NoFuel h = cc
idle (turn.Beyond b) h = cc
idle turn.NoMemory h = cc

pub only_idle : (t : Turn) (e : TextEnd) → end_at t ≡ Some e → answer_at t ≡ Some step.Idle
only_idle (turn.Ended k) e h = refl
only_idle (turn.Next n) e h = cc
only_idle turn.NoFuel e h = cc
only_idle (turn.Beyond b) e h = cc
only_idle turn.NoMemory e h = cc
