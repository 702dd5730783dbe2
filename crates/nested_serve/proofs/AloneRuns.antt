-- The run of a script alone, by that of its side.
use Rattle.std.proofs.Common.{◌≡◌, ◌+◌, ◌-◌, ◌≤◌, ℕ, [], sym, subst, ◌∙◌, ap, arith}
use Rattle.py_ast.specs.declared.program.Program.{Program}
use Rattle.side_trees.specs.Trees.{Done, Stopped, NoFuel}
use Rattle.language_rules.proofs.AloneLaw.{script_alone}
use Rattle.language_rules.specs.OneInterpreter.{ScriptCourse, solo_course, units_left}
use Rattle.language_rules.specs.Running.{IsRunOfOne, ScriptEnd}
use Rattle.language_rules.specs.Starting.{first_state}
use Rattle.nested_serve.specs.declared.alone.AloneRun.{AloneRun}
use Rattle.nested_serve.specs.declared.machine.Halt.{Halt}
use Rattle.nested_serve.specs.declared.machine.Halt.TheVariants as halt
use Rattle.nested_serve.specs.declared.machine.Machine.{Machine}
use Rattle.eval_frames.specs.declared.next.Next.{Next}
use Rattle.language_rules.specs.States.{State}
use Rattle.nested_serve.specs.Alone.{IsEndOf, IsRunAlone, IsRunOf}
use Rattle.nested_serve.specs.Machines.{Begins, Ends, Halts, course, printed_by, state_in}

spent : (fuel left here : ℕ) → left ≤ fuel → here ≡ left → fuel ≡ here + (fuel - left)
spent fuel left here h e = omega arith

-- by the end of the side's run
pub by_end : (c : ScriptCourse) (fixed : State) (e : ScriptEnd) (m : Machine) (h : Halt) (fuel left : ℕ) (r : AloneRun)
    → IsRunOfOne c e → Ends fixed e h m left → left ≤ fuel → IsEndOf h r.end → r.printed ≡ printed_by m → r.units ≡ fuel - left → IsRunOf c fuel r
by_end c fixed e m (halt.Done a) fuel left r one ends less is p u =
    let k : IsRunOfOne c (Done a (state_in fixed m) left (printed_by m)) = subst (λ (x : ScriptEnd). IsRunOfOne c x) ends one in
    (k.0 ∙ sym is, k.1 ∙ sym p, spent fuel left (units_left c) less k.2 ∙ ap (λ (n : ℕ). units_left c + n) (sym u))
by_end c fixed e m halt.OutOfFuel fuel left r one ends less is p u =
    let k : IsRunOfOne c (NoFuel (state_in fixed m) (printed_by m)) = subst (λ (x : ScriptEnd). IsRunOfOne c x) ends.0 one in
    (k.0 ∙ sym is, k.1 ∙ sym p, spent fuel left (units_left c) less (k.2 ∙ sym ends.1) ∙ ap (λ (n : ℕ). units_left c + n) (sym u))
by_end c fixed e m (halt.Beyond b) fuel left r one ends less is p u =
    let k : IsRunOfOne c (Stopped b (state_in fixed m) left (printed_by m)) = subst (λ (x : ScriptEnd). IsRunOfOne c x) ends one in
    (k.0 ∙ sym is, k.1 ∙ sym p, spent fuel left (units_left c) less k.2 ∙ ap (λ (n : ℕ). units_left c + n) (sym u))

pub alone : (program : Program) (start m : Machine) (n : Next) (h : Halt) (fuel left : ℕ) (r : AloneRun)
    → Begins program start n → Halts start n fuel h m left → left ≤ fuel → IsEndOf h r.end → r.printed ≡ printed_by m → r.units ≡ fuel - left → IsRunAlone program fuel r
alone program start m n h fuel left r begins halts less is p u reader =
    by_end (solo_course reader program fuel) (first_state reader []) (course (first_state reader []) start n fuel) m h fuel left r
    (subst (λ (x : ScriptEnd). IsRunOfOne (solo_course reader program fuel) x) (begins reader fuel) (script_alone reader program fuel))
    (halts (first_state reader [])) less is p u
