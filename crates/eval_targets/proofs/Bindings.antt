-- What comes of the binding of a name, in every run.
use Rattle.std.proofs.Common.{◌≡◌, List, Result, Ok, Err, IfOk, OnErr, sym, ◌∙◌, ap, subst}
use Rattle.rp_base.specs.declared.ends.NoMemory.{NoMemory}
use Rattle.rp_base.specs.declared.ends.OpEnd.{OpEnd}
use Rattle.rp_base.specs.declared.ends.OpEnd.TheVariants as op_end
use Rattle.py_ast.specs.declared.program.Program.{Program}
use Rattle.py_store.specs.Cells.{Cells}
use Rattle.language_rules.specs.AtOnce.{Comes, stated}
use Rattle.language_rules.specs.Going.{RuleTree}
use Rattle.language_rules.specs.Running.{runs}
use Rattle.language_rules.specs.States.{State}
use Rattle.eval_frames.specs.declared.frame.Frame.{Frame}
use Rattle.eval_frames.specs.declared.next.Next.{Next}
use Rattle.eval_frames.specs.Meaning.{MeansIn, MeansOver, meant}
use Rattle.eval_names.specs.Bound.{as_done}

-- an end without a value says nothing of the state that a value would leave
comes_without : (t : RuleTree) (s kept now : State) (e : OpEnd) → Comes t s (Err e) now kept → Comes t s (Err e) kept kept
comes_without t s kept now (op_end.Raise r) h = h
comes_without t s kept now (op_end.Beyond b) h = h
comes_without t s kept now op_end.NoMemory h = h

-- the name is not bound, and the cells are kept
left_over : (t : RuleTree) (before after : Cells) (texts : List Program) (n : Next) (e : OpEnd)
    → ((s : State) (t : RuleTree) (stack : List Frame) → Comes t s (Err e) s s → MeansIn s stack n t stack)
    → after ≡ before
    → ((fixed : State) → Comes t (stated fixed before.cells texts) (Err e) (stated fixed after.cells texts) (stated fixed before.cells texts))
    → (fixed : State) (stack : List Frame) → MeansOver (stated fixed before.cells texts) (stated fixed after.cells texts) stack n t stack
left_over t before after texts n e answered kept h fixed stack units printed =
    answered (stated fixed before.cells texts) t stack (comes_without t (stated fixed before.cells texts) (stated fixed before.cells texts) (stated fixed after.cells texts) e (h fixed)) units printed
    ∙ ap (λ (store : Cells). runs units (meant stack n) (stated fixed store.cells texts) printed) (sym kept)

pub not_bound : (t : RuleTree) (before after : Cells) (texts : List Program) (e : OpEnd) (answer : Result (Unit {0}) OpEnd) (result : Result Next NoMemory)
    → answer ≡ Err e
    → ((fixed : State) → Comes t (stated fixed before.cells texts) (as_done answer) (stated fixed after.cells texts) (stated fixed before.cells texts))
    → OnErr answer (after ≡ before)
    → IfOk result (λ n. (s : State) (t : RuleTree) (stack : List Frame) → Comes t s (Err e) s s → MeansIn s stack n t stack)
    → IfOk result (λ n. (fixed : State) (stack : List Frame) → MeansOver (stated fixed before.cells texts) (stated fixed after.cells texts) stack n t stack)
not_bound t before after texts e answer (Err x) is comes kept h = h
not_bound t before after texts e answer (Ok n) is comes kept h =
    left_over t before after texts n e h
    (subst (λ (a : Result (Unit {0}) OpEnd). OnErr a (after ≡ before)) is kept)
    (subst (λ (a : Result (Unit {0}) OpEnd). (fixed : State) → Comes t (stated fixed before.cells texts) (as_done a) (stated fixed after.cells texts) (stated fixed before.cells texts)) is comes)
