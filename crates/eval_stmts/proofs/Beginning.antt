-- How the clause of one statement is met by the step at it.
use Rattle.std.proofs.Common.{◌≡◌, List, Result, Ok, Err, IfOk, reverse, sym, ◌∙◌, ap}
use Rattle.rp_base.specs.declared.ends.NoMemory.{NoMemory}
use Rattle.py_ast.specs.declared.program.Program.{Program}
use Rattle.py_ast.specs.declared.statement.Statement.{Statement}
use Rattle.py_store.specs.declared.cell.Cell.{Cell}
use Rattle.side_trees.specs.Trees.{bind}
use Rattle.language_rules.specs.AtOnce.{stated}
use Rattle.language_rules.specs.Codes.{Env}
use Rattle.language_rules.specs.Going.{RuleTree}
use Rattle.language_rules.specs.Running.{runs}
use Rattle.language_rules.specs.States.{State}
use Rattle.language_rules.specs.Statements.{statement_rule}
use Rattle.eval_frames.specs.declared.frame.Frame.{Frame}
use Rattle.eval_frames.specs.declared.next.Next.{Next}
use Rattle.eval_frames.specs.Meaning.{Means, MeansIn, rest}

pub begun_in : (env : Env) (given form : Statement) (cells : List Cell) (texts : List Program) (now before : List Frame) (result : Result Next NoMemory)
    → given ≡ form → IfOk result (λ n. (s : State) → MeansIn s now n (statement_rule env form) before)
    → IfOk result (λ n. (fixed : State) → MeansIn (stated fixed cells texts) now n (statement_rule env given) before)
begun_in env given form cells texts now before (Ok n) is h = λ fixed units printed.
    ap (λ (st : Statement). runs units (bind (statement_rule env st) (rest (reverse before))) (stated fixed cells texts) printed) is ∙ h (stated fixed cells texts) units printed
begun_in env given form cells texts now before (Err e) is h = h

in_every : (t : RuleTree) (now before : List Frame) (result : Result Next NoMemory) → IfOk result (λ n. Means now n t before) → IfOk result (λ n. (s : State) → MeansIn s now n t before)
in_every t now before (Ok n) h = λ s units printed. ap (λ (u : RuleTree). runs units u s printed) (sym h)
in_every t now before (Err e) h = h

pub begun : (env : Env) (given form : Statement) (cells : List Cell) (texts : List Program) (now before : List Frame) (result : Result Next NoMemory)
    → given ≡ form → IfOk result (λ n. Means now n (statement_rule env form) before)
    → IfOk result (λ n. (fixed : State) → MeansIn (stated fixed cells texts) now n (statement_rule env given) before)
begun env given form cells texts now before result is h = begun_in env given form cells texts now before result is (in_every (statement_rule env form) now before result h)
