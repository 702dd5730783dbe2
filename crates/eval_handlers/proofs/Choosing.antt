-- The handler that takes an exception.
use Rattle.std.proofs.Common.{◌≡◌, ℕ, List, reverse, Result, Ok, Err, IfOk, ◌∙◌, ap}
use Rattle.rp_base.specs.declared.ends.NoMemory.{NoMemory}
use Rattle.rp_base.specs.declared.exceptions.Raised.{Raised}
use Rattle.py_ast.specs.declared.program.Program.{Program}
use Rattle.side_trees.specs.Trees.{bind}
use Rattle.language_rules.specs.Codes.{Env}
use Rattle.language_rules.specs.Raising.{handles}
use Rattle.language_rules.specs.Running.{runs}
use Rattle.language_rules.specs.States.{Handling, State}
use Rattle.eval_frames.specs.declared.frame.Frame.{Frame}
use Rattle.eval_frames.specs.declared.next.Next.{Next}
use Rattle.eval_frames.specs.Meaning.{MeansOver, handling_in, rest}
use Rattle.eval_handlers.specs.declared.handlers.Choice.{Choice}
use Rattle.eval_handlers.specs.Choosing.{IsChosen, chosen}

pub choice_made : (env : Env) (texts : List Program) (r : Raised) (handlers : List ℕ) (made told : Choice) (old new : List Handling) (now before : List Frame) (result : Result Next NoMemory)
    → IsChosen env texts r handlers (chosen env r made) → made ≡ told
    → IfOk result (λ n. (fixed : State) → MeansOver (handling_in fixed texts old) (handling_in fixed texts new) now n (chosen env r told) before)
    → IfOk result (λ n. (fixed : State) → MeansOver (handling_in fixed texts old) (handling_in fixed texts new) now n (handles env r handlers) before)
choice_made env texts r handlers made told old new now before (Ok n) is same h = λ fixed units printed.
    is (record fixed { handled = reverse old }) (rest (reverse before)) units printed
    ∙ ap (λ (x : Choice). runs units (bind (chosen env r x) (rest (reverse before))) (handling_in fixed texts old) printed) same
    ∙ h fixed units printed
choice_made env texts r handlers made told old new now before (Err e) is same h = h
