-- The handler that takes an exception.
use Rattle.std.specs.Prelude.{ℕ, List}
use Rattle.rp_base.specs.declared.exceptions.Raised.{Raised}
use Rattle.py_ast.specs.declared.program.Program.{Program}
use Rattle.side_trees.specs.Trees.{Return, bind}
use Rattle.language_rules.specs.Codes.{Completion, Env, Raises}
use Rattle.language_rules.specs.Going.{RuleTree, nowhere}
use Rattle.language_rules.specs.Handlers.{handling}
use Rattle.language_rules.specs.Raising.{handles}
use Rattle.language_rules.specs.States.{State}
use Rattle.language_rules.specs.Texts.{executes_suite}
use Rattle.eval_frames.specs.Meaning.{RunsAs}
use Rattle.eval_handlers.specs.declared.handlers.Choice.{Choice}
use Rattle.eval_handlers.specs.declared.handlers.Choice.TheVariants as choice
use Rattle.eval_handlers.specs.Entering.{reading}

abbrev pub chosen : Env → Raised → Choice → RuleTree
chosen env r (choice.Handler name suite) = handling env name r (executes_suite env suite)
chosen env r choice.Passes = Return (Raises r)
chosen env r choice.Nowhere = nowhere

-- with these texts the handlers do this with the exception, whatever goes on then
abbrev pub IsChosen : Env → List Program → Raised → List ℕ → RuleTree → Type 0
IsChosen env texts r handlers t = (s : State) (k : Completion → RuleTree) → RunsAs (reading s texts) (bind (handles env r handlers) k) (bind t k)
