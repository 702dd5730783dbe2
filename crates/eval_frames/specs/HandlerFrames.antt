-- What waits within a `try` statement, or for the name of a handler, and what it makes of an end.
use Rattle.std.specs.Prelude.{ℕ, List}
use Rattle.side_trees.specs.Trees.{Return}
use Rattle.language_rules.specs.Codes.{Completion, Env}
use Rattle.language_rules.specs.Going.{RuleTree, changes, on_value}
use Rattle.language_rules.specs.Handlers.{handled_args, handled_repr, handled_str, left}
use Rattle.language_rules.specs.Raising.{finally_suite, handles, on_raised, replaces}
use Rattle.eval_frames.specs.declared.handler_frame.HandlerFrame.{HandlerFrame}
use Rattle.eval_frames.specs.declared.handler_frame.HandlerFrame.TheVariants as handler_frame
use Rattle.eval_frames.specs.declared.handler_frame.HandlerReading.{HandlerReading}
use Rattle.eval_frames.specs.declared.handler_frame.HandlerReading.TheVariants as reading

-- what is asked of the exception that the name stands for
abbrev pub reads_handler : HandlerReading → Env → List ℕ → RuleTree
reads_handler reading.Str env name = handled_str env name
reads_handler reading.Repr env name = handled_repr env name
reads_handler reading.Args env name = handled_args env name

abbrev pub through_handler : HandlerFrame → Completion → RuleTree
through_handler (handler_frame.Try env handlers) a = on_raised (λ r. handles env r handlers) a
through_handler (handler_frame.Finally env suite) a = finally_suite env suite a
through_handler (handler_frame.Handling env name) a = changes (left env name) (Return a)
through_handler (handler_frame.Pending pending) a = replaces pending a
through_handler (handler_frame.Name env name r) a = on_value (λ v. reads_handler r env name) a
