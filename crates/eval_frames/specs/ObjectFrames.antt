-- What waits for the answer of an object, and what it makes of it.
use Rattle.std.specs.Prelude.{reverse}
use Rattle.language_rules.specs.Chains.{opposite}
use Rattle.language_rules.specs.Codes.{Completion}
use Rattle.language_rules.specs.Comparing.{asks_operand, implemented, last_step, swapped}
use Rattle.language_rules.specs.Going.{RuleTree, carry, on_value, value_step}
use Rattle.language_rules.specs.Output.{prints_further, writes}
use Rattle.language_rules.specs.Printing.{gives_text, on_text}
use Rattle.eval_frames.specs.declared.object_frames.ComparisonFrame.{ComparisonFrame}
use Rattle.eval_frames.specs.declared.object_frames.ComparisonFrame.TheVariants as comparison_frame
use Rattle.eval_frames.specs.declared.object_frames.OperationFrame.{OperationFrame}
use Rattle.eval_frames.specs.declared.object_frames.OperationFrame.TheVariants as operation_frame
use Rattle.eval_frames.specs.declared.object_frames.PrintingFrame.{PrintingFrame}
use Rattle.eval_frames.specs.declared.object_frames.PrintingFrame.TheVariants as printing_frame

abbrev pub through_operation : OperationFrame → Completion → RuleTree
through_operation operation_frame.Text a = on_text gives_text a
through_operation operation_frame.Opposite a = on_value opposite a

-- an answer, or what is to be done where it is NotImplemented
abbrev pub through_comparison : ComparisonFrame → Completion → RuleTree
through_comparison (comparison_frame.Left o a b) e = carry (value_step (implemented (asks_operand b (swapped o) a (last_step o a b))) e)
through_comparison (comparison_frame.Right o a b) e = carry (value_step (implemented (last_step o a b)) e)

abbrev pub through_printing : PrintingFrame → Completion → RuleTree
through_printing (printing_frame.Print waiting) a = on_text (λ t. writes t (prints_further (reverse waiting))) a
