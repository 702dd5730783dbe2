-- What waits for the answer of a method that the class of an instance has, and what it makes of a value.
use Rattle.rp_base.specs.declared.value.Value.{Value}
use Rattle.language_rules.specs.Answers.{gives}
use Rattle.language_rules.specs.Arithmetic.{gives_result}
use Rattle.language_rules.specs.Calls.{initialised}
use Rattle.language_rules.specs.CellComparing.{turned}
use Rattle.language_rules.specs.Going.{RuleTree}
use Rattle.language_rules.specs.Iterating.{gives_iterator}
use Rattle.language_rules.specs.Kinds.{on_kind}
use Rattle.language_rules.specs.Lengths.{gives_filled, gives_truth, on_length}
use Rattle.language_rules.specs.PlainItems.{number}
use Rattle.language_rules.specs.Printing.{text_result}
use Rattle.eval_frames.specs.declared.method_frame.MethodFrame.{MethodFrame}
use Rattle.eval_frames.specs.declared.method_frame.MethodFrame.TheVariants as method_frame

abbrev pub through_method : MethodFrame → Value → RuleTree
through_method (method_frame.Initialised i) v = initialised i v
through_method method_frame.Length v = on_length (λ m. gives (number m)) v
through_method method_frame.Filled v = on_length gives_filled v
through_method method_frame.Truth v = gives_truth v
through_method method_frame.Iterator v = on_kind v (gives_iterator v)
through_method method_frame.Opposite v = turned v
through_method method_frame.Text v = text_result v
through_method method_frame.Operator v = gives_result v
