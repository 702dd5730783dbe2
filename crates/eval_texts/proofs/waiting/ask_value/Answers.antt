use Rattle.std.proofs.Common.{drop, subst, IfOk, List, ℕ}
use Rattle.language_rules.specs.States.{State}
use Rattle.eval_frames.specs.Meaning.{MeansIn}
use Rattle.eval_texts.specs.Texts.{first_of_dict}
use Rattle.eval_texts.proofs.StackLaws.{value_asked}
use Rattle.eval_texts.proofs.waiting.ask_value.Goals as goal

pub returns-clause-means : goal.returns-clause-means
returns-clause-means c =
    subst (λ (made : List ℕ). IfOk c.ask_text.result (λ n. (s : State) → MeansIn s c.ask_text.new.stack.items n (first_of_dict c.args.dict c.args.shape c.args.at (drop c.args.at c.args.entries.now) made) c.args.stack.now.items)) c.from_string.ensures
    (value_asked c.args.dict c.args.shape c.args.at c.args.entries.now c.value_at.result.now c.from_string.result c.ask_text.result c.ask_text.new.stack.items c.args.stack.now.items c.value_at.ensures c.ask_text.ensures.means)
