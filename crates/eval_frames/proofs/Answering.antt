-- What comes of an answer, in every run.
use Rattle.std.proofs.Common.{◌≡◌, List, reverse, Some, Ok, Err, sym, ap}
use Rattle.rp_base.specs.declared.exceptions.Beyond.{Beyond}
use Rattle.side_trees.specs.Trees.{Return, Stop, bind}
use Rattle.language_rules.proofs.RunLemmas.{goes_on, leaves}
use Rattle.language_rules.specs.AtOnce.{at_once}
use Rattle.language_rules.specs.Codes.{Completion}
use Rattle.language_rules.specs.Going.{RuleTree}
use Rattle.language_rules.specs.Rules.{expand}
use Rattle.language_rules.specs.Running.{prints_behind}
use Rattle.language_rules.specs.States.{State}
use Rattle.eval_frames.specs.declared.frame.Frame.{Frame}
use Rattle.eval_frames.specs.declared.next.Next.TheVariants as next
use Rattle.eval_frames.specs.Meaning.{Means, MeansIn, rest}

pub comes_given : (a : Completion) (s : State) (t : RuleTree) (stack : List Frame) → at_once t s ≡ Some (Ok a, s) → MeansIn s stack (next.Give a) t stack
comes_given a s t stack h u printed = goes_on expand prints_behind u t (rest (reverse stack)) s s printed a h

pub comes_left : (b : Beyond) (s : State) (t : RuleTree) (stack : List Frame) → at_once t s ≡ Some (Err b, s) → MeansIn s stack (next.Leave b) t stack
comes_left b s t stack h u printed = leaves expand prints_behind u t (rest (reverse stack)) s s printed b h

pub computes_given : (a : Completion) (t : RuleTree) (stack : List Frame) → t ≡ Return a → Means stack (next.Give a) t stack
computes_given a t stack h = ap (λ (r : RuleTree). bind r (rest (reverse stack))) (sym h)

pub computes_left : (b : Beyond) (t : RuleTree) (stack : List Frame) → t ≡ Stop b → Means stack (next.Leave b) t stack
computes_left b t stack h = ap (λ (r : RuleTree). bind r (rest (reverse stack))) (sym h)
