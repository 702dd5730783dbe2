use Rattle.std.proofs.Common.{◌≡◌, Bool, ap, if◌then◌else◌}
use Rattle.rp_base.specs.declared.exceptions.Beyond.TheVariants as beyond
use Rattle.side_trees.specs.Trees.{Stop, Do, Ask}
use Rattle.language_rules.specs.Codes.{Perform}
use Rattle.language_rules.specs.Going.{RuleTree, is_asked}
use Rattle.language_rules.proofs.laws.heavy_arguments_end_the_run.Goals as goal

pub returns : goal.returns
returns c = λ o d k heavy. ap (λ (b : Bool). if b then Stop beyond.Size else (if is_asked o then Ask o d k else Do (Perform o) d k)) heavy
