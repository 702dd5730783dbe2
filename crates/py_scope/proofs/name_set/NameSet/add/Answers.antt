use Rattle.std.proofs.Common.{◌∙◌, ap, map}
use Rattle.py_scope.specs.Names.{with_name}
use Rattle.py_scope.proofs.SetLaws.{added_key}
use Rattle.py_scope.proofs.name_set.NameSet.add.Goals as goal

pub returns-clause-ok : goal.returns-clause-ok
returns-clause-ok c = ap (map (λ k. k.now)) c.in_ok-insert_full.ensures.keys ∙ added_key c.self.inside.set.keys c.args.name ∙ ap (λ ns. with_name ns c.args.name.now) c.self.view_is
