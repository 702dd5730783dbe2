use Rattle.std.proofs.Common.{◌∙◌, ap}
use Rattle.py_scope.specs.Tables.{class_with}
use Rattle.py_scope.proofs.TableLaws.{class_step}
use Rattle.py_scope.proofs.classes.ClassTable.note.Goals as goal

pub returns : goal.returns
returns c = λ k. class_step c.args.self.now.map c.insert.new.self c.in-Some.class c.args.mention.now c.with-facts.result k
    (cc)
    (c.with-facts.ensures ∙ ap (class_with c.args.mention.now) c.facts.ensures)
    (c.in_ok-insert.ensures.updates.0 k)
