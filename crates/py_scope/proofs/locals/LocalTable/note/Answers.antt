use Rattle.std.proofs.Common.{◌∙◌, ap, Some, cond, ◌&&◌, ◌==◌, List, ℕ}
use Rattle.std.specs.HashMap.{get_by}
use Rattle.std.specs.Str.{bytes_eq}
use Rattle.py_scope.specs.Tables.{local_with, local_in, of_local}
use Rattle.py_scope.proofs.TableLaws.{local_step}
use Rattle.py_scope.proofs.locals.LocalTable.note.Goals as goal

pub returns : goal.returns
returns c = λ f n. local_step c.args.self.now.map c.insert.new.self c.in-Some.function c.args.mention.now c.with-facts.result f n
    (cc)
    (c.with-facts.ensures ∙ ap (local_with c.args.mention.now.form) (c.facts.ensures ∙ ap (local_in c.args.self.now.map c.in-Some.function) c.as_str-name.ensures))
    (c.in_ok-insert.ensures.updates.0 (f, record { ref_ptr = (0, 0); now = n })
    ∙ ap (λ (t : List ℕ). cond ((c.in-Some.function == f) && bytes_eq t n) (Some c.with-facts.result) (get_by (of_local f n) c.args.self.now.map)) c.as_str-name.ensures)
