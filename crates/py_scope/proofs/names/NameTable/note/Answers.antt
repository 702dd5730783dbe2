use Rattle.std.proofs.Common.{◌∙◌, ap, Some, cond, List, ℕ}
use Rattle.std.specs.HashMap.{get_by}
use Rattle.std.specs.Str.{bytes_eq}
use Rattle.py_scope.specs.Tables.{name_with, name_in, of_name}
use Rattle.py_scope.proofs.TableLaws.{name_step}
use Rattle.py_scope.proofs.names.NameTable.note.Goals as goal

pub returns : goal.returns
returns c = λ n. name_step c.args.self.now.map c.insert.new.self c.args.mention.now c.args.is_own c.with-facts.result n
    (c.with-facts.ensures ∙ ap (name_with c.args.mention.now c.args.is_own) (c.facts.ensures ∙ ap (name_in c.args.self.now.map) c.as_str-name.ensures))
    (c.in_ok-insert.ensures.updates.0 (record { ref_ptr = (0, 0); now = n })
    ∙ ap (λ (t : List ℕ). cond (bytes_eq t n) (Some c.with-facts.result) (get_by (of_name n) c.args.self.now.map)) c.as_str-name.ensures)
