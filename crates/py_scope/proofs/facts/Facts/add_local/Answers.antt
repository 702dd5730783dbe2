use Rattle.std.proofs.Common.{◌≡◌, ◌==◌, ◌∙◌, ap, subst, List, ℕ, Some}
use Rattle.py_scope.specs.Tables.{local_facts}
use Rattle.py_scope.specs.Finished.{binds_local, is_plain}
use Rattle.py_scope.specs.Names.{Added}
use Rattle.py_scope.proofs.ScopeLaws.{local_test}
use Rattle.py_scope.proofs.SetLaws.{added_same}
use Rattle.py_scope.proofs.facts.Facts.add_local.Goals as goal

pub returns : goal.returns
returns c =
    let ms = c.args.self.now.mentions.now in
    let m = c.args.mention.now in
    let f = c.in-Some.function in
    let at : m.function ≡ Some f = cc in
    let plain : c.is_plain.result ≡ is_plain (local_facts ms f m.name) =
    c.is_plain.ensures ∙ ap is_plain (c.facts.ensures ∙ c.requires.0 f c.as_str-name.result.now ∙ ap (local_facts ms f) c.as_str-name.ensures) in
    added_same (λ g. binds_local ms g m) (λ g. f == g) m.name c.args.sets.now.items c.add_at.new.sets.items
    (local_test ms m f c.binds.result c.is_plain.result at c.binds.ensures plain c.if-not-binds.false c.if-not-is_plain.false)
    (subst (λ (n : List ℕ). Added (λ g. f == g) n c.args.sets.now.items c.add_at.new.sets.items) c.as_str-name.ensures c.in_ok-add_at.ensures)
