use Rattle.std.proofs.Common.{◌≡◌, ◌∙◌, ap, subst, List, ℕ}
use Rattle.py_scope.specs.Forms.{looks_up}
use Rattle.py_scope.specs.Finished.{takes_through, is_among}
use Rattle.py_scope.specs.Names.{Added}
use Rattle.py_scope.specs.Scopes.{around, is_kept, passing}
use Rattle.py_scope.proofs.ScopeLaws.{free_test}
use Rattle.py_scope.proofs.SetLaws.{added_same}
use Rattle.py_scope.proofs.facts.Facts.add_free.Goals as goal

pub returns : goal.returns
returns c =
    let ms = c.args.self.now.mentions.now in
    let fs = c.args.self.now.functions.now in
    let m = c.args.mention.now in
    let name : c.as_str-name.result.now ≡ m.name = c.as_str-name.ensures in
    added_same (λ g. takes_through ms fs g m) (is_among (passing ms (around fs m.function) m.name)) m.name c.args.sets.now.items c.add_to_passing.new.sets.items
    (λ g. free_test c.looks_up.result c.is_kept.result (looks_up m.form) (is_among (passing ms (around fs m.function) m.name) g) (is_kept ms (around fs m.function) m.name)
    c.looks_up.ensures (c.is_kept.ensures ∙ ap (is_kept ms (around fs m.function)) name) c.if-not-looks_up.false c.if-not-is_kept.false)
    (subst (λ (n : List ℕ). Added (is_among (passing ms (around fs m.function) n)) n c.args.sets.now.items c.add_to_passing.new.sets.items) name c.in_ok-add_to_passing.ensures)
