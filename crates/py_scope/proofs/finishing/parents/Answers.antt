use Rattle.std.proofs.Common.{◌∙◌, ◌||◌, ap, sym, ℕ, List, Bool, take, length, ◌<◌, ◌==◌, arith}
use Rattle.std.specs.List.{list_any}
use Rattle.std.proofs.lemmas.List.{nil_from_length}
use Rattle.std.proofs.lemmas.List.Folds.{list_any_more}
use Rattle.py_ast.specs.declared.program.FunctionInfo.{FunctionInfo}
use Rattle.py_scope.specs.Forms.{is_number}
use Rattle.py_scope.specs.Finished.{has_inner}
use Rattle.py_scope.proofs.finishing.parents.Goals as goal

pub loop-info-init : goal.loop-info-init
unfolding has_inner
loop-info-init c = λ f. ap (λ (ks : List ℕ). list_any (λ k. f == k) ks) (nil_from_length c.new-found.result.keys c.new-found.ensures.len)

pub loop-info-preserved : goal.loop-info-preserved
unfolding has_inner
loop-info-preserved c = λ f.
    let within : c.loop-info.info-index < length c.args.functions.now = omega arith in
    let test : FunctionInfo → Bool = λ i. is_number f i.parent in
    c.in_ok-note_parent.ensures f ∙ ap (λ b. b || test c.info-item.result) (c.loop-info.invariant f)
    ∙ ap (λ i. list_any test (take c.loop-info.info-index c.args.functions.now) || test i) c.info-item.is
    ∙ sym (list_any_more test c.args.functions.now c.loop-info.info-index c.info-item.result within)
