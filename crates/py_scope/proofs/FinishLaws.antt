-- The functions of a script are finished one after another.
use Rattle.std.proofs.Common.{◌≡◌, ◌∙◌, sym, ap, refl, ℕ, ◌+◌, ◌<◌, ◌≤◌, List, [], ◌∷◌, ◌++◌, drop, length, get_or, drop-cons, add-one, append_assoc}
use Rattle.std.proofs.lemmas.List.{at_drop_all}
use Rattle.py_ast.specs.declared.program.FunctionInfo.{FunctionInfo}
use Rattle.py_mentions.specs.declared.mention.Mention.{Mention}
use Rattle.py_scope.specs.Finished.{finished_function, finished_from}

module _ (ms : List Mention) (fs : List FunctionInfo) (i : ℕ) (done : List FunctionInfo) where
  pub finish_more : (x : FunctionInfo) (new : List FunctionInfo) → i < length fs → x ≡ finished_function ms fs i (get_or fs i x) → new ≡ done ++ x ∷ []
      → done ++ finished_from ms fs i (drop i fs) ≡ new ++ finished_from ms fs (i + 1) (drop (i + 1) fs)
  unfolding finished_from
  finish_more x new within is now =
      ap (λ rest. done ++ finished_from ms fs i rest) (drop-cons fs i x within)
      ∙ (λ j. done ++ sym is j ∷ finished_from ms fs (sym (add-one i) j) (drop (sym (add-one i) j) fs))
      ∙ sym (append_assoc done (x ∷ []) (finished_from ms fs (i + 1) (drop (i + 1) fs)))
      ∙ ap (λ new. new ++ finished_from ms fs (i + 1) (drop (i + 1) fs)) (sym now)

  pub finish_end : length fs ≤ i → done ++ finished_from ms fs i (drop i fs) ≡ done
  unfolding finished_from
  finish_end past = ap (λ rest. done ++ rest) (at_drop_all (finished_from ms fs i) fs i past) ∙ nothing done
    where
      nothing : (xs : List FunctionInfo) → xs ++ [] ≡ xs
      nothing [] = refl
      nothing (x ∷ xs) = ap (λ ys. x ∷ ys) (nothing xs)
