use Rattle.std.proofs.Common.{◌∙◌, ℕ, List, Some, ap, subst}
use Rattle.pair_run.specs.declared.scripts.Binding.{Binding}
use Rattle.pair_run.specs.Scripts.{Agrees, IsFirstUnbound, number_of}
use Rattle.pair_run.proofs.Answering.{are_joined, same_line}
use Rattle.pair_run.proofs.LastBindings.{unbound_same}
use Rattle.pair_run.proofs.run.PairScripts.new.Goals as goal

pub returns-in-Some-clause-refused : goal.returns-in-Some-clause-refused
returns-in-Some-clause-refused c = λ line e.
    let ns = c.in_ok-namespace.namespace.items in
    let agrees : Agrees ns c.args.bindings.items = λ letter. c.in_ok-namespace.ensures letter ∙ ap (λ bs. number_of bs letter) c.deref.ensures.value in
    let F : List Binding → List ℕ → Type 0 = λ bs letters. IsFirstUnbound bs letters line in
    let found : F c.deref-2.result.now c.deref-3.result.now = c.in-Some.ensures.found line (ap (λ (n : ℕ). Some n) (same_line c.in-Some.line line e)) in
    unbound_same ns c.args.bindings.items c.args.letters.items line agrees
    (subst (λ bs. F bs c.args.letters.items) c.deref-2.ensures.value (subst (F c.deref-2.result.now) c.deref-3.ensures.value found))

pub returns-in-None-clause-joined : goal.returns-in-None-clause-joined
returns-in-None-clause-joined c =
    are_joined c.args.letters.items c.deref-3.result.now c.args.bindings.items c.in_ok-namespace.namespace.items c.deref-2.result.now c.deref.result.now c.requires.letters c.requires.bindings
    c.deref.ensures.value c.deref-2.ensures.value c.deref-3.ensures.value c.in_ok-namespace.ensures c.in-None.ensures.none
