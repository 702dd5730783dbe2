-- Binding a return does nothing, and binds group.
use Rattle.std.proofs.Common.{◌≡◌, refl, ap}
use mathlib.Core.Path.{fun_ext}
use Rattle.side_trees.specs.Trees.{Tree, Return, Act, Tell, Stop, Spend, Do, Ask, bind}

pub bind-return : {C S Q A K D : Type 0} (t : Tree C S Q A K D) → bind t (λ a. Return a) ≡ t
bind-return (Return a) = refl
bind-return (Act g f) = ap (λ k. Act g k) (fun_ext (λ s. bind-return (f s)))
bind-return (Tell d t) = ap (λ k. Tell d k) (bind-return t)
bind-return (Stop x) = refl
bind-return (Spend c f) = ap (λ k. Spend c k) (fun_ext (λ a. bind-return (f a)))
bind-return (Do o c f) = ap (λ k. Do o c k) (fun_ext (λ a. bind-return (f a)))
bind-return (Ask q c f) = ap (λ k. Ask q c k) (fun_ext (λ a. bind-return (f a)))

pub bind-bind : {C S Q A K D : Type 0} (t : Tree C S Q A K D) (k j : A → Tree C S Q A K D) → bind (bind t k) j ≡ bind t (λ a. bind (k a) j)
bind-bind (Return a) k j = refl
bind-bind (Act g f) k j = ap (λ h. Act g h) (fun_ext (λ s. bind-bind (f s) k j))
bind-bind (Tell d t) k j = ap (λ h. Tell d h) (bind-bind t k j)
bind-bind (Stop x) k j = refl
bind-bind (Spend c f) k j = ap (λ h. Spend c h) (fun_ext (λ a. bind-bind (f a) k j))
bind-bind (Do o c f) k j = ap (λ h. Do o c h) (fun_ext (λ a. bind-bind (f a) k j))
bind-bind (Ask q c f) k j = ap (λ h. Ask q c h) (fun_ext (λ a. bind-bind (f a) k j))
