-- The entry of a key, from its key and its value.
use Rattle.std.proofs.Common.{◌≡◌, Bool, true, false, cond, List, [], ◌∷◌, Option, Some, None, refl}
use Rattle.std.specs.Map.{lookup, lookup_entry, lookup_key}

found_first : {K X : Type 0} (b : Bool) (a : K) (x : X) (k : K) (v : X) (ks : Option K) (vs : Option X) (r : Option (K × X)) → (Some k ≡ ks → Some v ≡ vs → Some (k, v) ≡ r) → Some k ≡ cond b (Some a) ks → Some v ≡ cond b (Some x) vs → Some (k, v) ≡ cond b (Some (a, x)) r
found_first true a x k v ks vs r later h g = cc
found_first false a x k v ks vs r later h g = later h g

pub entry_found : {K X : Type 0} (test : K → Bool) (es : List (K × X)) (k : K) (v : X) → Some k ≡ lookup_key test es → Some v ≡ lookup test es → Some (k, v) ≡ lookup_entry test es
entry_found test [] k v h g = cc
entry_found test (e ∷ es) k v h g = found_first (test e.0) e.0 e.1 k v (lookup_key test es) (lookup test es) (lookup_entry test es) (entry_found test es k v) h g

missing_first : {K X : Type 0} (b : Bool) (e : K × X) (ks : Option K) (r : Option (K × X)) → (None ≡ ks → None ≡ r) → None ≡ cond b (Some e.0) ks → None ≡ cond b (Some e) r
missing_first true e ks r later h = cc
missing_first false e ks r later h = later h

pub entry_missing : {K X : Type 0} (test : K → Bool) (es : List (K × X)) → None ≡ lookup_key test es → None ≡ lookup_entry test es
entry_missing test [] h = refl
entry_missing test (e ∷ es) h = missing_first (test e.0) e (lookup_key test es) (lookup_entry test es) (entry_missing test es) h
