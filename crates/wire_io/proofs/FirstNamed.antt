-- The first entry of a name, found at a place of the list.
use Rattle.std.proofs.Common.{◌≡◌, ℕ, suc, ◌<◌, List, ◌∷◌, length, drop, get_or, true, cond, nat_eq, Some, ap, sym, ◌∙◌, drop-cons, find}
use Rattle.std.specs.Cmp.Lexicographic.{pointwise}
use Rattle.std.specs.Option.{option_map}
use Rattle.wire_io.specs.FileMaps.{first_named}

pub first_named-here : {A : Type 0} (name bytes : A → List ℕ) (entries : List A) (i : ℕ) (entry : A) (wanted : List ℕ)
    → i < length entries → entry ≡ get_or entries i entry → pointwise nat_eq (name entry) wanted ≡ true
    → first_named name bytes (drop i entries) wanted ≡ first_named name bytes entries wanted
    → first_named name bytes entries wanted ≡ Some (bytes entry)
first_named-here name bytes entries i entry wanted h at same rest =
    let split : drop i entries ≡ entry ∷ drop (suc i) entries = drop-cons entries i entry h ∙ ap (λ e. e ∷ drop (suc i) entries) (sym at) in
    sym rest ∙ ap (λ l. first_named name bytes l wanted) split ∙ ap (λ b. option_map bytes (cond b (Some entry) (find (λ e. pointwise nat_eq (name e) wanted) (drop (suc i) entries)))) same
