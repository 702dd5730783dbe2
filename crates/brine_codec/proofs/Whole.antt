-- All of the bytes: what the answer says of spellings, and of bytes added behind.
use Rattle.std.proofs.Common.{◌≡◌, ◌≢◌, ℕ, ◌+◌, ◌-◌, ◌<◌, ◌≤◌, true, List, [], ◌∷◌, ◌++◌, length, take, drop, Result, Ok, Err, refl, sym, ap, subst, ◌∙◌, arith}
use Rattle.std.proofs.lemmas.List.{append-nil, length-append, take_at, drop_at, take-append-drop, length-take, length-drop}
use Rattle.std.specs.Result.{IsErrOf}
use Rattle.rp_base.specs.declared.plain.Plain.{Plain}
use Rattle.rp_base.specs.PlainValues.{plain_depth}
use Rattle.brine_codec.specs.declared.ends.BrineKind.{BrineKind}
use Rattle.brine_codec.specs.declared.ends.BrineKind.TheVariants as kinds
use Rattle.brine_codec.specs.declared.ends.BrineFault.{BrineFault}
use Rattle.brine_codec.specs.declared.ends.DecodeEnd.{DecodeEnd}
use Rattle.brine_codec.specs.declared.ends.DecodeEnd.TheVariants as ends
use Rattle.brine_codec.specs.declared.ends.Stop.{Stop}
use Rattle.brine_codec.specs.declared.ends.Stop.TheVariants as stop
use Rattle.brine_codec.specs.Spelling.{IsBytes, spelling, spellable}
use Rattle.brine_codec.specs.Reading.{Read, Fault, Fails, Answers, ended, placed, whole_value, value_at, decoded}
use Rattle.brine_codec.proofs.Sizes.{done, ok_is}
use Rattle.brine_codec.proofs.Meets.{value_takes, value_again}
use Rattle.brine_codec.proofs.Stays.{FaultStays, Stays, value_stays}
use Rattle.brine_codec.proofs.Local.{IsEnd, Told, value_told}
use Rattle.brine_codec.proofs.Places.{Placed, value_placed}

abbrev answer : Plain → Result Plain BrineFault
answer v = Ok v

abbrev refusal : BrineFault → Result Plain BrineFault
refusal f = Err f

abbrev fault_at : ℕ → BrineKind → BrineFault
fault_at place what = record { at = place; what = what }

-- ---- a value

again : (v : Plain) → spellable v ≡ true → plain_depth v ≤ 100 → value_at 100 (spelling v) ≡ Ok (v, [])
again v spelled deep = ap (value_at 100) (sym (append-nil (spelling v))) ∙ value_again v spelled 100 deep []

pub spelling_decoded : (v : Plain) → spellable v ≡ true → plain_depth v ≤ 100 → decoded (spelling v) ≡ Ok v
spelling_decoded v spelled deep = ap (whole_value (length (spelling v))) (again v spelled deep)

whole_is : (n : ℕ) (r : Read Plain) (v : Plain) → whole_value n r ≡ answer v → r ≡ Ok (v, [])
whole_is n (Ok (w, [])) v e = let same : w ≡ v = cc in ap (λ (x : Plain). Ok (x, [])) same
whole_is n (Ok (w, b ∷ rest)) v e = absurd cc
whole_is n (Err f) v e = absurd cc

pub all_found : (bytes : List ℕ) (v : Plain) (rest : List ℕ) → IsBytes bytes → value_at 100 bytes ≡ Ok (v, rest) → rest ≡ [] → (spellable v ≡ true) × (plain_depth v ≤ 100) × (bytes ≡ spelling v)
all_found bytes v rest fit e nothing =
    let f = value_takes 100 bytes v rest fit e in
    (f.spelled, f.deep, f.parts ∙ ap (λ (x : List ℕ). spelling v ++ x) nothing ∙ append-nil (spelling v))

pub decoded_spelled : (bytes : List ℕ) (v : Plain) → IsBytes bytes → decoded bytes ≡ Ok v → (spellable v ≡ true) × (plain_depth v ≤ 100) × (bytes ≡ spelling v)
decoded_spelled bytes v fit e = all_found bytes v [] fit (whole_is (length bytes) (value_at 100 bytes) v e) refl

-- ---- the answers of the code

pub stopped : (bytes : List ℕ) (e : Stop) → Fails e (value_at 100 bytes) → Answers (Err (ended (length bytes) e)) (decoded bytes)
stopped bytes (stop.Fault left what) h = ap (whole_value (length bytes)) h
stopped bytes stop.NoMemory h = tt

pub trailing : (bytes : List ℕ) (v : Plain) (rest : List ℕ) → value_at 100 bytes ≡ Ok (v, rest) → rest ≢ [] → decoded bytes ≡ Err (placed (length bytes) (length rest, kinds.B9))
trailing bytes v [] e some = absurd (some refl)
trailing bytes v (b ∷ rest) e some = ap (whole_value (length bytes)) e

pub refuses : (r : Result Plain DecodeEnd) (bytes : List ℕ) → Answers r (decoded bytes) → (f : BrineFault) → IsErrOf r (ends.Fault f) → (v : Plain) → spellable v ≡ true → plain_depth v ≤ 100 → bytes ≡ spelling v → ⊥
refuses (Ok w) bytes h f is v spelled deep e = absurd cc
refuses (Err ends.NoMemory) bytes h f is v spelled deep e = absurd cc
refuses (Err (ends.Fault g)) bytes h f is v spelled deep e =
    let same : refusal g ≡ answer v = sym h ∙ ap decoded e ∙ spelling_decoded v spelled deep in
    cc

-- ---- a front of a spelling, and bytes added behind

no_rest : (more rest : List ℕ) → more ≢ [] → rest ++ more ≡ [] → ⊥
no_rest more [] some e = some e
no_rest more (x ∷ rest) some e = cc

abbrev a_fault : ℕ → BrineKind → Fault
a_fault left what = (left, what)

cut_there : (more : List ℕ) (left : ℕ) (what : BrineKind) (after : Read Plain) (v : Plain) → FaultStays more left what after → after ≡ done (v, []) → a_fault left what ≡ (0, kinds.B3)
cut_there more left kinds.B3 after v h e = ap (λ (n : ℕ). a_fault n kinds.B3) h
cut_there more left kinds.B1 after v h e = absurd cc
cut_there more left (kinds.B2 tag) after v h e = absurd cc
cut_there more left kinds.B4 after v h e = absurd cc
cut_there more left kinds.B5 after v h e = absurd cc
cut_there more left kinds.B6 after v h e = absurd cc
cut_there more left kinds.B7 after v h e = absurd cc
cut_there more left kinds.B8 after v h e = absurd cc
cut_there more left kinds.B9 after v h e = absurd cc

front_cut : (more : List ℕ) (r after : Read Plain) (v : Plain) → more ≢ [] → Stays more r after → after ≡ done (v, []) → r ≡ Err (0, kinds.B3)
front_cut more (Ok x) after v some h e =
    absurd (no_rest more x.1 some (ap (λ (p : Plain × List ℕ). p.1) (ok_is (x.0, x.1 ++ more) (v, []) (sym h ∙ e))))
front_cut more (Err f) after v some h e = ap (λ (g : Fault). Err g) (cut_there more f.0 f.1 after v h e)

pub fronts_cut : (v : Plain) (front more : List ℕ) → spellable v ≡ true → plain_depth v ≤ 100 → front ++ more ≡ spelling v → more ≢ [] → decoded front ≡ Err (record { at = length front; what = kinds.B3 })
fronts_cut v front more spelled deep e some =
    let whole : value_at 100 (front ++ more) ≡ Ok (v, []) = ap (value_at 100) e ∙ again v spelled deep in
    let place : length front - 0 ≡ length front = omega arith in
    ap (whole_value (length front)) (front_cut more (value_at 100 front) (value_at 100 (front ++ more)) v some (value_stays 100 front more) whole) ∙ ap (λ (at : ℕ). refusal (fault_at at kinds.B3)) place

same_place : (n left : ℕ) (bytes more : List ℕ) (what : BrineKind) → n ≡ length bytes → placed (length (bytes ++ more)) (left + length more, what) ≡ placed n (left, what)
same_place n left bytes more what e =
    let place : length (bytes ++ more) - (left + length more) ≡ n - left = omega (arith, length-append bytes more) in
    ap (λ (at : ℕ). fault_at at what) place

fault_kept : (bytes more : List ℕ) (left : ℕ) (what : BrineKind) (after : Read Plain) (f : BrineFault) → FaultStays more left what after → placed (length bytes) (left, what) ≡ f → f.what ≢ kinds.B3
    → whole_value (length (bytes ++ more)) after ≡ Err f
fault_kept bytes more left kinds.B3 after f h e other = absurd (other (sym (ap (λ (g : BrineFault). g.what) e)))
fault_kept bytes more left kinds.B1 after f h e other = ap (whole_value (length (bytes ++ more))) h ∙ ap refusal (same_place (length bytes) left bytes more kinds.B1 refl ∙ e)
fault_kept bytes more left (kinds.B2 tag) after f h e other = ap (whole_value (length (bytes ++ more))) h ∙ ap refusal (same_place (length bytes) left bytes more (kinds.B2 tag) refl ∙ e)
fault_kept bytes more left kinds.B4 after f h e other = ap (whole_value (length (bytes ++ more))) h ∙ ap refusal (same_place (length bytes) left bytes more kinds.B4 refl ∙ e)
fault_kept bytes more left kinds.B5 after f h e other = ap (whole_value (length (bytes ++ more))) h ∙ ap refusal (same_place (length bytes) left bytes more kinds.B5 refl ∙ e)
fault_kept bytes more left kinds.B6 after f h e other = ap (whole_value (length (bytes ++ more))) h ∙ ap refusal (same_place (length bytes) left bytes more kinds.B6 refl ∙ e)
fault_kept bytes more left kinds.B7 after f h e other = ap (whole_value (length (bytes ++ more))) h ∙ ap refusal (same_place (length bytes) left bytes more kinds.B7 refl ∙ e)
fault_kept bytes more left kinds.B8 after f h e other = ap (whole_value (length (bytes ++ more))) h ∙ ap refusal (same_place (length bytes) left bytes more kinds.B8 refl ∙ e)
fault_kept bytes more left kinds.B9 after f h e other = ap (whole_value (length (bytes ++ more))) h ∙ ap refusal (same_place (length bytes) left bytes more kinds.B9 refl ∙ e)

refused_by : (g f : BrineFault) → refusal g ≡ refusal f → g ≡ f
refused_by g f e = cc

whole_kept : (bytes more : List ℕ) (r after : Read Plain) (f : BrineFault) → Stays more r after → whole_value (length bytes) r ≡ refusal f → f.what ≢ kinds.B3 → whole_value (length (bytes ++ more)) after ≡ Err f
whole_kept bytes more (Ok (v, [])) after f h e other = absurd cc
whole_kept bytes more (Ok (v, b ∷ rest)) after f h e other =
    let is : placed (length bytes) (length (b ∷ rest), kinds.B9) ≡ f = refused_by _ f e in
    let longer : length (b ∷ (rest ++ more)) ≡ length (b ∷ rest) + length more = omega (arith, length-append rest more) in
    ap (whole_value (length (bytes ++ more))) h
    ∙ ap (λ (k : ℕ). refusal (placed (length (bytes ++ more)) (k, kinds.B9))) longer
    ∙ ap refusal (same_place (length bytes) (length (b ∷ rest)) bytes more kinds.B9 refl ∙ is)
whole_kept bytes more (Err (left, what)) after f h e other = fault_kept bytes more left what after f h (refused_by (placed (length bytes) (left, what)) f e) other

pub faults_kept : (bytes more : List ℕ) (f : BrineFault) → decoded bytes ≡ Err f → f.what ≢ kinds.B3 → decoded (bytes ++ more) ≡ Err f
faults_kept bytes more f e other = whole_kept bytes more (value_at 100 bytes) (value_at 100 (bytes ++ more)) f (value_stays 100 bytes more) e other

pub byte_behind : (v : Plain) (b : ℕ) (more : List ℕ) → spellable v ≡ true → plain_depth v ≤ 100 → decoded (spelling v ++ b ∷ more) ≡ Err (record { at = length (spelling v); what = kinds.B9 })
byte_behind v b more spelled deep =
    let place : length (spelling v ++ b ∷ more) - length (b ∷ more) ≡ length (spelling v) = omega (arith, length-append (spelling v) (b ∷ more)) in
    ap (whole_value (length (spelling v ++ b ∷ more))) (value_again v spelled 100 deep (b ∷ more)) ∙ ap (λ (at : ℕ). refusal (fault_at at kinds.B9)) place

other_kind : (n left : ℕ) (what : BrineKind) (f : BrineFault) → placed n (left, what) ≡ f → f.what ≡ kinds.B3 → what ≡ kinds.B3
other_kind n left what f e is = ap (λ (g : BrineFault). g.what) e ∙ is

nothing_left : (left : ℕ) (what : BrineKind) (after : Read Plain) → FaultStays [] left what after → what ≡ kinds.B3 → left ≡ 0
nothing_left left kinds.B3 after h is = h
nothing_left left kinds.B1 after h is = absurd cc
nothing_left left (kinds.B2 tag) after h is = absurd cc
nothing_left left kinds.B4 after h is = absurd cc
nothing_left left kinds.B5 after h is = absurd cc
nothing_left left kinds.B6 after h is = absurd cc
nothing_left left kinds.B7 after h is = absurd cc
nothing_left left kinds.B8 after h is = absurd cc
nothing_left left kinds.B9 after h is = absurd cc

ends_there : (n : ℕ) (r after : Read Plain) (f : BrineFault) → Stays [] r after → whole_value n r ≡ refusal f → f.what ≡ kinds.B3 → f.at ≡ n
ends_there n (Ok (v, [])) after f h e is = absurd cc
ends_there n (Ok (v, b ∷ rest)) after f h e is =
    let wrong : kinds.B9 ≡ kinds.B3 = other_kind n (length (b ∷ rest)) kinds.B9 f (refused_by _ f e) is in
    absurd cc
ends_there n (Err (left, what)) after f h e is =
    let same = refused_by (placed n (left, what)) f e in
    let none : left ≡ 0 = nothing_left left what after h (other_kind n left what f same is) in
    let place : f.at ≡ n - left = sym (ap (λ (g : BrineFault). g.at) same) in
    omega arith

pub cut_at_end : (bytes : List ℕ) (f : BrineFault) → decoded bytes ≡ Err f → f.what ≡ kinds.B3 → f.at ≡ length bytes
cut_at_end bytes f e is = ends_there (length bytes) (value_at 100 bytes) (value_at 100 (bytes ++ [])) f (value_stays 100 bytes []) e is

-- ---- what stands before a fault

abbrev a_refusal : ℕ → BrineKind → Read Plain
a_refusal left what = Err (left, what)

abbrev bytes_left : Read Plain → ℕ
bytes_left (Ok x) = 0
bytes_left (Err f) = f.0

not_there : (left : ℕ) (back : List ℕ) (kind what : BrineKind) → 0 < left → a_refusal (left + length back) kind ≡ a_refusal (length back) what → ⊥
not_there left back kind what some e = let same : left + length back ≡ length back = ap bytes_left e in omega arith

-- a fault in front of more would stand there too, with nothing left
only_cut : (front back : List ℕ) (r after : Read Plain) (what : BrineKind) → Placed (length front) r → Stays back r after → after ≡ Err (length back, what) → r ≡ Err (0, kinds.B3)
only_cut front back (Ok x) after what place h e = absurd (no_fault (sym h ∙ e))
  where
    no_fault : done {A = Plain × List ℕ} (x.0, x.1 ++ back) ≡ Err (length back, what) → ⊥
    no_fault same = cc
only_cut front back (Err (left, kinds.B3)) after what place h e = ap (λ (n : ℕ). a_refusal n kinds.B3) h
only_cut front back (Err (left, kinds.B1)) after what place h e = absurd (not_there left back kinds.B1 what (place.1 (λ is. cc)) (sym h ∙ e))
only_cut front back (Err (left, kinds.B2 tag)) after what place h e = absurd (not_there left back (kinds.B2 tag) what (place.1 (λ is. cc)) (sym h ∙ e))
only_cut front back (Err (left, kinds.B4)) after what place h e = absurd (not_there left back kinds.B4 what (place.1 (λ is. cc)) (sym h ∙ e))
only_cut front back (Err (left, kinds.B5)) after what place h e = absurd (not_there left back kinds.B5 what (place.1 (λ is. cc)) (sym h ∙ e))
only_cut front back (Err (left, kinds.B6)) after what place h e = absurd (not_there left back kinds.B6 what (place.1 (λ is. cc)) (sym h ∙ e))
only_cut front back (Err (left, kinds.B7)) after what place h e = absurd (not_there left back kinds.B7 what (place.1 (λ is. cc)) (sym h ∙ e))
only_cut front back (Err (left, kinds.B8)) after what place h e = absurd (not_there left back kinds.B8 what (place.1 (λ is. cc)) (sym h ∙ e))
only_cut front back (Err (left, kinds.B9)) after what place h e = absurd (not_there left back kinds.B9 what (place.1 (λ is. cc)) (sym h ∙ e))

-- the bytes before the place, where so many are left
before : (bytes : List ℕ) (left : ℕ) → left ≤ length bytes → (take (length bytes - left) bytes ++ drop (length bytes - left) bytes ≡ bytes) × (length (drop (length bytes - left) bytes) ≡ left) × (length (take (length bytes - left) bytes) ≡ length bytes - left)
before bytes left within =
    (take-append-drop (length bytes - left) bytes, omega (arith, length-drop (length bytes - left) bytes), omega (arith, length-take (length bytes - left) bytes))

cut_before : (bytes : List ℕ) (left : ℕ) (what : BrineKind) → left ≤ length bytes → value_at 100 bytes ≡ Err (left, what) → decoded (take (length bytes - left) bytes) ≡ Err (fault_at (length bytes - left) kinds.B3)
cut_before bytes left what within e =
    let front = take (length bytes - left) bytes in
    let back = drop (length bytes - left) bytes in
    let parts = before bytes left within in
    let there : value_at 100 (front ++ back) ≡ Err (length back, what) = ap (value_at 100) parts.0 ∙ e ∙ ap (λ (n : ℕ). a_refusal n what) (sym parts.1) in
    let cut : value_at 100 front ≡ Err (0, kinds.B3) = only_cut front back (value_at 100 front) (value_at 100 (front ++ back)) what (value_placed 100 front) (value_stays 100 front back) there in
    let place : length front - 0 ≡ length bytes - left = omega (arith, parts.2) in
    ap (whole_value (length front)) cut ∙ ap (λ (at : ℕ). refusal (fault_at at kinds.B3)) place

by_read : (bytes : List ℕ) (r : Read Plain) (f : BrineFault) → value_at 100 bytes ≡ r → Placed (length bytes) r → whole_value (length bytes) r ≡ refusal f → f.what ≢ kinds.B9
    → decoded (take f.at bytes) ≡ Err (fault_at f.at kinds.B3)
by_read bytes (Ok (v, [])) f is place e other = absurd cc
by_read bytes (Ok (v, b ∷ rest)) f is place e other = absurd (other (sym (ap (λ (g : BrineFault). g.what) (refused_by (placed (length bytes) (length (b ∷ rest), kinds.B9)) f e))))
by_read bytes (Err (left, what)) f is place e other =
    let same : length bytes - left ≡ f.at = ap (λ (g : BrineFault). g.at) (refused_by (placed (length bytes) (left, what)) f e) in
    subst (λ (n : ℕ). decoded (take n bytes) ≡ Err (fault_at n kinds.B3)) same (cut_before bytes left what place.0 is)

pub fine_before : (bytes : List ℕ) (f : BrineFault) → decoded bytes ≡ Err f → f.what ≢ kinds.B9 → decoded (take f.at bytes) ≡ Err (record { at = f.at; what = kinds.B3 })
fine_before bytes f e other = by_read bytes (value_at 100 bytes) f refl (value_placed 100 bytes) e other

spelled_before : (bytes : List ℕ) (v : Plain) (rest : List ℕ) (n : ℕ) → IsBytes bytes → value_at 100 bytes ≡ Ok (v, rest) → n ≡ length bytes - length rest → decoded (take n bytes) ≡ Ok v
spelled_before bytes v rest n fit e is =
    let f = value_takes 100 bytes v rest fit e in
    let size : length bytes ≡ length (spelling v ++ rest) = ap (λ (x : List ℕ). length x) f.parts in
    let place : n ≡ length (spelling v) = omega (arith, size, is, length-append (spelling v) rest) in
    ap (λ (x : List ℕ). decoded (take n x)) f.parts ∙ ap decoded (take_at (spelling v) rest n (sym place)) ∙ spelling_decoded v f.spelled f.deep

value_before : (bytes : List ℕ) (r : Read Plain) (f : BrineFault) → IsBytes bytes → value_at 100 bytes ≡ r → whole_value (length bytes) r ≡ refusal f → f.what ≡ kinds.B9
    → Placed (length bytes) r → (v : Plain) × (decoded (take f.at bytes) ≡ Ok v)
value_before bytes (Ok (v, [])) f fit is e what place = absurd cc
value_before bytes (Ok (v, b ∷ rest)) f fit is e what place =
    (v, spelled_before bytes v (b ∷ rest) f.at fit is (sym (ap (λ (g : BrineFault). g.at) (refused_by (placed (length bytes) (length (b ∷ rest), kinds.B9)) f e))))
value_before bytes (Err (left, w)) f fit is e what place = absurd (place.2 (ap (λ (g : BrineFault). g.what) (refused_by (placed (length bytes) (left, w)) f e) ∙ what))

pub spelling_before : (bytes : List ℕ) (f : BrineFault) → IsBytes bytes → decoded bytes ≡ Err f → f.what ≡ kinds.B9 → (v : Plain) × (decoded (take f.at bytes) ≡ Ok v)
spelling_before bytes f fit e is = value_before bytes (value_at 100 bytes) f fit refl e is (value_placed 100 bytes)

-- ---- what a fault is told by

alone : (bytes end : List ℕ) (left n : ℕ) (what : BrineKind) → IsEnd bytes end → length end ≡ left → value_at 100 end ≡ Err (left, what) → n ≡ length bytes - left → decoded (drop n bytes) ≡ Err (fault_at 0 what)
alone bytes end left n what e size there is =
    let longer : length bytes ≡ length (e.0 ++ end) = ap (λ (x : List ℕ). length x) e.1 in
    let front : length e.0 ≡ n = omega (arith, is, size, longer, length-append e.0 end) in
    let rest : drop n bytes ≡ end = ap (λ (x : List ℕ). drop n x) e.1 ∙ drop_at e.0 end n front in
    let place : length end - left ≡ 0 = omega (arith, size) in
    ap decoded rest ∙ ap (whole_value (length end)) there ∙ ap (λ (at : ℕ). refusal (fault_at at what)) place

by_told : (bytes : List ℕ) (r : Read Plain) (f : BrineFault) → Told bytes r → whole_value (length bytes) r ≡ refusal f → f.what ≢ kinds.B3 → f.what ≢ kinds.B8 → f.what ≢ kinds.B9
    → decoded (drop f.at bytes) ≡ Err (fault_at 0 f.what)
by_told bytes (Ok (v, [])) f told e other depth last = absurd cc
by_told bytes (Ok (v, b ∷ rest)) f told e other depth last = absurd (last (sym (ap (λ (g : BrineFault). g.what) (refused_by (placed (length bytes) (length (b ∷ rest), kinds.B9)) f e))))
by_told bytes (Err (left, what)) f told e other depth last =
    let same = refused_by (placed (length bytes) (left, what)) f e in
    let kind : what ≡ f.what = ap (λ (g : BrineFault). g.what) same in
    let found = told (λ is. other (sym kind ∙ is)) (λ is. depth (sym kind ∙ is)) in
    alone bytes found.0 left f.at what found.1 found.2 found.3 (sym (ap (λ (g : BrineFault). g.at) same)) ∙ ap (λ (x : BrineKind). refusal (fault_at 0 x)) kind

pub told_alone : (bytes : List ℕ) (f : BrineFault) → decoded bytes ≡ Err f → f.what ≢ kinds.B3 → f.what ≢ kinds.B8 → f.what ≢ kinds.B9 → decoded (drop f.at bytes) ≡ Err (record { at = 0; what = f.what })
told_alone bytes f e other depth last = by_told bytes (value_at 100 bytes) f (value_told 100 bytes) e other depth last
