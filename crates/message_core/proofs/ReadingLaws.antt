-- The reader's tests find what the value is, and there is one such finding.
use Rattle.std.proofs.Common.{◌≡◌, ◌≢◌, ℕ, ◌^◌, ◌<◌, ◌≤◌, ℤ, pos, negsuc, Bool, true, false, ◌||◌, ◌==◌, eqb, ltb, cond, List, [], ◌∷◌, Result, Ok, Err, refl, sym, ap, ◌∙◌, subst, arith, ◌⊎◌, inl, inr, ⊎_elim}
use Rattle.std.proofs.lemmas.Bool.{ltb-true, ltb-false, lt-ltb, eqb-true, ne_eqb, or_cases, agree_below_at}
use Rattle.std.proofs.lemmas.Bool.Decides.{Decides-int_eq}
use Rattle.std.specs.Ordering.{int_eq}
use Rattle.std.specs.Result.{result_map_both}
use Rattle.rp_base.specs.Names.{handler_number}
use Rattle.rp_base.specs.PlainLaws.{look_roll, look_tuple}
use Rattle.rp_base.specs.PlainValues.{look}
use Rattle.rp_base.specs.declared.handlers.Handler.{Handler}
use Rattle.rp_base.specs.declared.handlers.Handler.TheVariants as handler
use Rattle.rp_base.specs.declared.plain.Plain.{Plain, roll-Plain, out-Plain}
use Rattle.rp_base.specs.declared.plain.Plain.TheOpen.{Plain-F}
use Rattle.rp_base.specs.declared.plain.Plain.TheVariants as plain
use Rattle.rp_base.specs.declared.plain.Plain.TheViews as views
use Rattle.message_core.specs.declared.reading.Form.{Form}
use Rattle.message_core.specs.Judging.{handler_numbered, handler_at, request_at, asked_at, by_kind, numbered, judged_at, judged, seen_as}
use Rattle.message_core.specs.Messages.{parts, asked, message_value, message_number, IsShaped, Asks, is_left_out, Finds, Reads}
use Rattle.message_core.specs.declared.faults.MsgFault.{MsgFault}
use Rattle.message_core.specs.declared.faults.MsgFault.TheVariants as fault
use Rattle.message_core.specs.declared.message.Message.{Message}
use Rattle.message_core.specs.declared.message.Message.TheVariants as message

-- ---- values by their first level

look_out : (p : Plain) → look p ≡ out-Plain p
look_out p = ap look (sym (views.roll-out-Plain p)) ∙ look_roll (out-Plain p)

rolled : (p : Plain) → roll-Plain (look p) ≡ p
rolled p = ap roll-Plain (look_out p) ∙ views.roll-out-Plain p

tuple_is : (p : Plain) (xs : List Plain) → look p ≡ Plain-F.Tuple xs → p ≡ plain.Tuple xs
tuple_is p xs e = sym (rolled p) ∙ ap roll-Plain e ∙ views.rolls-Tuple xs

int_is : (p : Plain) (n : ℤ) → look p ≡ Plain-F.Int n → p ≡ plain.Int n
int_is p n e = sym (rolled p) ∙ ap roll-Plain e ∙ views.rolls-Int n

-- tuples are equal where their items are
same_items : (xs ys : List Plain) → plain.Tuple xs ≡ plain.Tuple ys → xs ≡ ys
same_items xs ys e = let levels : Plain-F.Tuple xs ≡ Plain-F.Tuple ys = sym (look_tuple xs) ∙ ap look e ∙ look_tuple ys in cc

same_three : (a b c x y z : Plain) → plain.Tuple (a ∷ b ∷ c ∷ []) ≡ plain.Tuple (x ∷ y ∷ z ∷ []) → (a ≡ x) × (b ≡ y) × (c ≡ z)
same_three a b c x y z e = let items : a ∷ b ∷ c ∷ [] ≡ x ∷ y ∷ z ∷ [] = same_items _ _ e in (cc, cc, cc)

same_two : (a b x y : Plain) → plain.Tuple (a ∷ b ∷ []) ≡ plain.Tuple (x ∷ y ∷ []) → (a ≡ x) × (b ≡ y)
same_two a b x y e = let items : a ∷ b ∷ [] ≡ x ∷ y ∷ [] = same_items _ _ e in (cc, cc)

same_int : (m n : ℤ) → plain.Int m ≡ plain.Int n → m ≡ n
same_int m n e = let levels : Plain-F.Int m ≡ Plain-F.Int n = ap look e in cc

same_pos : (m n : ℕ) → pos m ≡ pos n → m ≡ n
same_pos m n e = cc

-- ---- tests of ints

int_same : (a b : ℤ) → int_eq a b ≡ true → a ≡ b
int_same a b h = (Decides-int_eq a b).0 h

int_self : (a : ℤ) → int_eq a a ≡ true
int_self a = (Decides-int_eq a a).1 refl

int_other : (a b : ℤ) → int_eq a b ≡ false → a ≢ b
int_other a b h e = let same : int_eq a b ≡ true = (Decides-int_eq a b).1 e in cc

int_apart : (a b : ℤ) → a ≢ b → int_eq a b ≡ false
int_apart a b n = split (int_eq a b) refl
  where
    split : (t : Bool) → int_eq a b ≡ t → t ≡ false
    split true h = absurd (n (int_same a b h))
    split false h = refl

-- by a test
chosen : (P : Result Message MsgFault → Type 0) (t : Bool) (x y : Result Message MsgFault) → (t ≡ true → P x) → (t ≡ false → P y) → P (cond t x y)
chosen P true x y f g = f refl
chosen P false x y f g = g refl

-- ---- what the tests find

shape_parts : (p kind number content : Plain) → p ≡ plain.Tuple (kind ∷ number ∷ content ∷ []) → (s : IsShaped p) → (kind ≡ plain.Int s.kind) × (number ≡ plain.Int (pos s.seq)) × (content ≡ s.content)
shape_parts p kind number content e s = same_three kind number content (plain.Int s.kind) (plain.Int (pos s.seq)) s.content (sym e ∙ s.whole)

shape_whole : (p : Plain) (x : Plain-F Plain) → look p ≡ x → (s : IsShaped p) → x ≡ Plain-F.Tuple (plain.Int s.kind ∷ plain.Int (pos s.seq) ∷ s.content ∷ [])
shape_whole p x e s = sym e ∙ ap look s.whole ∙ look_tuple (plain.Int s.kind ∷ plain.Int (pos s.seq) ∷ s.content ∷ [])

-- a number of the table
abbrev is_number : ℕ → Bool
is_number n = n == 1 || n == 2 || n == 3 || n == 4 || n == 5 || n == 6 || n == 7 || n == 8 || n == 9 || n == 10 || n == 11 || n == 15 || n == 16 || is_left_out n

neither : {x y : Bool} → x ≡ false → y ≡ false → (x || y) ≡ false
neither {x} {y} e f = rw (e, f) refl

in_table : (q : ℕ) → 1 ≤ q → q ≤ 20 → is_number q ≡ true
in_table q low high =
    let no_zero : eqb q 0 ≡ false = ne_eqb q 0 (λ e. omega arith) in
    ap (λ (t : Bool). t || is_number q) (sym no_zero) ∙ agree_below_at (λ n. eqb n 0 || is_number n) (λ n. true) 21 q refl (omega arith)

module _ (p content number args : Plain) (seq n : ℕ) (whole : p ≡ parts (pos 1) seq content) (small : seq < 2 ^ 64) (pair : content ≡ plain.Tuple (number ∷ args ∷ [])) (is : number ≡ plain.Int (pos n)) where
  asks : p ≡ parts (pos 1) seq (asked (pos n) args)
  asks = whole ∙ ap (parts (pos 1) seq) (pair ∙ ap (λ (x : Plain). plain.Tuple (x ∷ args ∷ [])) is)

  abbrev Good : Result Handler MsgFault → Type 0
  Good r = Finds p (result_map_both (λ h. message.Request seq h args) (λ e. e) r)

  pick : (t : Bool) (x y : Result Handler MsgFault) → (t ≡ true → Good x) → (t ≡ false → Good y) → Good (cond t x y)
  pick true x y f g = f refl
  pick false x y f g = g refl

  kept : (h : Handler) → eqb n (handler_number h) ≡ true → Good (Ok h)
  kept h t = (asks ∙ ap (λ (m : ℕ). parts (pos 1) seq (asked (pos m) args)) (eqb-true n (handler_number h) t), small)

  asked_for : Asks p (pos n)
  asked_for = record { seq = seq; args = args; whole = asks; small = small }

  by_number : Good (handler_numbered n)
  by_number =
      pick (eqb n 1) _ _ (kept handler.Ping) (λ a.
      pick (eqb n 2) _ _ (kept handler.Close) (λ b.
      pick (eqb n 3) _ _ (kept handler.GetRoot) (λ c.
      pick (eqb n 4) _ _ (kept handler.GetAttr) (λ d.
      pick (eqb n 5) _ _ (kept handler.DelAttr) (λ e.
      pick (eqb n 6) _ _ (kept handler.SetAttr) (λ f.
      pick (eqb n 7) _ _ (kept handler.Call) (λ g.
      pick (eqb n 8) _ _ (kept handler.CallAttr) (λ h.
      pick (eqb n 9) _ _ (kept handler.Repr) (λ i.
      pick (eqb n 10) _ _ (kept handler.Str) (λ j.
      pick (eqb n 11) _ _ (kept handler.Cmp) (λ k.
      pick (eqb n 15) _ _ (kept handler.Del) (λ l.
      pick (eqb n 16) _ _ (kept handler.Inspect) (λ m.
      pick (is_left_out n) _ _ (λ t. (asked_for, t)) (λ o.
      (asked_for, λ q is low high. outside q is low high (neither (neither (neither (neither (neither (neither (neither (neither (neither (neither (neither (neither (neither a b) c) d) e) f) g) h) i) j) k) l) m) o))))))))))))))))
    where
      outside : (q : ℕ) → pos n ≡ pos q → 1 ≤ q → q ≤ 20 → is_number n ≡ false → ⊥
      outside q e low high none =
          let known : is_number q ≡ true = in_table q low high in
          let wrong : true ≡ false = sym known ∙ ap is_number (sym (same_pos n q e)) ∙ none in
          cc

-- a request's content
module _ (p content : Plain) (seq : ℕ) (whole : p ≡ parts (pos 1) seq content) (small : seq < 2 ^ 64) where
  content_is : (s : IsShaped p) → (handler : ℤ) × (args : Plain) × (content ≡ asked handler args)
  content_is s =
      let shape = shape_parts p (plain.Int (pos 1)) (plain.Int (pos seq)) content whole s in
      let a = s.asks (sym (same_int (pos 1) s.kind shape.0)) in
      (a.0, a.1, shape.2 ∙ a.2)

  by_handler : (number args : Plain) → content ≡ plain.Tuple (number ∷ args ∷ []) → (x : Plain-F Plain) → look number ≡ x → Finds p (request_at seq x args)
  by_handler number args pair (Plain-F.Int (pos n)) e = by_number p content number args seq n whole small pair (int_is number (pos n) e)
  by_handler number args pair (Plain-F.Int (negsuc n)) e =
      let is : number ≡ plain.Int (negsuc n) = int_is number (negsuc n) e in
      (record { seq = seq; args = args; whole = whole ∙ ap (parts (pos 1) seq) (pair ∙ ap (λ (x : Plain). plain.Tuple (x ∷ args ∷ [])) is); small = small }, λ m f low high. cc)
  by_handler number args pair x e = λ s.
      let a = content_is s in
      let first : number ≡ plain.Int a.0 = (same_two number args (plain.Int a.0) a.1 (sym pair ∙ a.2)).0 in
      let level : x ≡ Plain-F.Int a.0 = sym e ∙ ap look first in
      cc

  by_content : (x : Plain-F Plain) → look content ≡ x → Finds p (asked_at seq x)
  by_content (Plain-F.Tuple (number ∷ args ∷ [])) e = by_handler number args (tuple_is content (number ∷ args ∷ []) e) (look number) refl
  by_content x e = λ s.
      let a = content_is s in
      let level : x ≡ Plain-F.Tuple (plain.Int a.0 ∷ a.1 ∷ []) = sym e ∙ ap look a.2 ∙ look_tuple (plain.Int a.0 ∷ a.1 ∷ []) in
      cc

by_kinds : (p content : Plain) (seq : ℕ) → seq < 2 ^ 64 → (kind : ℤ) → p ≡ parts kind seq content → Finds p (by_kind kind seq content)
by_kinds p content seq small kind e =
    chosen (Finds p) (int_eq kind (pos 1)) _ _ (λ t. by_content p content seq (e ∙ ap (λ (k : ℤ). parts k seq content) (int_same kind (pos 1) t)) small (look content) refl) (λ a.
    chosen (Finds p) (int_eq kind (pos 2)) _ _ (λ t. (e ∙ ap (λ (k : ℤ). parts k seq content) (int_same kind (pos 2) t), small)) (λ b.
    chosen (Finds p) (int_eq kind (pos 3)) _ _ (λ t. (e ∙ ap (λ (k : ℤ). parts k seq content) (int_same kind (pos 3) t), small)) (λ c.
    ((seq, content, e, small), int_other kind (pos 1) a, int_other kind (pos 2) b, int_other kind (pos 3) c))))

module _ (p kind number content : Plain) (whole : p ≡ plain.Tuple (kind ∷ number ∷ content ∷ [])) where
  by_size : (k : ℤ) (n : ℕ) → look kind ≡ Plain-F.Int k → look number ≡ Plain-F.Int (pos n) → Finds p (numbered (Plain-F.Int k) (Plain-F.Int (pos n)) content)
  by_size k n a b =
      let first : kind ≡ plain.Int k = int_is kind k a in
      let second : number ≡ plain.Int (pos n) = int_is number (pos n) b in
      let e : p ≡ parts k n content = whole ∙ (λ i. plain.Tuple (first i ∷ second i ∷ content ∷ [])) in
      chosen (Finds p) (ltb n (2 ^ 64)) _ _ (λ t. by_kinds p content n (ltb-true n (2 ^ 64) t) k e) (λ t s. too_large t s (shape_parts p kind number content whole s) second)
    where
      too_large : ltb n (2 ^ 64) ≡ false → (s : IsShaped p) → (kind ≡ plain.Int s.kind) × (number ≡ plain.Int (pos s.seq)) × (content ≡ s.content) → number ≡ plain.Int (pos n) → ⊥
      too_large t s shape second =
          let same : n ≡ s.seq = same_pos n s.seq (same_int (pos n) (pos s.seq) (sym second ∙ shape.1)) in
          let large : 2 ^ 64 ≤ n = ltb-false n (2 ^ 64) t in
          let low : s.seq < 2 ^ 64 = s.small in
          omega arith

  by_ints : (k n : Plain-F Plain) → look kind ≡ k → look number ≡ n → Finds p (numbered k n content)
  by_ints (Plain-F.Int k) (Plain-F.Int (pos n)) a b = by_size k n a b
  by_ints k n a b = λ s.
      let shape = shape_parts p kind number content whole s in
      let first : k ≡ Plain-F.Int s.kind = sym a ∙ ap look shape.0 in
      let second : n ≡ Plain-F.Int (pos s.seq) = sym b ∙ ap look shape.1 in
      cc

by_level : (p : Plain) (x : Plain-F Plain) → look p ≡ x → Finds p (judged_at x)
by_level p (Plain-F.Tuple (kind ∷ number ∷ content ∷ [])) e = by_ints p kind number content (tuple_is p (kind ∷ number ∷ content ∷ []) e) (look kind) (look number) refl refl
by_level p x e = λ s. let level : x ≡ Plain-F.Tuple (plain.Int s.kind ∷ plain.Int (pos s.seq) ∷ s.content ∷ []) = shape_whole p x e s in cc

-- what the tests answer is what the value is
pub judged_finds : (p : Plain) → Finds p (judged p)
judged_finds p = by_level p (look p) refl

-- ---- and there is no other

judged_parts : (kind : ℤ) (seq : ℕ) (content : Plain) → seq < 2 ^ 64 → judged (parts kind seq content) ≡ by_kind kind seq content
judged_parts kind seq content small =
    ap judged_at (look_tuple (plain.Int kind ∷ plain.Int (pos seq) ∷ content ∷ []))
    ∙ ap (λ (t : Bool). cond t (by_kind kind seq content) (Err fault.M1)) (lt-ltb seq (2 ^ 64) small)

judged_asks : (handler : ℤ) (seq : ℕ) (args : Plain) → seq < 2 ^ 64 → judged (parts (pos 1) seq (asked handler args)) ≡ result_map_both (λ h. message.Request seq h args) (λ e. e) (handler_at handler)
judged_asks handler seq args small = judged_parts (pos 1) seq (asked handler args) small ∙ ap (asked_at seq) (look_tuple (plain.Int handler ∷ args ∷ []))

handler_again : (h : Handler) → handler_numbered (handler_number h) ≡ Ok h
handler_again handler.Ping = refl
handler_again handler.Close = refl
handler_again handler.GetRoot = refl
handler_again handler.GetAttr = refl
handler_again handler.DelAttr = refl
handler_again handler.SetAttr = refl
handler_again handler.Call = refl
handler_again handler.CallAttr = refl
handler_again handler.Repr = refl
handler_again handler.Str = refl
handler_again handler.Cmp = refl
handler_again handler.Del = refl
handler_again handler.Inspect = refl

message_judged : (m : Message) → message_number m < 2 ^ 64 → judged (message_value m) ≡ Ok m
message_judged (message.Request seq h args) small = judged_asks (pos (handler_number h)) seq args small ∙ ap (result_map_both (λ x. message.Request seq x args) (λ e. e)) (handler_again h)
message_judged (message.Reply seq value) small = judged_parts (pos 2) seq value small
message_judged (message.Exception seq content) small = judged_parts (pos 3) seq content small

other_kind : (kind : ℤ) (seq : ℕ) (content : Plain) → kind ≢ pos 1 → kind ≢ pos 2 → kind ≢ pos 3 → by_kind kind seq content ≡ Err (fault.M2 kind)
other_kind kind seq content a b c = rw (int_apart kind (pos 1) a, int_apart kind (pos 2) b, int_apart kind (pos 3) c) refl

no_handler : (z : ℤ) → ((n : ℕ) → z ≡ pos n → 1 ≤ n → n ≤ 20 → ⊥) → handler_at z ≡ Err (fault.M3 z)
no_handler (negsuc n) out = refl
no_handler (pos n) out =
    rw (apart 1 (omega arith) (omega arith), apart 2 (omega arith) (omega arith), apart 3 (omega arith) (omega arith), apart 4 (omega arith) (omega arith), apart 5 (omega arith) (omega arith), apart 6 (omega arith) (omega arith), apart 7 (omega arith) (omega arith), apart 8 (omega arith) (omega arith), apart 9 (omega arith) (omega arith), apart 10 (omega arith) (omega arith), apart 11 (omega arith) (omega arith), apart 12 (omega arith) (omega arith), apart 13 (omega arith) (omega arith), apart 14 (omega arith) (omega arith), apart 15 (omega arith) (omega arith), apart 16 (omega arith) (omega arith), apart 17 (omega arith) (omega arith), apart 18 (omega arith) (omega arith), apart 19 (omega arith) (omega arith), apart 20 (omega arith) (omega arith)) refl
  where
    apart : (k : ℕ) → 1 ≤ k → k ≤ 20 → eqb n k ≡ false
    apart k low high = ne_eqb n k (λ e. out k (ap pos e) low high)

left_out : (n : ℕ) → is_left_out n ≡ true → handler_numbered n ≡ Err (fault.M4 n)
left_out n h =
    one _ 20 refl (one _ 19 refl (one _ 18 refl (one _ 17 refl (one _ 14 refl (one _ 13 refl (λ t. same 12 refl (eqb-true n 12 t))))))) h
  where
    same : (k : ℕ) → handler_numbered k ≡ Err (fault.M4 k) → n ≡ k → handler_numbered n ≡ Err (fault.M4 n)
    same k is e = ap handler_numbered e ∙ is ∙ ap (λ (x : ℕ). Err (fault.M4 x)) (sym e)

    one : (rest : Bool) (k : ℕ) → handler_numbered k ≡ Err (fault.M4 k) → (rest ≡ true → handler_numbered n ≡ Err (fault.M4 n)) → (rest || eqb n k) ≡ true → handler_numbered n ≡ Err (fault.M4 n)
    one rest k is go h = ⊎_elim go (λ t. same k is (eqb-true n k t)) (or_cases rest (eqb n k) h)

-- a value that is a message, or none by the faults after the first, has the shape
message_shape : (p : Plain) (m : Message) → p ≡ message_value m → message_number m < 2 ^ 64 → IsShaped p
message_shape p (message.Request seq h args) e small = record { kind = pos 1; seq = seq; content = asked (pos (handler_number h)) args; whole = e; small = small; asks = λ _. (pos (handler_number h), args, refl) }
message_shape p (message.Reply seq value) e small = record { kind = pos 2; seq = seq; content = value; whole = e; small = small; asks = λ f. absurd (apart f) }
  where
    apart : pos 2 ≡ pos 1 → ⊥
    apart f = cc
message_shape p (message.Exception seq content) e small = record { kind = pos 3; seq = seq; content = content; whole = e; small = small; asks = λ f. absurd (apart f) }
  where
    apart : pos 3 ≡ pos 1 → ⊥
    apart f = cc

asks_shape : (p : Plain) (handler : ℤ) → Asks p handler → IsShaped p
asks_shape p handler a = record { kind = pos 1; seq = a.seq; content = asked handler a.args; whole = a.whole; small = a.small; asks = λ _. (handler, a.args, refl) }

finds_shape : (p : Plain) (r : Result Message MsgFault) → Finds p r → (r ≡ Err fault.M1) ⊎ IsShaped p
finds_shape p (Ok m) f = inr (message_shape p m f.0 f.1)
finds_shape p (Err fault.M1) f = inl refl
finds_shape p (Err (fault.M2 kind)) f = inr (record { kind = kind; seq = f.0.0; content = f.0.1; whole = f.0.2; small = f.0.3; asks = λ e. absurd (f.1 e) })
finds_shape p (Err (fault.M3 handler)) f = inr (asks_shape p handler f.0)
finds_shape p (Err (fault.M4 number)) f = inr (asks_shape p (pos number) f.0)
finds_shape p (Err (fault.M5 number)) f = absurd f
finds_shape p (Err fault.NoMemory) f = absurd f

found_judged : (p : Plain) (r : Result Message MsgFault) → Finds p r → judged p ≡ r
found_judged p (Ok m) f = ap judged f.0 ∙ message_judged m f.1
found_judged p (Err fault.M1) f = ⊎_elim (λ is. is) (λ s. absurd (f s)) (finds_shape p (judged p) (judged_finds p))
found_judged p (Err (fault.M2 kind)) f = ap judged f.0.2 ∙ judged_parts kind f.0.0 f.0.1 f.0.3 ∙ other_kind kind f.0.0 f.0.1 f.1 f.2 f.3
found_judged p (Err (fault.M3 handler)) f = ap judged f.0.whole ∙ judged_asks handler f.0.seq f.0.args f.0.small ∙ ap (result_map_both (λ h. message.Request f.0.seq h f.0.args) (λ e. e)) (no_handler handler f.1)
found_judged p (Err (fault.M4 number)) f = ap judged f.0.whole ∙ judged_asks (pos number) f.0.seq f.0.args f.0.small ∙ ap (result_map_both (λ h. message.Request f.0.seq h f.0.args) (λ e. e)) (left_out number f.1)
found_judged p (Err (fault.M5 number)) f = absurd f
found_judged p (Err fault.NoMemory) f = absurd f

pub one_finding : (p : Plain) (r s : Result Message MsgFault) → Finds p r → Finds p s → r ≡ s
one_finding p r s f g = sym (found_judged p r f) ∙ found_judged p s g

-- ---- for the reader

reads_fault : (p : Plain) (e : MsgFault) → Finds p (Err e) → Reads p (Err e)
reads_fault p fault.M1 f = f
reads_fault p (fault.M2 kind) f = f
reads_fault p (fault.M3 handler) f = f
reads_fault p (fault.M4 number) f = f
reads_fault p (fault.M5 number) f = f
reads_fault p fault.NoMemory f = tt

judged_is : (p : Plain) (r : Result Message MsgFault) → r ≡ judged p → Finds p r
judged_is p r e = subst (Finds p) (sym e) (judged_finds p)

pub of_form : (p : Plain) (f g : Form) (seq : ℕ) (content x : Plain) → f ≡ g → x ≡ content → Ok (seen_as f seq content) ≡ judged p → Finds p (Ok (seen_as g seq x))
of_form p f g seq content x e same h = judged_is p (Ok (seen_as g seq x)) ((λ i. Ok (seen_as (sym e i) seq (same i))) ∙ h)

pub of_fault : (p : Plain) (e : MsgFault) → Err e ≡ judged p → Reads p (Err e)
of_fault p e h = reads_fault p e (judged_is p (Err e) h)

pub one_message : (m n : Message) → message_number m < 2 ^ 64 → message_number n < 2 ^ 64 → message_value m ≡ message_value n → m ≡ n
one_message m n a b e = let same : Ok m ≡ Ok n = one_finding (message_value m) (Ok m) (Ok n) (refl, a) (e, b) in cc
