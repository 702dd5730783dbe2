-- Every schedule follows the log of two sides, and one at rest has read all of it.
use Rattle.std.proofs.Common.{◌≡◌, List, [], ◌∷◌, ℕ, suc, ◌+◌, ◌<◌, ◌≤◌, refl, sym, ap, ◌∙◌, subst, arith}
use Rattle.std.specs.Prelude.{length}
use Rattle.side_trees.specs.Sides.{Lang, TreeOf, Message, Item, Sends, Shows, Event, Got, Begin, Half, half, written, got, sent}
use Rattle.side_trees.specs.SharedRun.{Side, A, B, Entry, Puts, Begins, Text, wrote, heard, begun}
use Rattle.side_trees.specs.Growing.{Extends}
use Rattle.side_trees.specs.Joining.{Still, Causal}
use Rattle.side_trees.specs.Schedules.{Quiet, Reached, Begun, A_reads, B_reads, A_begins, B_begins, Follows, All, Schedules}
use Rattle.side_trees.proofs.Lists.{extends-same, extends-one, extends-trans, sent-extends}
use Rattle.side_trees.proofs.OlderEnds.{extends-length, longer-extends, extends-equal, next, next-same, extends-less, extends-none}
use Rattle.side_trees.proofs.TalkLists.{got-extends, begins, texts_of, counts-below, begins-extends, a-hears, b-hears, texts-heard, heard-extends, record-extends, texts-at-a, texts-at-b, events-counted}

-- the log is that of two sides which started as a and b and have read all of it
pub record Matched (L : Lang) (a b : Half L) (es : List (Entry L)) : Type 0 where
  pub causal : Causal L a b es
  pub at_a : written L (half L a (heard L A es)) ≡ wrote L A es
  pub at_b : written L (half L b (heard L B es)) ≡ wrote L B es

abbrev pub Within : (L : Lang) → List (Entry L) → List (Event L) → List (Event L) → Type 0
Within L es ra rb = Extends (heard L A es) ra × Extends (heard L B es) rb

-- Complete: where all that was written is read and all texts of the log are begun, each entry of the log was read.
pub record AtRest (L : Lang) (a b : Half L) (es : List (Entry L)) (ra rb : List (Event L)) : Type 0 where
  in_a : Extends (heard L A es) ra
  in_b : Extends (heard L B es) rb
  texts_a : begins L ra ≡ begins L (heard L A es)
  texts_b : begins L rb ≡ begins L (heard L B es)
  quiet : Quiet L a b ra rb

enough-a : (L : Lang) (a b : Half L) (es : List (Entry L)) (ra rb : List (Event L)) → AtRest L a b es ra rb → (old : List (Entry L)) → Extends es old
    → begins L (heard L A old) ≤ begins L ra
enough-a L a b es ra rb r old ext =
    subst (λ n. begins L (heard L A old) ≤ n) (sym r.texts_a) (begins-extends L (heard L A es) (heard L A old) (heard-extends L A es old ext))

enough-b : (L : Lang) (a b : Half L) (es : List (Entry L)) (ra rb : List (Event L)) → AtRest L a b es ra rb → (old : List (Entry L)) → Extends es old
    → begins L (heard L B old) ≤ begins L rb
enough-b L a b es ra rb r old ext =
    subst (λ n. begins L (heard L B old) ≤ n) (sym r.texts_b) (begins-extends L (heard L B es) (heard L B old) (heard-extends L B es old ext))

reaches-a : (L : Lang) (a b : Half L) (es : List (Entry L)) (ra rb : List (Event L)) → AtRest L a b es ra rb → (old : List (Entry L)) → Extends es old
    → length (heard L A old) ≤ length ra → Extends ra (heard L A old)
reaches-a L a b es ra rb r old ext h = longer-extends (heard L A es) ra (heard L A old) r.in_a (heard-extends L A es old ext) h

reaches-b : (L : Lang) (a b : Half L) (es : List (Entry L)) (ra rb : List (Event L)) → AtRest L a b es ra rb → (old : List (Entry L)) → Extends es old
    → length (heard L B old) ≤ length rb → Extends rb (heard L B old)
reaches-b L a b es ra rb r old ext h = longer-extends (heard L B es) rb (heard L B old) r.in_b (heard-extends L B es old ext) h

-- a message that was written over what was read is read
message-read : (L : Lang) (x : Half L) (mine then theirs : List (Event L)) (m : Message L) (w : List (Item L)) (old : List (Event L))
    → sent L (written L (half L x mine)) ≡ got L theirs → Extends mine then → Extends (written L (half L x then)) (Sends m ∷ w)
    → got L old ≡ sent L w → begins L old ≤ begins L theirs → length (Got m ∷ old) ≤ length theirs
message-read L x mine then theirs m w old quiet ext cause hears enough =
    let grown : Extends (written L (half L x mine)) (Sends m ∷ w) =
    extends-trans (written L (half L x mine)) (written L (half L x then)) (Sends m ∷ w) (record-extends L x mine then ext) cause in
    let read : Extends (got L theirs) (m ∷ got L old) =
    subst (λ l. Extends l (m ∷ got L old)) quiet (
    subst (λ l. Extends (sent L (written L (half L x mine))) (m ∷ l)) (sym hears) (sent-extends L (written L (half L x mine)) (Sends m ∷ w) grown)) in
    counts-below L (Got m ∷ old) theirs (extends-length (got L theirs) (m ∷ got L old) read) enough

all-read : (L : Lang) (a b : Half L) (es : List (Entry L)) (ra rb : List (Event L)) → AtRest L a b es ra rb → (old : List (Entry L)) → Extends es old → Causal L a b old
    → Extends ra (heard L A old) × Extends rb (heard L B old)
all-read L a b es ra rb r [] ext c = (extends-none ra, extends-none rb)
all-read L a b es ra rb r (Puts A (Sends m) ∷ old) ext (c, k) =
    let before : Extends ra (heard L A old) × Extends rb (heard L B old) = all-read L a b es ra rb r old (extends-less es (Puts A (Sends m)) old ext) c in (
      before.0,
      reaches-b L a b es ra rb r (Puts A (Sends m) ∷ old) ext
          (message-read L a ra (heard L A old) rb m (wrote L A old) (heard L B old) r.quiet.1 before.0 k (b-hears L old) (enough-b L a b es ra rb r (Puts A (Sends m) ∷ old) ext)),
    )
all-read L a b es ra rb r (Puts A (Shows o) ∷ old) ext (c, k) = all-read L a b es ra rb r old (extends-less es (Puts A (Shows o)) old ext) c
all-read L a b es ra rb r (Puts B (Sends m) ∷ old) ext (c, k) =
    let before : Extends ra (heard L A old) × Extends rb (heard L B old) = all-read L a b es ra rb r old (extends-less es (Puts B (Sends m)) old ext) c in (
      reaches-a L a b es ra rb r (Puts B (Sends m) ∷ old) ext
          (message-read L b rb (heard L B old) ra m (wrote L B old) (heard L A old) r.quiet.0 before.1 k (a-hears L old) (enough-a L a b es ra rb r (Puts B (Sends m) ∷ old) ext)),
      before.1,
    )
all-read L a b es ra rb r (Puts B (Shows o) ∷ old) ext (c, k) = all-read L a b es ra rb r old (extends-less es (Puts B (Shows o)) old ext) c
all-read L a b es ra rb r (Begins A t ∷ old) ext (c, k) =
    let before : Extends ra (heard L A old) × Extends rb (heard L B old) = all-read L a b es ra rb r old (extends-less es (Begins A t) old ext) c in (
      reaches-a L a b es ra rb r (Begins A t ∷ old) ext
          (counts-below L (Begin t ∷ heard L A old) ra (extends-length (got L ra) (got L (heard L A old)) (got-extends L ra (heard L A old) before.0)) (enough-a L a b es ra rb r (Begins A t ∷ old) ext)),
      before.1,
    )
all-read L a b es ra rb r (Begins B t ∷ old) ext (c, k) =
    let before : Extends ra (heard L A old) × Extends rb (heard L B old) = all-read L a b es ra rb r old (extends-less es (Begins B t) old ext) c in (
      before.0,
      reaches-b L a b es ra rb r (Begins B t ∷ old) ext
          (counts-below L (Begin t ∷ heard L B old) rb (extends-length (got L rb) (got L (heard L B old)) (got-extends L rb (heard L B old) before.1)) (enough-b L a b es ra rb r (Begins B t ∷ old) ext)),
    )

pub complete : (L : Lang) (a b : Half L) (es : List (Entry L)) (ra rb : List (Event L)) → Causal L a b es → AtRest L a b es ra rb → All L es ra rb
complete L a b es ra rb c r =
    let read : Extends ra (heard L A es) × Extends rb (heard L B es) = all-read L a b es ra rb r es (extends-same es) c in
    (sym (extends-equal (heard L A es) ra r.in_a (extends-length ra (heard L A es) read.0)), sym (extends-equal (heard L B es) rb r.in_b (extends-length rb (heard L B es) read.1)))

-- A text of a schedule is found in the log as it was when the text began.
record Found (L : Lang) (a b : Half L) (talk : List (Entry L)) (h : Side) (t : TreeOf L) (xs : List (Text L)) : Type 0 where
  old : List (Entry L)
  older : Extends talk (Begins h t ∷ old)
  same : begun L old ≡ xs
  causal : Causal L a b old
  still : Still L a b old

abbrev rest-of : {M : Type 0} → List M → List M
rest-of [] = []
rest-of (x ∷ xs) = xs

abbrev side-of : (L : Lang) → List (Text L) → Side
side-of L [] = A
side-of L (x ∷ xs) = x.side

abbrev tree-of : (L : Lang) → TreeOf L → List (Text L) → TreeOf L
tree-of L t [] = t
tree-of L t (x ∷ xs) = x.tree

find : (L : Lang) (a b : Half L) (talk : List (Entry L)) (h : Side) (t : TreeOf L) (xs : List (Text L)) → Causal L a b talk → begun L talk ≡ record { side = h; tree = t } ∷ xs
    → Found L a b talk h t xs
find L a b [] h t xs c e = absurd cc
find L a b (Puts g i ∷ es) h t xs (c, k) e =
    let f : Found L a b es h t xs = find L a b es h t xs c e in
    record { old = f.old; older = extends-trans (Puts g i ∷ es) es (Begins h t ∷ f.old) (extends-one (Puts g i) es) f.older; same = f.same; causal = f.causal; still = f.still }
find L a b (Begins g v ∷ es) h t xs (c, k) e = record {
  old = es;
  older = subst (λ s. Extends (Begins g v ∷ es) (Begins s t ∷ es)) (ap (side-of L) e) (subst (λ s. Extends (Begins g v ∷ es) (Begins g s ∷ es)) (ap (tree-of L t) e) (extends-same (Begins g v ∷ es)));
  same = ap rest-of e;
  causal = c;
  still = k;
}

-- Safe: what a schedule reads is an older end of what the log has.
too-many : (n k : ℕ) → suc n ≤ k → n ≡ k → ⊥
too-many n k h e = absurd (omega arith)

fewer : (n m a b c d : ℕ) → n ≡ a + b → m ≡ c + d → suc a ≤ c → b ≡ d → n < m
fewer n m a b c d e f h k = omega arith

-- the next event of the log is the message that is read, since no text is left
next-is : (L : Lang) (whole r : List (Event L)) (m : Message L) → begins L r ≡ begins L whole → Extends (got L whole) (m ∷ got L r)
    → (e : Event L) → Extends whole (e ∷ r) → Extends whole (Got m ∷ r)
next-is L whole r m n h (Got k) f =
    subst (λ l. Extends whole (Got l ∷ r)) (next-same (got L whole) k m (got L r) (got-extends L whole (Got k ∷ r) f) h) f
next-is L whole r m n h (Begin t) f = absurd (too-many (begins L r) (begins L whole) (begins-extends L whole (Begin t ∷ r) f) n)

read-next : (L : Lang) (whole r : List (Event L)) (m : Message L) → Extends whole r → begins L r ≡ begins L whole → Extends (got L whole) (m ∷ got L r)
    → Extends whole (Got m ∷ r)
read-next L whole r m ext n h =
    let less : length r < length whole = fewer (length r) (length whole) (length (got L r)) (begins L r) (length (got L whole)) (begins L whole)
    (events-counted L r) (events-counted L whole) (extends-length (got L whole) (m ∷ got L r) h) n in
    let (e, f) = next whole r ext less in
    next-is L whole r m n h e f

-- what a side has sent by then, the log has for the other
hears-it : (L : Lang) (x : Half L) (mine read theirs : List (Event L)) (w : List (Item L)) (m : Message L) (ms : List (Message L))
    → written L (half L x mine) ≡ w → got L theirs ≡ sent L w → Extends mine read → Extends (sent L (written L (half L x read))) (m ∷ ms) → Extends (got L theirs) (m ∷ ms)
hears-it L x mine read theirs w m ms e f ext h =
    subst (λ l. Extends l (m ∷ ms)) (sym f) (
    subst (λ l. Extends (sent L l) (m ∷ ms)) e (
    extends-trans (sent L (written L (half L x mine))) (sent L (written L (half L x read))) (m ∷ ms)
    (sent-extends L (written L (half L x mine)) (written L (half L x read)) (record-extends L x mine read ext)) h))

texts-a : (L : Lang) (a b : Half L) (es : List (Entry L)) {xs : List (Text L)} {ra rb : List (Event L)} → Reached L a b xs ra rb → begun L es ≡ xs → begins L ra ≡ begins L (heard L A es)
texts-a L a b es r e = texts-at-a L a b r ∙ sym (texts-heard L A es ∙ ap (texts_of L A) e)

texts-b : (L : Lang) (a b : Half L) (es : List (Entry L)) {xs : List (Text L)} {ra rb : List (Event L)} → Reached L a b xs ra rb → begun L es ≡ xs → begins L rb ≡ begins L (heard L B es)
texts-b L a b es r e = texts-at-b L a b r ∙ sym (texts-heard L B es ∙ ap (texts_of L B) e)

pub matched : (L : Lang) (a b : Half L) (es : List (Entry L)) → Causal L a b es → Still L a b es → Matched L a b es
matched L a b es c (p, q, i, j) = record { causal = c; at_a = p; at_b = q }

pub at-rest : (L : Lang) (a b : Half L) (es : List (Entry L)) {xs : List (Text L)} {ra rb : List (Event L)} → Reached L a b xs ra rb → begun L es ≡ xs → Within L es ra rb → Quiet L a b ra rb
    → AtRest L a b es ra rb
at-rest L a b es r e w q = record { in_a = w.0; in_b = w.1; texts_a = texts-a L a b es r e; texts_b = texts-b L a b es r e; quiet = q }

pub safe : (L : Lang) (a b : Half L) (es : List (Entry L)) {xs : List (Text L)} {ra rb : List (Event L)} → Matched L a b es → Reached L a b xs ra rb → begun L es ≡ xs → Within L es ra rb
safe L a b es k Begun e = (extends-none (heard L A es), extends-none (heard L B es))
safe L a b es k (A_reads {ra = ra} {rb = rb} m r h) e =
    let w : Within L es ra rb = safe L a b es k r e in
    (read-next L (heard L A es) ra m w.0 (texts-a L a b es r e) (hears-it L b (heard L B es) rb (heard L A es) (wrote L B es) m (got L ra) k.at_b (a-hears L es) w.1 h), w.1)
safe L a b es k (B_reads {ra = ra} {rb = rb} m r h) e =
    let w : Within L es ra rb = safe L a b es k r e in
    (w.0, read-next L (heard L B es) rb m w.1 (texts-b L a b es r e) (hears-it L a (heard L A es) ra (heard L B es) (wrote L A es) m (got L rb) k.at_a (b-hears L es) w.0 h))
safe L a b es k (A_begins {xs = xs} {ra = ra} {rb = rb} t r q i j) e =
    let f : Found L a b es A t xs = find L a b es A t xs k.causal e in
    let w : Within L f.old ra rb = safe L a b f.old (matched L a b f.old f.causal f.still) r f.same in
    let read : All L f.old ra rb = complete L a b f.old ra rb f.causal (at-rest L a b f.old r f.same w q) in (
      subst (λ l. Extends (heard L A es) (Begin t ∷ l)) (sym read.0) (heard-extends L A es (Begins A t ∷ f.old) f.older),
      subst (λ l. Extends (heard L B es) l) (sym read.1) (heard-extends L B es (Begins A t ∷ f.old) f.older),
    )
safe L a b es k (B_begins {xs = xs} {ra = ra} {rb = rb} t r q i j) e =
    let f : Found L a b es B t xs = find L a b es B t xs k.causal e in
    let w : Within L f.old ra rb = safe L a b f.old (matched L a b f.old f.causal f.still) r f.same in
    let read : All L f.old ra rb = complete L a b f.old ra rb f.causal (at-rest L a b f.old r f.same w q) in (
      subst (λ l. Extends (heard L A es) l) (sym read.0) (heard-extends L A es (Begins B t ∷ f.old) f.older),
      subst (λ l. Extends (heard L B es) (Begin t ∷ l)) (sym read.1) (heard-extends L B es (Begins B t ∷ f.old) f.older),
    )

-- The log's own order is a schedule.
sends-next : (L : Lang) (x : Half L) (then old : List (Event L)) (m : Message L) (w : List (Item L)) → Extends (written L (half L x then)) (Sends m ∷ w) → got L old ≡ sent L w
    → Extends (sent L (written L (half L x then))) (m ∷ got L old)
sends-next L x then old m w h e =
    subst (λ l. Extends (sent L (written L (half L x then))) (m ∷ l)) (sym e) (sent-extends L (written L (half L x then)) (Sends m ∷ w) h)

quiet-at : (L : Lang) (a b : Half L) (es : List (Entry L)) → Matched L a b es → Quiet L a b (heard L A es) (heard L B es)
quiet-at L a b es k = (ap (sent L) k.at_b ∙ sym (a-hears L es), ap (sent L) k.at_a ∙ sym (b-hears L es))

own-order : (L : Lang) (a b : Half L) (es : List (Entry L)) → Causal L a b es → Reached L a b (begun L es) (heard L A es) (heard L B es)
own-order L a b [] c = Begun
own-order L a b (Puts A (Sends m) ∷ es) (c, k) = B_reads m (own-order L a b es c) (sends-next L a (heard L A es) (heard L B es) m (wrote L A es) k (b-hears L es))
own-order L a b (Puts A (Shows o) ∷ es) (c, k) = own-order L a b es c
own-order L a b (Puts B (Sends m) ∷ es) (c, k) = A_reads m (own-order L a b es c) (sends-next L b (heard L B es) (heard L A es) m (wrote L B es) k (a-hears L es))
own-order L a b (Puts B (Shows o) ∷ es) (c, k) = own-order L a b es c
own-order L a b (Begins A t ∷ es) (c, (p, q, i, j)) = A_begins t (own-order L a b es c) (quiet-at L a b es (matched L a b es c (p, q, i, j))) i j
own-order L a b (Begins B t ∷ es) (c, (p, q, i, j)) = B_begins t (own-order L a b es c) (quiet-at L a b es (matched L a b es c (p, q, i, j))) i j

-- All of it where the units are those that the log was made with.
follows : (L : Lang) (a b : Half L) (es : List (Entry L)) (ra rb : List (Event L)) → Matched L a b es → Within L es ra rb → Follows L a b es ra rb
follows L a b es ra rb k (v, w) = (
  v,
  w,
  subst (λ l. Extends l (written L (half L a ra))) k.at_a (record-extends L a (heard L A es) ra v),
  subst (λ l. Extends l (written L (half L b rb))) k.at_b (record-extends L b (heard L B es) rb w),
)

ends : (L : Lang) (a b : Half L) (es : List (Entry L)) (ra rb : List (Event L)) (ea eb : Half L) → half L a (heard L A es) ≡ ea → half L b (heard L B es) ≡ eb
    → All L es ra rb → All L es ra rb × (half L a ra ≡ ea) × (half L b rb ≡ eb)
ends L a b es ra rb ea eb p q (v, w) = ((v, w), ap (half L a) v ∙ p, ap (half L b) w ∙ q)

pub schedules : (L : Lang) (es : List (Entry L)) (a b ea eb : Half L) → Causal L a b es → half L a (heard L A es) ≡ ea → half L b (heard L B es) ≡ eb
    → written L ea ≡ wrote L A es → written L eb ≡ wrote L B es → Schedules L es a b ea eb
schedules L es a b ea eb c p q wa wb =
    let k : Matched L a b es = record { causal = c; at_a = ap (written L) p ∙ wa; at_b = ap (written L) q ∙ wb } in (
      own-order L a b es c,
      quiet-at L a b es k,
      λ ra rb r. (
        follows L a b es ra rb k (safe L a b es k r refl),
        λ quiet. ends L a b es ra rb ea eb p q (complete L a b es ra rb c (at-rest L a b es r refl (safe L a b es k r refl) quiet)),
      ),
    )
