-- Texts that are made, and lists of them.
use Rattle.std.proofs.Common.{◌≡◌, ◌<◌, ◌≤◌, ◌==◌, ◌+◌, ℕ, Bool, true, false, List, [], ◌∷◌, length, map, Result, Ok, Err, string_bytes, String, chars, codes, encode_utf8_all, refl, sym, ap, subst, ◌∙◌, arith, if◌then◌else◌, le-ltb, lt-ltb}
use Rattle.std.proofs.lemmas.List.{length-map}
use Rattle.std.proofs.lemmas.Str.{encodes-chars, chars-nil, IsUtf8-string_bytes}
use Rattle.std.specs.Prelude.{nat_lt, IfOk, IsErrOf}
use Rattle.std.specs.Str.{IsUtf8}
use Rattle.rp_base.specs.Values.{heaviest_value}
use Rattle.rp_base.specs.PlainValues.{plain_weight}
use Rattle.rp_base.specs.declared.exceptions.Beyond.TheVariants as beyond
use Rattle.rp_base.specs.declared.exceptions.ExcKind.TheVariants as kind
use Rattle.rp_base.specs.declared.ends.OpEnd.{OpEnd}
use Rattle.rp_base.specs.declared.plain.Plain.{Plain}
use Rattle.rp_base.specs.declared.plain.Plain.TheVariants as plain
use Rattle.rp_base.specs.declared.value.Value.{Value}
use Rattle.object_operations.specs.declared.method.BuiltinMethod.{BuiltinMethod}
use Rattle.py_plain.specs.Arithmetic.{limited}
use Rattle.py_plain.specs.declared.ends.PlainEnd.{PlainEnd}
use Rattle.py_plain.specs.declared.ends.PlainEnd.TheVariants as end
use Rattle.py_store.specs.declared.cell.Cell.TheVariants as cell
use Rattle.py_strs.specs.declared.ends.StrEnd.{StrEnd}
use Rattle.py_strs.specs.declared.ends.StrEnd.TheVariants as str_end
use Rattle.py_strs.specs.Joining.{characters, joined, text_weight}
use Rattle.py_strs.specs.Spaces.{IsStripped}
use Rattle.py_strs.specs.Splitting.{IsSplit}
use Rattle.side_trees.specs.Trees.{Stop}
use Rattle.language_rules.specs.Answers.{answers, gives}
use Rattle.language_rules.specs.AtOnce.{Computes}
use Rattle.language_rules.specs.Draining.{most_items}
use Rattle.language_rules.specs.Going.{RuleTree, fails, gives_new, text}
use Rattle.language_rules.specs.TextFunctions.{pieces, replaced, stripped}
use Rattle.language_rules.specs.TextMethods.{characters_method, list_of_texts, made_text, replace_rule, split_rule, text_of}
use Rattle.builtin_functions.proofs.Strip.{one_part}
use Rattle.text_methods.specs.declared.answers.TextAnswer.{TextAnswer}
use Rattle.text_methods.specs.TextAnswers.{Answers, Lists, Makes, NotMade}
use Rattle.text_methods.proofs.Cutting.{one_cut}

-- ---- one text

-- a text by whether it is too heavy
abbrev judged : Bool → List ℕ → Result Plain PlainEnd
judged heavy t = if heavy then Err (end.Beyond beyond.Size) else Ok (plain.Text t)

limited_text : (t : List ℕ) → limited (plain.Text t) ≡ judged (nat_lt heaviest_value (1 + length t)) t
unfolding plain_weight
limited_text t = refl

made_as : (cs : List ℕ) (b : Bool) → nat_lt heaviest_value (text_weight cs) ≡ b → made_text cs ≡ answers (judged b (encode_utf8_all cs))
made_as cs b h = ap answers (limited_text (encode_utf8_all cs) ∙ ap (λ (x : Bool). judged x (encode_utf8_all cs)) h)

pub fits : {A : Type 0} (cs : List ℕ) (r : Result (String A) StrEnd) (s : String A) (t : List ℕ) → r ≡ Ok s → t ≡ string_bytes s → Makes cs r → made_text cs ≡ gives (text t)
fits {A} cs r s t is e h =
    let m : Makes cs (Ok s) = subst (λ (x : Result (String A) StrEnd). Makes cs x) is h in
    let bytes : encode_utf8_all cs ≡ t = ap encode_utf8_all (sym m.0) ∙ encodes-chars (string_bytes s) (IsUtf8-string_bytes s) ∙ sym e in
    made_as cs false (le-ltb heaviest_value (text_weight cs) m.1) ∙ ap (λ (l : List ℕ). gives (text l)) bytes

pub passes : (cs : List ℕ) (e : StrEnd) → e ≡ str_end.Size → NotMade cs e → made_text cs ≡ Stop beyond.Size
passes cs e is h =
    let heavy : heaviest_value < text_weight cs = subst (NotMade cs) is h in
    made_as cs true (lt-ltb heaviest_value (text_weight cs) heavy)

pub not_made : {A : Type 0} (cs : List ℕ) (r : Result (String A) StrEnd) (e : StrEnd) → r ≡ Err e → Makes cs r → NotMade cs e
not_made {A} cs r e is h = subst (λ (x : Result (String A) StrEnd). Makes cs x) is h

-- what `join_texts` tells
pub joins : {A : Type 0} (cs : List ℕ) (r : Result (String A) StrEnd) → IfOk r (λ t. (characters t ≡ cs) × (text_weight (characters t) ≤ heaviest_value)) → (IsErrOf r str_end.Size → heaviest_value < text_weight cs) → ¬ (IsErrOf r str_end.EmptySep) → Makes cs r
joins cs (Ok t) ok size empty = (ok.0, subst (λ (l : List ℕ). text_weight l ≤ heaviest_value) ok.0 ok.1)
joins cs (Err str_end.Size) ok size empty = size refl
joins cs (Err str_end.EmptySep) ok size empty = absurd (empty refl)
joins cs (Err str_end.NoMemory) ok size empty = tt

-- what `replace_text` tells
pub remade : {A : Type 0} (cs old new : List ℕ) (r : Result (String A) StrEnd) → 0 < length old
    → IfOk r (λ t. (ps : List (List ℕ)) × IsSplit old cs ps × (characters t ≡ joined new ps) × (text_weight (characters t) ≤ heaviest_value))
    → (IsErrOf r str_end.Size → (ps : List (List ℕ)) × IsSplit old cs ps × (heaviest_value < text_weight (joined new ps))) → ¬ (IsErrOf r str_end.EmptySep) → Makes (replaced cs old new) r
remade cs old new (Ok t) some (ps, split, is, light) size empty =
    let same : characters t ≡ replaced cs old new = is ∙ ap (joined new) (one_cut old cs ps some split) in
    (same, subst (λ (l : List ℕ). text_weight l ≤ heaviest_value) same light)
remade cs old new (Err str_end.Size) some ok size empty =
    let (ps, split, heavy) = size refl in
    subst (λ (qs : List (List ℕ)). heaviest_value < text_weight (joined new qs)) (one_cut old cs ps some split) heavy
remade cs old new (Err str_end.EmptySep) some ok size empty = absurd (empty refl)
remade cs old new (Err str_end.NoMemory) some ok size empty = tt

pub some_bytes : (s : List ℕ) → false ≡ (length s == 0) → 0 < length s
some_bytes [] h = cc
some_bytes (c ∷ s) h = omega arith

pub nothing_replaced : (cs old new : List ℕ) → length old ≡ 0 → replace_rule cs (chars old) new ≡ Stop beyond.Arguments
nothing_replaced cs [] new h = ap (λ (l : List ℕ). replace_rule cs l new) chars-nil
nothing_replaced cs (c ∷ old) new h = absurd (omega (arith, h))

pub replaces : (cs old new : List ℕ) (r : Result Value OpEnd) → 0 < length old → Computes (made_text (replaced cs old new)) r → Computes (replace_rule cs old new) r
replaces cs [] new r some h = absurd (omega (arith, some))
replaces cs (c ∷ old) new r some h = h

pub part_bytes : (s part : List ℕ) → IsUtf8 part → IsStripped (chars s) (chars part) → part ≡ encode_utf8_all (stripped (chars s))
part_bytes s part u is = sym (encodes-chars part u) ∙ ap encode_utf8_all (one_part (chars s) (chars part) is)

-- ---- lists of texts

as_texts : {A : Type 0} (ps : List (String A)) → map (λ p. text (string_bytes p)) ps ≡ map text_of (map characters ps)
as_texts [] = refl
as_texts (p ∷ ps) =
    ap (λ (l : List Value). text (string_bytes p) ∷ l) (as_texts ps)
    ∙ ap (λ (b : List ℕ). text b ∷ map text_of (map characters ps)) (sym (encodes-chars (string_bytes p) (IsUtf8-string_bytes p)))

by_count : (ps : List (List ℕ)) (b : Bool) → nat_lt most_items (length ps) ≡ b → list_of_texts ps ≡ (if b then Stop beyond.Size else gives_new (cell.List (map text_of ps)))
by_count ps b h = ap (λ (x : Bool). if x then Stop beyond.Size else gives_new (cell.List (map text_of ps))) (ap (nat_lt most_items) (length-map ps text_of) ∙ h)

pub lists : {A : Type 0} (ps : List (String A)) (vs : List Value) → length ps ≤ most_items → vs ≡ map (λ p. text (string_bytes p)) ps → list_of_texts (map characters ps) ≡ gives_new (cell.List vs)
lists ps vs few is =
    by_count (map characters ps) false (ap (nat_lt most_items) (length-map ps characters) ∙ le-ltb most_items (length ps) few)
    ∙ ap (λ (l : List Value). gives_new (cell.List l)) (sym (is ∙ as_texts ps))

pub not_split : (cs sep : List ℕ) (r : Result (List Value) OpEnd) → length sep ≡ 0 → Lists (fails kind.ValueError (codes "empty separator")) r → Lists (split_rule cs (chars sep)) r
not_split cs [] r h k = subst (λ (l : List ℕ). Lists (split_rule cs l) r) (sym chars-nil) k
not_split cs (c ∷ sep) r h k = absurd (omega (arith, h))

pub splits : (cs sep : List ℕ) (r : Result (List Value) OpEnd) → 0 < length sep → Lists (list_of_texts (pieces sep cs)) r → Lists (split_rule cs sep) r
splits cs [] r some h = absurd (omega (arith, some))
splits cs (c ∷ sep) r some h = h

-- ---- methods

pub at_method : (cs : List ℕ) (m n : BuiltinMethod) (vs : List Value) (r : Result TextAnswer OpEnd) → m ≡ n → Answers (characters_method cs n vs) r → Answers (characters_method cs m vs) r
at_method cs m n vs r is h = subst (λ (x : BuiltinMethod). Answers (characters_method cs x vs) r) (sym is) h
