-- How the walk goes on: the number of levels does not matter above a node's number, and a task gives way to others.
use Rattle.std.proofs.Common.{length, subst, sym, reverse, ◌≡◌, refl, ap, sym, ◌∙◌, ℕ, zero, suc, ◌+◌, ◌<◌, ◌≤◌, Bool, true, false, cond, nat_lt, List, [], ◌∷◌, ◌++◌, length, map, filter, flat_map, reverse, Option, Some, None, arith, subst}
use Rattle.std.proofs.lemmas.Grind.{common_steps}
use Rattle.std.proofs.lemmas.List.{append_assoc, append-nil, reverse-append}
use Rattle.py_ast.specs.declared.program.Program.{Program}
use Rattle.py_mentions.specs.declared.place.Construct.{Construct}
use Rattle.py_mentions.specs.declared.place.Role.{Role}
use Rattle.py_mentions.specs.declared.place.Part.{Part}
use Rattle.py_mentions.specs.declared.place.Task.{Task}
use Rattle.py_mentions.specs.declared.place.Task.TheVariants as task
use Rattle.rp_base.specs.declared.rules.Refused.{Refused}
use Rattle.py_mentions.specs.declared.mention.Mention.{Mention}
use Rattle.py_mentions.specs.declared.place.Role.TheVariants as role
use Rattle.py_mentions.specs.Parts.{part, parts}
use Rattle.py_mentions.specs.Mentions.{mentions_at}
use Rattle.py_mentions.specs.Rules.{broken_at}
use Rattle.py_mentions.specs.Worst.{worst, worst_more, worst_with}
use Rattle.py_mentions.specs.Tasks.{leaves, outside, task_finds, constructs_after, tasks_after, todo}
use Rattle.py_mentions.specs.Walks.{Finds, broken_in, found_in, mentions_in, smaller, smaller_parts, walk, within}

-- the walk of a part, with so many levels, and with its own number of them
abbrev pub from_part : {A : Type 0} → Program → Finds A → ℕ → List Construct → Part → List A
from_part p here levels cs q = walk p here levels (within cs q.around) q.role q.number

abbrev pub whole_part : {A : Type 0} → Program → Finds A → List Construct → Part → List A
whole_part p here cs q = walk p here (suc q.number) (within cs q.around) q.role q.number

-- ---- levels

same_at : {A : Type 0} (f g : Part → List A) (n : ℕ) (q : Part) (qs : List Part) (b : Bool) → nat_lt q.number n ≡ b → (q.number < n → f q ≡ g q) → flat_map f qs ≡ flat_map g qs
    → flat_map f (cond b (q ∷ qs) qs) ≡ flat_map g (cond b (q ∷ qs) qs)
same_at f g n q qs true is same rest =
    let below : q.number < n = grind arith in
    let at : f q ≡ g q = same below in
    cc
same_at f g n q qs false is same rest = rest

-- two functions that agree below a number agree over the parts below it
pub same_below : {A : Type 0} (f g : Part → List A) (n : ℕ) → ((q : Part) → q.number < n → f q ≡ g q) → (qs : List Part) → flat_map f (filter (smaller n) qs) ≡ flat_map g (filter (smaller n) qs)
same_below f g n same [] = refl
same_below f g n same (q ∷ qs) = same_at f g n q (filter (smaller n) qs) (nat_lt q.number n) refl (same q) (same_below f g n same qs)

none_below : (n : ℕ) → n < 0 → ⊥
none_below n h = omega arith

pub levels : {A : Type 0} (p : Program) (here : Finds A) (a b : ℕ) (cs : List Construct) (r : Role) (n : ℕ) → n < a → n < b → walk p here a cs r n ≡ walk p here b cs r n
unfolding walk
levels p here zero b cs r n h k = absurd (none_below n h)
levels p here (suc a) zero cs r n h k = absurd (none_below n k)
levels p here (suc a) (suc b) cs r n h k =
    ap (λ xs. here cs r n ++ xs) (same_below (from_part p here a cs) (from_part p here b cs) n (λ q l. levels p here a b (within cs q.around) q.role q.number (omega arith) (omega arith)) (parts p r n))

-- ---- tasks

outside_last : (cs : List Construct) (c : Construct) → outside (cs ++ c ∷ []) ≡ cs
outside_last cs c = grind (arith, common_steps)

todo_leaves : {A : Type 0} (p : Program) (here : Finds A) (cs : List Construct) (a : Option Construct) (ts : List Task) → todo p here (within cs a) (leaves a ++ ts) ≡ todo p here cs ts
todo_leaves p here cs None ts = refl
todo_leaves p here cs (Some c) ts = ap (λ ds. todo p here ds ts) (outside_last cs c)

todo_parts : {A : Type 0} (p : Program) (here : Finds A) (cs : List Construct) (qs : List Part) (ts : List Task) → todo p here cs (map task.Visit qs ++ ts) ≡ flat_map (whole_part p here cs) qs ++ todo p here cs ts
todo_parts p here cs [] ts = refl
todo_parts p here cs (q ∷ qs) ts =
    let rest : todo p here cs (map task.Visit qs ++ ts) ≡ flat_map (whole_part p here cs) qs ++ todo p here cs ts = todo_parts p here cs qs ts in
    grind (arith, common_steps)

pub goes_on : {A : Type 0} (p : Program) (here : Finds A) (cs : List Construct) (t : Task) (ts : List Task) → todo p here cs (t ∷ ts) ≡ task_finds here cs t ++ todo p here (constructs_after cs t) (tasks_after p t ++ ts)
unfolding walk
goes_on p here cs task.Leave ts = refl
goes_on p here cs (task.Visit q) ts =
    let ds : List Construct = within cs q.around in
    let qs : List Part = smaller_parts p q.role q.number in
    let own : flat_map (from_part p here q.number ds) qs ≡ flat_map (whole_part p here ds) qs
    = same_below (from_part p here q.number ds) (whole_part p here ds) q.number (λ s l. levels p here q.number (suc s.number) (within ds s.around) s.role s.number l (omega arith)) (parts p q.role q.number) in
    let under : todo p here ds (map task.Visit qs ++ (leaves q.around ++ ts)) ≡ flat_map (whole_part p here ds) qs ++ todo p here ds (leaves q.around ++ ts) = todo_parts p here ds qs (leaves q.around ++ ts) in
    let behind : todo p here ds (leaves q.around ++ ts) ≡ todo p here cs ts = todo_leaves p here cs q.around ts in
    grind (arith, common_steps)

-- ---- the next task is the last of the list

pub steps_on : {A : Type 0} (p : Program) (here : Finds A) (cs ds : List Construct) (t : Task) (left after : List Task)
    → ds ≡ constructs_after cs t → reverse after ≡ tasks_after p t ++ reverse left
    → todo p here cs (reverse (left ++ t ∷ [])) ≡ task_finds here cs t ++ todo p here ds (reverse after)
steps_on p here cs ds t left after inside tasks =
    let turned : reverse (left ++ t ∷ []) ≡ t ∷ reverse left = reverse-append left (t ∷ []) in
    let from : todo p here cs (t ∷ reverse left) ≡ task_finds here cs t ++ todo p here (constructs_after cs t) (tasks_after p t ++ reverse left) = goes_on p here cs t (reverse left) in
    cc

-- ---- the walk ends: each visit counts two, each end of a construct one

abbrev pub two : Finds ℕ
two cs r n = 0 ∷ 0 ∷ []

abbrev pub ends : List Task → ℕ
ends [] = 0
ends (task.Leave ∷ ts) = 1 + ends ts
ends (task.Visit q ∷ ts) = ends ts

abbrev pub load : Program → List Construct → List Task → ℕ
load p cs ts = length (todo p two cs ts) + ends ts

ends_parts : (qs : List Part) (ts : List Task) → ends (map task.Visit qs ++ ts) ≡ ends ts
ends_parts [] ts = refl
ends_parts (q ∷ qs) ts = ends_parts qs ts

ends_leaves : (a : Option Construct) (ts : List Task) → ends (leaves a ++ ts) ≤ 1 + ends ts
ends_leaves None ts = omega arith
ends_leaves (Some c) ts = omega arith

ends_after : (p : Program) (q : Part) (ts : List Task) → ends (tasks_after p (task.Visit q) ++ ts) ≤ 1 + ends ts
ends_after p q ts =
    let qs : List Part = smaller_parts p q.role q.number in
    let apart : (map task.Visit qs ++ leaves q.around) ++ ts ≡ map task.Visit qs ++ (leaves q.around ++ ts) = append_assoc (map task.Visit qs) (leaves q.around) ts in
    let parts_end : ends (map task.Visit qs ++ (leaves q.around ++ ts)) ≡ ends (leaves q.around ++ ts) = ends_parts qs (leaves q.around ++ ts) in
    let same : ends ((map task.Visit qs ++ leaves q.around) ++ ts) ≡ ends (leaves q.around ++ ts) = ap ends apart ∙ parts_end in
    let most : ends (leaves q.around ++ ts) ≤ 1 + ends ts = ends_leaves q.around ts in
    subst (λ n. n ≤ 1 + ends ts) (sym same) most

pub load_falls : (p : Program) (cs : List Construct) (t : Task) (ts : List Task) → load p (constructs_after cs t) (tasks_after p t ++ ts) < load p cs (t ∷ ts)
load_falls p cs task.Leave ts = omega arith
load_falls p cs (task.Visit q) ts =
    let counted : length (todo p two cs (task.Visit q ∷ ts)) ≡ suc (suc (length (todo p two (within cs q.around) (tasks_after p (task.Visit q) ++ ts)))) = ap length (goes_on p two cs (task.Visit q) ts) in
    let most : ends (tasks_after p (task.Visit q) ++ ts) ≤ 1 + ends ts = ends_after p q ts in
    omega arith

pub step_falls : (p : Program) (cs ds : List Construct) (t : Task) (left after : List Task)
    → ds ≡ constructs_after cs t → reverse after ≡ tasks_after p t ++ reverse left
    → load p ds (reverse after) < load p cs (reverse (left ++ t ∷ []))
step_falls p cs ds t left after inside tasks =
    let turned : reverse (left ++ t ∷ []) ≡ t ∷ reverse left = reverse-append left (t ∷ []) in
    let falls : load p (constructs_after cs t) (tasks_after p t ++ reverse left) < load p cs (t ∷ reverse left) = load_falls p cs t (reverse left) in
    subst (λ x. load p x (reverse after) < load p cs (reverse (left ++ t ∷ []))) (sym inside)
    (subst (λ x. load p (constructs_after cs t) x < load p cs (reverse (left ++ t ∷ []))) (sym tasks)
    (subst (λ x. load p (constructs_after cs t) (tasks_after p t ++ reverse left) < load p cs x) (sym turned) falls))

-- ---- the loop

pub gathers_more : {A : Type 0} (p : Program) (here : Finds A) (found more all : List A) (cs ds : List Construct) (t : Task) (old left after : List Task)
    → old ≡ left ++ t ∷ [] → ds ≡ constructs_after cs t → reverse after ≡ tasks_after p t ++ reverse left → more ≡ found ++ task_finds here cs t
    → found ++ todo p here cs (reverse old) ≡ all → more ++ todo p here ds (reverse after) ≡ all
gathers_more p here found more all cs ds t old left after last inside tasks noted so_far =
    let onward : todo p here cs (reverse (left ++ t ∷ [])) ≡ task_finds here cs t ++ todo p here ds (reverse after) = steps_on p here cs ds t left after inside tasks in
    let apart : (found ++ task_finds here cs t) ++ todo p here ds (reverse after) ≡ found ++ (task_finds here cs t ++ todo p here ds (reverse after)) = append_assoc found (task_finds here cs t) (todo p here ds (reverse after)) in
    cc

pub worst_so_far : (p : Program) (here : Finds Refused) (found more all : Option Refused) (cs ds : List Construct) (t : Task) (old left after : List Task)
    → old ≡ left ++ t ∷ [] → ds ≡ constructs_after cs t → reverse after ≡ tasks_after p t ++ reverse left → more ≡ worst_with found (task_finds here cs t)
    → worst_with found (todo p here cs (reverse old)) ≡ all → worst_with more (todo p here ds (reverse after)) ≡ all
worst_so_far p here found more all cs ds t old left after last inside tasks noted so_far =
    let onward : todo p here cs (reverse (left ++ t ∷ [])) ≡ task_finds here cs t ++ todo p here ds (reverse after) = steps_on p here cs ds t left after inside tasks in
    let apart : worst_with found (task_finds here cs t ++ todo p here ds (reverse after)) ≡ worst_with (worst_with found (task_finds here cs t)) (todo p here ds (reverse after)) = worst_more found (task_finds here cs t) (todo p here ds (reverse after)) in
    cc

pub load_so_far : (p : Program) (cs ds : List Construct) (t : Task) (old left after : List Task)
    → old ≡ left ++ t ∷ [] → ds ≡ constructs_after cs t → reverse after ≡ tasks_after p t ++ reverse left → load p ds (reverse after) < load p cs (reverse old)
load_so_far p cs ds t old left after last inside tasks = subst (λ x. load p ds (reverse after) < load p cs (reverse x)) (sym last) (step_falls p cs ds t left after inside tasks)

abbrev pub first_task : Program → Task
first_task p = task.Visit (part role.Whole p.root)

pub begins : {A : Type 0} (p : Program) (here : Finds A) → todo p here [] (first_task p ∷ []) ≡ found_in p here
begins p here = append-nil (found_in p here)

pub begins_mentions : (p : Program) (found : List Mention) (cs : List Construct) (ts : List Task) → found ≡ [] → cs ≡ [] → ts ≡ first_task p ∷ [] → found ++ todo p (mentions_at p) cs (reverse ts) ≡ mentions_in p
unfolding mentions_in
begins_mentions p found cs ts none no_constructs first =
    let all : todo p (mentions_at p) [] (first_task p ∷ []) ≡ found_in p (mentions_at p) = begins p (mentions_at p) in
    cc

pub begins_worst : (p : Program) (found : Option Refused) (cs : List Construct) (ts : List Task) → found ≡ None → cs ≡ [] → ts ≡ first_task p ∷ [] → worst_with found (todo p (broken_at p) cs (reverse ts)) ≡ worst (broken_in p)
unfolding broken_in
begins_worst p found cs ts none no_constructs first =
    let all : todo p (broken_at p) [] (first_task p ∷ []) ≡ found_in p (broken_at p) = begins p (broken_at p) in
    cc
