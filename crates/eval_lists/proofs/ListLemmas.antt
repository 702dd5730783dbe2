-- Lists, which are read, changed or gone over.
use Rattle.std.proofs.Common.{◌≡◌, ◌<◌, ◌≤◌, ◌+◌, ◌++◌, ℕ, Bool, true, false, not, nat_lt, if◌then◌else◌, List, [], ◌∷◌, length, reverse, Option, Some, None, Result, Ok, Err, IfOk, OnErr, refl, sym, ◌∙◌, ap, subst}
use Rattle.rp_base.specs.declared.ends.NoMemory.{NoMemory}
use Rattle.rp_base.specs.declared.ends.OpEnd.{OpEnd}
use Rattle.rp_base.specs.declared.ends.OpEnd.TheVariants as op_end
use Rattle.rp_base.specs.declared.exceptions.Beyond.TheVariants as beyond
use Rattle.rp_base.specs.declared.identity.Kind.{Kind}
use Rattle.rp_base.specs.declared.identity.Kind.TheVariants as kind
use Rattle.rp_base.specs.declared.value.Value.{Value}
use Rattle.rp_base.specs.declared.value.Value.TheVariants as value
use Rattle.object_operations.specs.declared.operation.Operation.TheVariants as operation
use Rattle.object_operations.specs.declared.special.Special.{Special}
use Rattle.object_operations.specs.declared.special.Special.TheVariants as special
use Rattle.py_ast.specs.declared.program.Program.{Program}
use Rattle.py_store.specs.Cells.{Cells, cell_of, with_cell}
use Rattle.py_store.specs.declared.cell.Cell.{Cell}
use Rattle.py_store.specs.declared.cell.Cell.TheVariants as cell
use Rattle.side_trees.specs.Trees.{Return, Stop, bind}
use Rattle.language_rules.proofs.CellLaws.{changed, is_there}
use Rattle.language_rules.proofs.RunLemmas.{goes_on}
use Rattle.language_rules.specs.Answers.{gives}
use Rattle.language_rules.specs.Arithmetic.{adds_length, adds_list}
use Rattle.language_rules.specs.AtOnce.{CarriesOut, Comes, stated}
use Rattle.language_rules.specs.Codes.{Gives}
use Rattle.language_rules.specs.Containing.{contains_rule, gives_found}
use Rattle.language_rules.specs.Draining.{most_items}
use Rattle.language_rules.specs.Going.{RuleTree, asks, none, on_cell, reads_cell, sets_cell}
use Rattle.language_rules.specs.Kinds.{kind_of, on_kind}
use Rattle.language_rules.specs.Operators.{is_list, unsupported}
use Rattle.language_rules.specs.Perform.{special_of_cell, special_rule}
use Rattle.language_rules.specs.Rules.{expand}
use Rattle.language_rules.specs.Running.{prints_behind, runs}
use Rattle.language_rules.specs.Searching.{on_list, searches_list}
use Rattle.language_rules.specs.States.{State, set_cell}
use Rattle.eval_frames.specs.declared.frame.Frame.{Frame}
use Rattle.eval_frames.specs.declared.next.Next.{Next}
use Rattle.eval_frames.specs.Meaning.{Means, MeansIn, MeansOver, meant, rest}
use Rattle.py_lists.specs.Lists.{IsList, IsListCell}
use Rattle.eval_ranges.proofs.CellSteps.{Over, at_cell}
use Rattle.eval_ranges.proofs.SpecialLemmas.{Plainly, Within, all_within, in_state, of_kind}
use Rattle.eval_lists.specs.Extending.{extended, extended_list}

pub list_is_there : (cells : List Cell) (n : ℕ) → IsList cells n → (0 < n) × (n ≤ length cells)
list_is_there cells n h = is_there IsListCell (λ none. none) cells n h

-- ---- what comes next of every list

abbrev pub OfLists : List Cell → (Cell → RuleTree) → Next → Type 0
OfLists cells rule n = (items : List Value) → Within cells (rule (cell.List items)) n

list_at : (cells : List Cell) (number : ℕ) (rule : Cell → RuleTree) (n : Next) (o : Option Cell) → cell_of cells number ≡ o → IsListCell o → OfLists cells rule n → Within cells (reads_cell number rule) n
list_at cells number rule n (Some (cell.List items)) is h of = at_cell cells number (cell.List items) rule n is (of items)
list_at cells number rule n _ is h of = absurd h

told_at : (cells : List Cell) (number : ℕ) (vs : List Value) (as_told : Special) (t : RuleTree) (r : Result Next NoMemory) → IsList cells number
    → ((items : List Value) → special_of_cell as_told number vs (cell.List items) ≡ t) → IfOk r (Within cells t) → IfOk r (Within cells (reads_cell number (special_of_cell as_told number vs)))
told_at cells number vs as_told t (Ok n) h so p =
    list_at cells number (special_of_cell as_told number vs) n (cell_of cells number) refl h (λ items. subst (λ (x : RuleTree). Within cells x n) (sym (so items)) p)
told_at cells number vs as_told t (Err e) h so p = p

-- by the name of the operation, which is told of every list in the same way
pub list_told : (cells : List Cell) (number : ℕ) (vs : List Value) (operator as_told : Special) (t : RuleTree) (r : Result Next NoMemory) → IsList cells number → operator ≡ as_told
    → ((items : List Value) → special_of_cell as_told number vs (cell.List items) ≡ t) → IfOk r (Within cells t) → IfOk r (Within cells (reads_cell number (special_of_cell operator number vs)))
list_told cells number vs operator as_told t r h is so p =
    subst (λ (s : Special). IfOk r (Within cells (reads_cell number (special_of_cell s number vs)))) (sym is) (told_at cells number vs as_told t r h so p)

-- ---- what an operation on own cells answers

abbrev pub Answered : Result Value OpEnd → Next → Type 0
Answered answer n = (s : State) (t : RuleTree) (stack : List Frame) → Comes t s answer s s → MeansIn s stack n t stack

pub read_on : (cells : List Cell) (t : RuleTree) (answer : Result Value OpEnd) (r : Result Next NoMemory) → CarriesOut t cells answer cells → IfOk r (Answered answer) → IfOk r (Within cells t)
read_on cells t answer (Ok n) carried h = λ fixed texts stack. h (stated fixed cells texts) t stack (carried (stated fixed [] texts))
read_on cells t answer (Err e) carried h = h

without : (t : RuleTree) (s kept now : State) (e : OpEnd) → Comes t s (Err e) now kept → Comes t s (Err e) kept kept
without t s kept now (op_end.Raise r) h = h
without t s kept now (op_end.Beyond b) h = h
without t s kept now op_end.NoMemory h = h

pub changed_on : (t : RuleTree) (old new : Cells) (answer : Result Value OpEnd) (r : Result Next NoMemory) → CarriesOut t old.cells answer new.cells → OnErr answer (new ≡ old) → IfOk r (Answered answer)
    → IfOk r (Over old.cells new.cells t)
changed_on t old new answer (Err e) carried kept h = h
changed_on t old new (Ok v) (Ok n) carried kept h = λ fixed texts stack units printed.
    goes_on expand prints_behind units t (rest (reverse stack)) (stated fixed old.cells texts) (stated fixed new.cells texts) printed (Gives v) (carried (stated fixed [] texts))
    ∙ h (stated fixed new.cells texts) (Return (Gives v)) stack refl units printed
changed_on t old new (Err e) (Ok n) carried kept h = λ fixed texts stack units printed.
    h (stated fixed old.cells texts) t stack (without t (stated fixed old.cells texts) (stated fixed old.cells texts) (stated fixed new.cells texts) e (carried (stated fixed [] texts))) units printed
    ∙ ap (λ (store : Cells). runs units (meant stack n) (stated fixed store.cells texts) printed) (sym kept)

-- ---- what is done by a value's kind, over any stack

pub on_kinds : (cells : List Cell) (v : Value) (f : Option Kind → RuleTree) (k : Option Kind) (r : Result Next NoMemory) (now before : List Frame)
    → ((fixed : State) (texts : List Program) → k ≡ kind_of (stated fixed cells texts) v) → IfOk r (λ n. Means now n (f k) before)
    → IfOk r (λ n. (fixed : State) (texts : List Program) → MeansIn (stated fixed cells texts) now n (on_kind v f) before)
on_kinds cells v f k (Ok n) now before is h = λ fixed texts. of_kind v f k n (stated fixed cells texts) now before (is fixed texts) (in_state (stated fixed cells texts) (f k) n now before h)
on_kinds cells v f k (Err e) now before is h = h

pub same_means : (t u : RuleTree) (r : Result Next NoMemory) (now before : List Frame) → t ≡ u → IfOk r (λ n. Means now n t before) → IfOk r (λ n. Means now n u before)
same_means t u r now before is h = subst (λ (x : RuleTree). IfOk r (λ n. Means now n x before)) is h

pub any_stack : (t : RuleTree) (r : Result Next NoMemory) (stack : List Frame) → IfOk r (Plainly t) → IfOk r (λ n. Means stack n t stack)
any_stack t (Ok n) stack h = h stack
any_stack t (Err e) stack h = h

-- ---- a list and another list

abbrev list_or_not : ℕ → Value → Bool → RuleTree
list_or_not list other b = if b then asks (operation.Special other special.Len []) (adds_length list other) else unsupported

adds : (list : ℕ) (other : Value) (k : Option Kind) → list_or_not list other (is_list (none, k)) ≡ adds_list list other k
adds list other None = refl
adds list other (Some kind.List) = refl
adds list other (Some kind.Range) = refl
adds list other (Some kind.Function) = refl
adds list other (Some kind.Bound) = refl
adds list other (Some kind.Dict) = refl
adds list other (Some kind.Namespace) = refl
adds list other (Some kind.Iter) = refl
adds list other (Some kind.View) = refl
adds list other (Some kind.Class) = refl
adds list other (Some kind.Instance) = refl
adds list other (Some kind.Host) = refl
adds list other (Some kind.HostFunc) = refl
adds list other (Some kind.Root) = refl
adds list other (Some kind.Conn) = refl
adds list other (Some kind.Modules) = refl

pub adds_as : (list : ℕ) (other : Value) (k : Option Kind) (b t : Bool) → b ≡ is_list (none, k) → b ≡ t → list_or_not list other t ≡ adds_list list other k
adds_as list other k b t is as_told = ap (list_or_not list other) (sym as_told ∙ is) ∙ adds list other k

-- ---- a list that grows

grown_at : (cells after : List Cell) (list : ℕ) (more : List Value) (n : Next) (o : Option Cell) (b : Bool) → cell_of cells list ≡ o → IsListCell o
    → ((items : List Value) → cell_of cells list ≡ Some (cell.List items) → b ≡ not (nat_lt most_items (length items + length more))) → b ≡ true
    → ((items : List Value) → cell_of cells list ≡ Some (cell.List items) → (fixed : State) (texts : List Program) → set_cell list (cell.List (items ++ more)) (stated fixed cells texts) ≡ stated fixed after texts)
    → Plainly (gives (value.Own list)) n → Over cells after (extended list more) n
grown_at cells after list more n (Some (cell.List items)) b is h fits room_left sets plainly = λ fixed texts stack units printed.
    let room : nat_lt most_items (length items + length more) ≡ false = below (nat_lt most_items (length items + length more)) (sym (fits items is) ∙ room_left) in
    ap (λ (o : Option Cell). runs units (bind (on_cell (on_list (extended_list list more)) o) (rest (reverse stack))) (stated fixed cells texts) printed) is
    ∙ ap (λ (t : Bool). runs units (bind (if t then Stop beyond.Size else sets_cell list (cell.List (items ++ more)) (gives (value.Own list))) (rest (reverse stack))) (stated fixed cells texts) printed) room
    ∙ ap (λ (s : State). runs units (bind (gives (value.Own list)) (rest (reverse stack))) s printed) (sets items is fixed texts)
    ∙ ap (λ (x : RuleTree). runs units x (stated fixed after texts) printed) (sym (plainly stack))
  where
    below : (t : Bool) → not t ≡ true → t ≡ false
    below false e = refl
    below true e = cc
grown_at cells after list more n _ b is h fits room_left sets plainly = absurd h

pub grown : (cells after : List Cell) (list : ℕ) (more : List Value) (n : Next) (b : Bool) → IsList cells list
    → ((items : List Value) → cell_of cells list ≡ Some (cell.List items) → b ≡ not (nat_lt most_items (length items + length more))) → b ≡ true
    → ((items : List Value) → cell_of cells list ≡ Some (cell.List items) → (fixed : State) (texts : List Program) → set_cell list (cell.List (items ++ more)) (stated fixed cells texts) ≡ stated fixed after texts)
    → Plainly (gives (value.Own list)) n → Over cells after (extended list more) n
grown cells after list more n b h fits room_left sets plainly = grown_at cells after list more n (cell_of cells list) b refl h fits room_left sets plainly

pub put_list : (n : ℕ) (old taken now : Cells) (before after items more : List Value) → cell_of old.cells n ≡ Some (cell.List before)
    → taken ≡ record old { cells = with_cell old.cells n cell.Root } → now ≡ record taken { cells = with_cell taken.cells n (cell.List after) } → after ≡ before ++ more
    → cell_of old.cells n ≡ Some (cell.List items) → (fixed : State) (texts : List Program) → set_cell n (cell.List (items ++ more)) (stated fixed old.cells texts) ≡ stated fixed now.cells texts
put_list n old taken now before after items more h p q e k fixed texts =
    let same : items ≡ before = ap (λ (o : Option Cell). elim o [ Some (cell.List vs) ↦ vs | Some _ ↦ items | None ↦ items ]) (sym k ∙ h) in
    ap (λ (vs : List Value). set_cell n (cell.List vs) (stated fixed old.cells texts)) (ap (λ (vs : List Value). vs ++ more) same ∙ sym e)
    ∙ changed n old taken now (cell.List before) cell.Root (cell.List after) h p q (stated fixed [] texts)

-- ---- operations with one argument, over a stack that is handed on

abbrev OverStack : List Cell → List Cell → RuleTree → List Frame → List Frame → Next → Type 0
OverStack cells after t now before n = (fixed : State) (texts : List Program) → MeansOver (stated fixed cells texts) (stated fixed after texts) now n t before

over_stack : (cells after : List Cell) (t : RuleTree) (stack : List Frame) (r : Result Next NoMemory) → IfOk r (Over cells after t) → IfOk r (OverStack cells after t stack stack)
over_stack cells after t stack (Ok n) h = λ fixed texts. h fixed texts stack
over_stack cells after t stack (Err e) h = h

pub any_over : (cells : List Cell) (number : ℕ) (vs : List Value) (operator as_told : Special) (t : RuleTree) (r : Result Next NoMemory) (stack : List Frame) → IsList cells number → operator ≡ as_told
    → ((items : List Value) → special_of_cell as_told number vs (cell.List items) ≡ t) → IfOk r (Plainly t) → IfOk r (OverStack cells cells (reads_cell number (special_of_cell operator number vs)) stack stack)
any_over cells number vs operator as_told t r stack h is so p =
    over_stack cells cells (reads_cell number (special_of_cell operator number vs)) stack r (list_told cells number vs operator as_told t r h is so (all_within cells t r p))

pub read_one : (cells : List Cell) (number : ℕ) (operator as_told : Special) (x : Value) (vs : List Value) (answer : Result Value OpEnd) (r : Result Next NoMemory) (stack : List Frame) → operator ≡ as_told → vs ≡ x ∷ []
    → CarriesOut (special_rule as_told (value.Own number) vs) cells answer cells → IfOk r (Answered answer)
    → IfOk r (OverStack cells cells (special_rule operator (value.Own number) (x ∷ [])) stack stack)
read_one cells number operator as_told x vs answer r stack is one carried h =
    subst (λ (s : Special). IfOk r (OverStack cells cells (special_rule s (value.Own number) (x ∷ [])) stack stack)) (sym is)
    (subst (λ (ws : List Value). IfOk r (OverStack cells cells (special_rule as_told (value.Own number) ws) stack stack)) one
    (over_stack cells cells (special_rule as_told (value.Own number) vs) stack r (read_on cells (special_rule as_told (value.Own number) vs) answer r carried h)))

pub changed_one : (old new : Cells) (number : ℕ) (operator as_told : Special) (x : Value) (vs : List Value) (answer : Result Value OpEnd) (r : Result Next NoMemory) (stack : List Frame) → operator ≡ as_told → vs ≡ x ∷ []
    → CarriesOut (special_rule as_told (value.Own number) vs) old.cells answer new.cells → OnErr answer (new ≡ old) → IfOk r (Answered answer)
    → IfOk r (OverStack old.cells new.cells (special_rule operator (value.Own number) (x ∷ [])) stack stack)
changed_one old new number operator as_told x vs answer r stack is one carried kept h =
    subst (λ (s : Special). IfOk r (OverStack old.cells new.cells (special_rule s (value.Own number) (x ∷ [])) stack stack)) (sym is)
    (subst (λ (ws : List Value). IfOk r (OverStack old.cells new.cells (special_rule as_told (value.Own number) ws) stack stack)) one
    (over_stack old.cells new.cells (special_rule as_told (value.Own number) vs) stack r (changed_on (special_rule as_told (value.Own number) vs) old new answer r carried kept h)))

-- a search of the list, whose cell is there
found_at : (cells : List Cell) (number : ℕ) (x : Value) (n : Next) (now before : List Frame) (o : Option Cell) → cell_of cells number ≡ o → IsListCell o
    → OverStack cells cells (gives_found (searches_list number x)) now before n → OverStack cells cells (reads_cell number (contains_rule number x)) now before n
found_at cells number x n now before (Some (cell.List items)) is h found = λ fixed texts units printed.
    ap (λ (o : Option Cell). runs units (bind (on_cell (contains_rule number x) o) (rest (reverse before))) (stated fixed cells texts) printed) is ∙ found fixed texts units printed
found_at cells number x n now before _ is h found = absurd h

pub found_in : (cells : List Cell) (number : ℕ) (operator : Special) (x y : Value) (r : Result Next NoMemory) (now before : List Frame) → IsList cells number → operator ≡ special.Contains → y ≡ x
    → IfOk r (OverStack cells cells (gives_found (searches_list number y)) now before) → IfOk r (OverStack cells cells (reads_cell number (special_of_cell operator number (x ∷ []))) now before)
found_in cells number operator x y (Ok n) now before h is same found =
    subst (λ (s : Special). OverStack cells cells (reads_cell number (special_of_cell s number (x ∷ []))) now before n) (sym is)
    (found_at cells number x n now before (cell_of cells number) refl h (subst (λ (v : Value). OverStack cells cells (gives_found (searches_list number v)) now before n) same found))
found_in cells number operator x y (Err e) now before h is same found = found
