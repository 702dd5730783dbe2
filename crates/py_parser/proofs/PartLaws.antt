-- What acts keep: the parts of each node have smaller numbers than the node, and whatever waits has numbers of nodes.
use Rattle.std.proofs.Common.{◌≡◌, ◌<◌, ◌≤◌, ◌+◌, ℕ, suc, zero, List, [], ◌∷◌, ◌++◌, length, slice_get, slice_set, Option, Some, refl, subst, sym, ap, ◌∙◌, arith, max}
use Rattle.std.specs.Prelude.{map}
use Rattle.std.specs.Option.{option_to_list}
use Rattle.py_ast.specs.declared.expression.Link.{Link}
use Rattle.py_ast.specs.declared.node.Node.{Node}
use Rattle.py_ast.specs.declared.node.Node.TheVariants as node
use Rattle.py_ast.specs.declared.program.FunctionInfo.{FunctionInfo}
use Rattle.py_ast.specs.declared.statement.Statement.{Statement}
use Rattle.py_ast.specs.Parts.{Each, functions_of, parts_of}
use Rattle.py_parser.specs.declared.builder.Building.{Building}
use Rattle.py_parser.specs.declared.parts.Form.{Form}
use Rattle.py_parser.specs.declared.parts.Gathering.{Gathering}
use Rattle.py_parser.specs.declared.parts.Tree.{Tree}
use Rattle.py_parser.specs.Building.{stuck, with_node, with_tree, with_suite}

pub each_mono : {A : Type 0} (P Q : A → Type 0) → ((x : A) → P x → Q x) → (xs : List A) → Each P xs → Each Q xs
each_mono P Q f [] h = tt
each_mono P Q f (x ∷ xs) h = (f x h.0, each_mono P Q f xs h.1)

pub each_append : {A : Type 0} (P : A → Type 0) → (xs ys : List A) → Each P xs → Each P ys → Each P (xs ++ ys)
each_append P [] ys h k = k
each_append P (x ∷ xs) ys h k = (h.0, each_append P xs ys h.1 k)

pub each_map : {A B : Type 0} (P : B → Type 0) (f : A → B) → (xs : List A) → Each (λ x. P (f x)) xs → Each P (map f xs)
each_map P f [] h = tt
each_map P f (x ∷ xs) h = (h.0, each_map P f xs h.1)

pub each_up : (m n : ℕ) → m ≤ n → (xs : List ℕ) → Each (λ p. p < m) xs → Each (λ p. p < n) xs
each_up m n l = each_mono (λ p. p < m) (λ p. p < n) (λ p s. omega (arith, l, s))

-- from the i-th node on
abbrev pub Ordered : ℕ → List Node → Type 0
Ordered i [] = Unit {0}
Ordered i (n ∷ ns) = Each (λ part. part < i) (parts_of n) × Ordered (suc i) ns

pub ordered_push : (i : ℕ) (ns : List Node) (n : Node) → Ordered i ns → Each (λ part. part < i + length ns) (parts_of n) → Ordered i (ns ++ n ∷ [])
ordered_push i [] n h k = (each_up (i + 0) i (omega arith) (parts_of n) k, tt)
ordered_push i (m ∷ ns) n h k = (h.0, ordered_push (suc i) ns n h.1 (each_up (i + suc (length ns)) (suc i + length ns) (omega arith) (parts_of n) k))

-- a node in the place of another with the same parts
pub ordered_set : (i : ℕ) (ns : List Node) (k : ℕ) (old new : Node) → slice_get ns k ≡ Some old → parts_of new ≡ parts_of old → Ordered i ns → Ordered i (slice_set ns k new)
ordered_set i [] k old new e s h = tt
ordered_set i (m ∷ ns) zero old new e s h = let same : parts_of m ≡ parts_of new = cc in (subst (Each (λ part. part < i)) same h.0, h.1)
ordered_set i (m ∷ ns) (suc k) old new e s h = (h.0, ordered_set (suc i) ns k old new e s h.1)

pub parts_come_first : (i : ℕ) (ns : List Node) → Ordered i ns → (k : ℕ) (n : Node) → slice_get ns k ≡ Some n → Each (λ part. part < i + k) (parts_of n)
parts_come_first i [] h k n e = cc
parts_come_first i (m ∷ ns) h zero n e = let same : parts_of m ≡ parts_of n = cc in each_up i (i + 0) (omega arith) (parts_of n) (subst (Each (λ part. part < i)) same h.0)
parts_come_first i (m ∷ ns) h (suc k) n e = each_up (suc i + k) (i + suc k) (omega arith) (parts_of n) (parts_come_first (suc i) ns h.1 k n e)

-- any node in the place of another, if its parts stand before it
pub ordered_put : (i : ℕ) (ns : List Node) (k : ℕ) (new : Node) → Ordered i ns → Each (λ part. part < i + k) (parts_of new) → Ordered i (slice_set ns k new)
ordered_put i [] k new h e = tt
ordered_put i (m ∷ ns) zero new h e = (each_up (i + 0) i (omega arith) (parts_of new) e, h.1)
ordered_put i (m ∷ ns) (suc k) new h e = (h.0, ordered_put (suc i) ns k new h.1 (each_up (i + suc k) (suc i + k) (omega arith) (parts_of new) e))

-- functions in the order in which they begin, from the i-th on
abbrev pub Nested : ℕ → List FunctionInfo → Type 0
Nested i [] = Unit {0}
Nested i (f ∷ fs) = Each (λ parent. parent < i) (option_to_list f.parent) × Nested (suc i) fs

pub nested_push : (i : ℕ) (fs : List FunctionInfo) (f : FunctionInfo) → Nested i fs → Each (λ p. p < i + length fs) (option_to_list f.parent) → Nested i (fs ++ f ∷ [])
nested_push i [] f h k = (each_up (i + 0) i (omega arith) (option_to_list f.parent) k, tt)
nested_push i (g ∷ fs) f h k = (h.0, nested_push (suc i) fs f h.1 (each_up (i + suc (length fs)) (suc i + length fs) (omega arith) (option_to_list f.parent) k))

pub nested_set : (i : ℕ) (fs : List FunctionInfo) (k : ℕ) (old new : FunctionInfo) → slice_get fs k ≡ Some old → new.parent ≡ old.parent → Nested i fs → Nested i (slice_set fs k new)
nested_set i [] k old new e s h = tt
nested_set i (f ∷ fs) zero old new e s h = let same : f.parent ≡ new.parent = cc in (subst (λ p. Each (λ parent. parent < i) (option_to_list p)) same h.0, h.1)
nested_set i (f ∷ fs) (suc k) old new e s h = (h.0, nested_set (suc i) fs k old new e s h.1)

pub parents_come_first : (i : ℕ) (fs : List FunctionInfo) → Nested i fs → (k : ℕ) (f : FunctionInfo) → slice_get fs k ≡ Some f → Each (λ p. p < i + k) (option_to_list f.parent)
parents_come_first i [] h k f e = cc
parents_come_first i (g ∷ fs) h zero f e = let same : g.parent ≡ f.parent = cc in
    each_up i (i + 0) (omega arith) (option_to_list f.parent) (subst (λ p. Each (λ parent. parent < i) (option_to_list p)) same h.0)
parents_come_first i (g ∷ fs) h (suc k) f e = each_up (suc i + k) (i + suc k) (omega arith) (option_to_list f.parent) (parents_come_first (suc i) fs h.1 k f e)

pub each_set : {A : Type 0} (P : A → Type 0) → (xs : List A) (k : ℕ) (x : A) → P x → Each P xs → Each P (slice_set xs k x)
each_set P [] k x p h = tt
each_set P (y ∷ xs) zero x p h = (p, h.1)
each_set P (y ∷ xs) (suc k) x p h = (h.0, each_set P xs k x p h.1)

-- so many nodes, of which none has a function past the last
abbrev pub BodiesIn : ℕ → List FunctionInfo → Type 0
BodiesIn nodes fs = Each (λ f. f.body < max 1 nodes) fs

abbrev pub FunctionsIn : List FunctionInfo → List Node → Type 0
FunctionsIn fs ns = Each (λ n. Each (λ k. k < length fs) (functions_of n)) ns

pub record Waits (nodes : List Node) (lines : List ℕ) (functions : List FunctionInfo) (function : Option ℕ) (trees : List Tree) (lists : List Gathering) (suites : List (Option ℕ)) (links : List (List Link)) : Type 0 where
  pub ordered : Ordered 0 nodes
  pub lined : length lines ≡ length nodes
  pub functions_in : FunctionsIn functions nodes
  pub bodies_in : BodiesIn (length nodes) functions
  pub nested : Nested 0 functions
  pub open_in : Each (λ k. k < length functions) (option_to_list function)
  pub trees_in : Each (λ t. t.number < length nodes) trees
  pub lists_in : Each (λ l. Each (λ n. n < length nodes) l.numbers) lists
  pub suites_in : Each (λ s. Each (λ n. n < length nodes) (option_to_list s)) suites
  pub links_in : Each (λ ls. Each (λ l. l.right < length nodes) ls) links

abbrev pub Sound : Building → Type 0
Sound b = Waits b.nodes b.lines b.functions b.function b.trees b.lists b.suites b.links

abbrev pub In : Building → ℕ → Type 0
In b number = number < length b.nodes

-- it is a function's number
abbrev pub Known : Building → ℕ → Type 0
Known b number = number < length b.functions

abbrev pub TreesIn : Building → List Tree → Type 0
TreesIn b ts = Each (λ t. t.number < length b.nodes) ts

abbrev pub ListsIn : Building → List Gathering → Type 0
ListsIn b ls = Each (λ l. Each (λ n. n < length b.nodes) l.numbers) ls

abbrev pub SuitesIn : Building → List (Option ℕ) → Type 0
SuitesIn b ss = Each (λ s. Each (λ n. n < length b.nodes) (option_to_list s)) ss

abbrev pub LinksIn : Building → List (List Link) → Type 0
LinksIn b ks = Each (λ ls. Each (λ l. l.right < length b.nodes) ls) ks

-- with other stacks
pub again : (b : Building) (ts : List Tree) (ls : List Gathering) (ss : List (Option ℕ)) (ks : List (List Link))
    → Sound b → TreesIn b ts → ListsIn b ls → SuitesIn b ss → LinksIn b ks → Waits b.nodes b.lines b.functions b.function ts ls ss ks
again b ts ls ss ks k t l s x = record { ordered = k.ordered; lined = k.lined; functions_in = k.functions_in; bodies_in = k.bodies_in; nested = k.nested; open_in = k.open_in; trees_in = t; lists_in = l; suites_in = s; links_in = x }

pub with_trees : (b : Building) (ts : List Tree) → Sound b → TreesIn b ts → Waits b.nodes b.lines b.functions b.function ts b.lists b.suites b.links
with_trees b ts k t = again b ts b.lists b.suites b.links k t k.lists_in k.suites_in k.links_in

pub with_lists : (b : Building) (ls : List Gathering) → Sound b → ListsIn b ls → Waits b.nodes b.lines b.functions b.function b.trees ls b.suites b.links
with_lists b ls k l = again b b.trees ls b.suites b.links k k.trees_in l k.suites_in k.links_in

pub with_suites : (b : Building) (ss : List (Option ℕ)) → Sound b → SuitesIn b ss → Waits b.nodes b.lines b.functions b.function b.trees b.lists ss b.links
with_suites b ss k s = again b b.trees b.lists ss b.links k k.trees_in k.lists_in s k.links_in

pub with_links : (b : Building) (ks : List (List Link)) → Sound b → LinksIn b ks → Waits b.nodes b.lines b.functions b.function b.trees b.lists b.suites ks
with_links b ks k x = again b b.trees b.lists b.suites ks k k.trees_in k.lists_in k.suites_in x

pub stuck_keeps : (b : Building) → Sound b → Sound (stuck b)
stuck_keeps b k = again b [] [] [] [] k tt tt tt tt

pub one_longer : {A : Type 0} (xs : List A) (x : A) → length (xs ++ x ∷ []) ≡ suc (length xs)
one_longer [] x = refl
one_longer (y ∷ xs) x = ap suc (one_longer xs x)

-- among more nodes
pub wider : (ms : List Node) (ls : List ℕ) (b : Building) → length b.nodes ≤ length ms → Ordered 0 ms → length ls ≡ length ms → FunctionsIn b.functions ms → Sound b
    → Waits ms ls b.functions b.function b.trees b.lists b.suites b.links
wider ms ls b up o e x k = record {
  ordered = o;
  lined = e;
  functions_in = x;
  nested = k.nested;
  open_in = k.open_in;
  bodies_in = each_mono (λ f. f.body < max 1 (length b.nodes)) (λ f. f.body < max 1 (length ms)) (λ f l. less_body f.body l) b.functions k.bodies_in;
  trees_in = each_mono (λ t. t.number < length b.nodes) (λ t. t.number < length ms) (λ t l. less t.number l) b.trees k.trees_in;
  lists_in = each_mono (λ l. Each (λ n. n < length b.nodes) l.numbers) (λ l. Each (λ n. n < length ms) l.numbers) (λ l h. less_each l.numbers h) b.lists k.lists_in;
  suites_in = each_mono (λ s. Each (λ n. n < length b.nodes) (option_to_list s)) (λ s. Each (λ n. n < length ms) (option_to_list s)) (λ s h. less_each (option_to_list s) h) b.suites k.suites_in;
  links_in = each_mono (λ ls. Each (λ l. l.right < length b.nodes) ls) (λ ls. Each (λ l. l.right < length ms) ls)
      (λ ls h. each_mono (λ l. l.right < length b.nodes) (λ l. l.right < length ms) (λ l s. less l.right s) ls h) b.links k.links_in;
}
  where
    less_body : (n : ℕ) → n < max 1 (length b.nodes) → n < max 1 (length ms)
    less_body n s = omega (arith, up, s)

    less : (n : ℕ) → n < length b.nodes → n < length ms
    less n s = omega (arith, up, s)

    less_each : (xs : List ℕ) → Each (λ n. n < length b.nodes) xs → Each (λ n. n < length ms) xs
    less_each xs = each_up (length b.nodes) (length ms) up xs

pub node_keeps : (n : Node) (at : ℕ) (b : Building) → Sound b → Each (In b) (parts_of n) → Each (Known b) (functions_of n) → Sound (with_node n at b)
node_keeps n at b k h f = wider (b.nodes ++ n ∷ []) (b.lines ++ at ∷ []) b (omega (arith, one_longer b.nodes n))
    (ordered_push 0 b.nodes n k.ordered (each_up (length b.nodes) (0 + length b.nodes) (omega arith) (parts_of n) h))
    (one_longer b.lines at ∙ (ap suc k.lined ∙ sym (one_longer b.nodes n)))
    (each_append (λ m. Each (Known b) (functions_of m)) b.nodes (n ∷ []) k.functions_in (f, tt)) k

pub tree_keeps : (n : Node) (at first_line : ℕ) (f : Form) (b : Building) → Sound b → Each (In b) (parts_of n) → Each (Known b) (functions_of n) → Sound (with_tree n at first_line f b)
tree_keeps n at first_line f b k h x = let s : Sound (with_node n at b) = node_keeps n at b k h x in
    with_trees (with_node n at b) (record { number = length b.nodes; line = first_line; form = f } ∷ b.trees) s (omega (arith, one_longer b.nodes n), s.trees_in)

pub suite_keeps : (s : Statement) (at : ℕ) (b : Building) → Sound b → Each (In b) (parts_of (node.Statement s)) → Each (Known b) (functions_of (node.Statement s)) → Sound (with_suite s at b)
suite_keeps t at b k h x = let s : Sound (with_node (node.Statement t) at b) = node_keeps (node.Statement t) at b k h x in
    with_suites (with_node (node.Statement t) at b) (Some (length b.nodes) ∷ b.suites) s ((omega (arith, one_longer b.nodes (node.Statement t)), tt), s.suites_in)
