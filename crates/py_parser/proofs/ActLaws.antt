-- Each act keeps the numbers of parts below those of their nodes.
use Rattle.std.proofs.Common.{◌≡◌, ◌<◌, ◌+◌, ℕ, List, [], ◌∷◌, ◌++◌, length, slice_get, max, Option, None, Some, refl, subst, sym, ◌∙◌, arith, Bool, true, false}
use Rattle.std.specs.Prelude.{ℤ, codes, if◌then◌else◌}
use Rattle.std.specs.Option.{option_to_list}
use Rattle.std.specs.Str.{bytes_eq}
use Rattle.std.proofs.lemmas.List.{length-set}
use Rattle.std.proofs.lemmas.Option.{slice_get_within}
use Rattle.py_ast.specs.Builtins.{builtin_name, builtin_of}
use Rattle.py_ast.specs.declared.builtin.Builtin.{Builtin}
use Rattle.py_ast.specs.declared.expression.Comparison.{Comparison}
use Rattle.py_ast.specs.declared.expression.Expression.{Expression}
use Rattle.py_ast.specs.declared.expression.Expression.TheVariants as expression
use Rattle.py_ast.specs.declared.expression.Link.{Link}
use Rattle.py_ast.specs.declared.name.Name.{Name}
use Rattle.py_ast.specs.declared.node.Node.{Node}
use Rattle.py_ast.specs.declared.node.Node.TheVariants as node
use Rattle.py_ast.specs.declared.program.FunctionInfo.{FunctionInfo}
use Rattle.py_ast.specs.declared.statement.Statement.{Statement}
use Rattle.py_ast.specs.declared.statement.Statement.TheVariants as statement
use Rattle.py_ast.specs.declared.target.Target.{Target}
use Rattle.py_ast.specs.declared.target.Target.TheVariants as target
use Rattle.py_ast.specs.Parts.{Each, IsNumbered, functions_of, parts_of}
use Rattle.rp_base.specs.declared.operators.BinaryOp.{BinaryOp}
use Rattle.rp_base.specs.declared.operators.UnaryOp.{UnaryOp}
use Rattle.rp_base.specs.declared.plain.Plain.{Plain}
use Rattle.rp_base.specs.declared.plain.Plain.TheVariants as plain
use Rattle.py_grammar.specs.declared.act.Act.{Act}
use Rattle.py_grammar.specs.declared.act.Act.TheVariants as a
use Rattle.py_literals.specs.IntValues.{int_literal_value}
use Rattle.py_literals.specs.Values.{bytes_literal_value, text_literal_value}
use Rattle.py_parser.specs.declared.builder.Building.{Building}
use Rattle.py_parser.specs.declared.parts.Form.{Form}
use Rattle.py_parser.specs.declared.parts.Form.TheVariants as form
use Rattle.py_parser.specs.declared.parts.Gathering.{Gathering}
use Rattle.py_parser.specs.declared.parts.Sign.{Sign}
use Rattle.py_parser.specs.declared.parts.Tree.{Tree}
use Rattle.py_parser.specs.Building.{begun, place_tree, program, program_of, rooted, statement_tree, value_tree}
use Rattle.py_parser.specs.BuildingActs.{acted}
use Rattle.py_parser.specs.BuildingExpressions.{attribute, binary, call, compare, conditional, constant, inverse, item, listed, name_tree, named, of_bytes, of_int, of_text, tuple, unary}
use Rattle.py_parser.specs.BuildingFunctions.{with_function, begin_def, begin_lambda, end_def, end_lambda, without_function}
use Rattle.py_parser.specs.BuildingLists.{add, add_link, add_name, begin_with, link, suite, with_number, within}
use Rattle.py_parser.specs.BuildingSigns.{beside, binary_signs, comparison_signs, negate, unary_signs, with_binary_sign, with_comparison, with_unary_sign}
use Rattle.py_parser.specs.BuildingStatements.{alone, attempt, bare, branch, declare, give_back, handler, loop_while, make_class, other_branch, raise_call, raise_name}
use Rattle.py_parser.specs.BuildingTargets.{aim, aimed, assign, augment, delete, loop_over, place_of, placed, placed_at, tuple_at, with_place, with_places}
use Rattle.py_parser.specs.BuildingParts.{joined, with_body, with_body_at}
use Rattle.py_parser.proofs.PartLaws.{BodiesIn, FunctionsIn, In, Known, LinksIn, ListsIn, Nested, Ordered, Sound, SuitesIn, TreesIn, again, each_append, each_map, each_mono, each_set, each_up, nested_push, nested_set, node_keeps, one_longer, ordered_put, ordered_set, parents_come_first, parts_come_first, stuck_keeps, suite_keeps, tree_keeps, wider, with_links, with_lists, with_suites, with_trees}

value_keeps : (e : Expression) (at : ℕ) (b : Building) → Sound b → Each (In b) (parts_of (node.Expression e)) → Each (Known b) (functions_of (node.Expression e)) → Sound (value_tree e at b)
value_keeps e at b k h x = tree_keeps (node.Expression e) at at form.Value b k h x

place_keeps : (e : Expression) (at first_line : ℕ) (b : Building) → Sound b → Each (In b) (parts_of (node.Expression e)) → Each (Known b) (functions_of (node.Expression e)) → Sound (place_tree e at first_line b)
place_keeps e at first_line b k h x = tree_keeps (node.Expression e) at first_line form.Place b k h x

statement_keeps : (s : Statement) (at : ℕ) (b : Building) → Sound b → Each (In b) (parts_of (node.Statement s)) → Each (Known b) (functions_of (node.Statement s)) → Sound (statement_tree s at b)
statement_keeps s at b k h x = tree_keeps (node.Statement s) at at form.Value b k h x

-- lists

begin_with_keeps : (ts : List Tree) (b : Building) → Sound b → TreesIn b ts → Sound (begin_with ts b)
begin_with_keeps (t ∷ ts) b k h = again b ts (record { numbers = t.number ∷ []; line = t.line; form = joined form.Places t.form } ∷ b.lists) b.suites b.links k h.1 ((h.0, tt), k.lists_in) k.suites_in k.links_in
begin_with_keeps [] b k h = stuck_keeps b k

add_keeps : (ts : List Tree) (ls : List Gathering) (b : Building) → Sound b → TreesIn b ts → ListsIn b ls → Sound (add ts ls b)
add_keeps (t ∷ ts) (l ∷ ls) b k h x = again b ts (with_number t l ∷ ls) b.suites b.links k h.1 (each_append (In b) l.numbers (t.number ∷ []) x.0 (h.0, tt), x.1) k.suites_in k.links_in
add_keeps _ _ b k h x = stuck_keeps b k

suite_of_keeps : (ls : List Gathering) (b : Building) → Sound b → ListsIn b ls → Sound (suite ls b)
suite_of_keeps (l ∷ ls) b k x = suite_keeps (statement.Suite l.numbers) l.line (record b { lists = ls }) (with_lists b ls k x.1) x.0 tt
suite_of_keeps [] b k x = stuck_keeps b k

add_link_keeps : (ts : List Tree) (ss : List Sign) (ks : List (List Link)) (b : Building) → Sound b → TreesIn b ts → LinksIn b ks → Sound (add_link ts ss ks b)
add_link_keeps (t ∷ ts) (s ∷ ss) (ls ∷ ks) b k h x =
    again b ts b.lists b.suites ((ls ++ link s t ∷ []) ∷ ks) k h.1 k.lists_in k.suites_in (each_append (λ l. l.right < length b.nodes) ls (link s t ∷ []) x.0 (h.0, tt), x.1)
add_link_keeps _ _ _ b k h x = stuck_keeps b k

within_keeps : (ts : List Tree) (ms : List ℕ) (b : Building) → Sound b → TreesIn b ts → Sound (within ts ms b)
within_keeps (t ∷ ts) (at ∷ ms) b k h = with_trees b (record { number = t.number; line = at; form = form.Value } ∷ ts) k (h.0, h.1)
within_keeps _ _ b k h = stuck_keeps b k

-- signs

binary_sign_keeps : (o : Option BinaryOp) (b : Building) → Sound b → Sound (with_binary_sign o b)
binary_sign_keeps (Some op) b k = k
binary_sign_keeps None b k = stuck_keeps b k

unary_sign_keeps : (o : Option UnaryOp) (b : Building) → Sound b → Sound (with_unary_sign o b)
unary_sign_keeps (Some op) b k = k
unary_sign_keeps None b k = stuck_keeps b k

comparison_keeps : (o : Option Comparison) (b : Building) → Sound b → Sound (with_comparison o b)
comparison_keeps (Some c) b k = k
comparison_keeps None b k = stuck_keeps b k

negate_keeps : (ss : List Sign) (b : Building) → Sound b → Sound (negate ss b)
negate_keeps (s ∷ ss) b k = k
negate_keeps [] b k = stuck_keeps b k

add_name_keeps : (ns : List (List Name)) (b : Building) → Sound b → Sound (add_name ns b)
add_name_keeps (n ∷ ns) b k = k
add_name_keeps [] b k = stuck_keeps b k

-- expressions

named_has_none : (o : Option Builtin) (w : List ℕ) (b : Building) → Each (In b) (parts_of (node.Expression (named o w)))
named_has_none (Some f) w b = tt
named_has_none None w b = by_test (bytes_eq w (codes "NotImplemented"))
  where
    by_test : (t : Bool) → Each (In b) (parts_of (node.Expression (if t then expression.Constant plain.NotImpl else expression.Name w)))
    by_test true = tt
    by_test false = tt

named_begins_none : (o : Option Builtin) (w : List ℕ) (b : Building) → Each (Known b) (functions_of (node.Expression (named o w)))
named_begins_none (Some f) w b = tt
named_begins_none None w b = by_test (bytes_eq w (codes "NotImplemented"))
  where
    by_test : (t : Bool) → Each (Known b) (functions_of (node.Expression (if t then expression.Constant plain.NotImpl else expression.Name w)))
    by_test true = tt
    by_test false = tt

name_keeps : (b : Building) → Sound b → Sound (name_tree b)
name_keeps b k = place_keeps (named (builtin_of b.word) b.word) b.line b.line b k (named_has_none (builtin_of b.word) b.word b) (named_begins_none (builtin_of b.word) b.word b)

constant_keeps : (v : Plain) (b : Building) → Sound b → Sound (constant v b)
constant_keeps v b k = value_keeps (expression.Constant v) b.line b k tt tt

int_keeps : (o : Option ℤ) (b : Building) → Sound b → Sound (of_int o b)
int_keeps (Some n) b k = constant_keeps (plain.Int n) b k
int_keeps None b k = stuck_keeps b k

text_keeps : (o : Option (List ℕ)) (b : Building) → Sound b → Sound (of_text o b)
text_keeps (Some t) b k = constant_keeps (plain.Text t) b k
text_keeps None b k = stuck_keeps b k

bytes_keeps : (o : Option (List ℕ)) (b : Building) → Sound b → Sound (of_bytes o b)
bytes_keeps (Some t) b k = constant_keeps (plain.Bytes t) b k
bytes_keeps None b k = stuck_keeps b k

attribute_keeps : (ts : List Tree) (b : Building) → Sound b → TreesIn b ts → Sound (attribute ts b)
attribute_keeps (t ∷ ts) b k h = place_keeps (expression.Attribute t.number b.word) b.line t.line (record b { trees = ts }) (with_trees b ts k h.1) (h.0, tt) tt
attribute_keeps [] b k h = stuck_keeps b k

item_keeps : (ts : List Tree) (b : Building) → Sound b → TreesIn b ts → Sound (item ts b)
item_keeps (key ∷ t ∷ ts) b k h = place_keeps (expression.Item t.number key.number) t.line t.line (record b { trees = ts }) (with_trees b ts k h.1.1) (h.1.0, (h.0, tt)) tt
item_keeps _ b k h = stuck_keeps b k

call_keeps : (ts : List Tree) (ls : List Gathering) (b : Building) → Sound b → TreesIn b ts → ListsIn b ls → Sound (call ts ls b)
call_keeps (t ∷ ts) (l ∷ ls) b k h x = value_keeps (expression.Call t.number l.numbers) t.line (record b { trees = ts; lists = ls })
    (again b ts ls b.suites b.links k h.1 x.1 k.suites_in k.links_in) (h.0, x.0) tt
call_keeps _ _ b k h x = stuck_keeps b k

conditional_keeps : (ts : List Tree) (b : Building) → Sound b → TreesIn b ts → Sound (conditional ts b)
conditional_keeps (last ∷ test ∷ first ∷ ts) b k h =
    value_keeps (expression.Conditional first.number test.number last.number) first.line (record b { trees = ts }) (with_trees b ts k h.1.1.1) (h.1.1.0, (h.1.0, (h.0, tt))) tt
conditional_keeps _ b k h = stuck_keeps b k

inverse_keeps : (ts : List Tree) (ms : List ℕ) (b : Building) → Sound b → TreesIn b ts → Sound (inverse ts ms b)
inverse_keeps (t ∷ ts) (at ∷ ms) b k h = value_keeps (expression.Not t.number) at (record b { trees = ts; marks = ms }) (with_trees b ts k h.1) (h.0, tt) tt
inverse_keeps _ _ b k h = stuck_keeps b k

binary_keeps : (ts : List Tree) (ss : List BinaryOp) (b : Building) → Sound b → TreesIn b ts → Sound (binary ts ss b)
binary_keeps (right ∷ left ∷ ts) (op ∷ ss) b k h =
    value_keeps (expression.Binary op left.number right.number) left.line (record b { trees = ts; signs = ss }) (with_trees b ts k h.1.1) (h.1.0, (h.0, tt)) tt
binary_keeps _ _ b k h = stuck_keeps b k

unary_keeps : (ts : List Tree) (ss : List UnaryOp) (ms : List ℕ) (b : Building) → Sound b → TreesIn b ts → Sound (unary ts ss ms b)
unary_keeps (t ∷ ts) (op ∷ ss) (at ∷ ms) b k h =
    value_keeps (expression.Unary op t.number) at (record b { trees = ts; unary_signs = ss; marks = ms }) (with_trees b ts k h.1) (h.0, tt) tt
unary_keeps _ _ _ b k h = stuck_keeps b k

compare_keeps : (ts : List Tree) (ks : List (List Link)) (b : Building) → Sound b → TreesIn b ts → LinksIn b ks → Sound (compare ts ks b)
compare_keeps (t ∷ ts) (ls ∷ ks) b k h x = value_keeps (expression.Compare t.number ls) t.line (record b { trees = ts; links = ks })
    (again b ts b.lists b.suites ks k h.1 k.lists_in k.suites_in x.1) (h.0, each_map (In b) (λ l. l.right) ls x.0) tt
compare_keeps _ _ b k h x = stuck_keeps b k

listed_keeps : (make : List ℕ → Expression) → ((ns : List ℕ) → parts_of (node.Expression (make ns)) ≡ ns) → ((c : Building) (ns : List ℕ) → Each (Known c) (functions_of (node.Expression (make ns))))
    → (ls : List Gathering) (b : Building) → Sound b → ListsIn b ls → Sound (listed make ls b)
listed_keeps make same none (l ∷ ls) b k x = value_keeps (make l.numbers) l.line (record b { lists = ls }) (with_lists b ls k x.1) (subst (Each (In b)) (sym (same l.numbers)) x.0) (none b l.numbers)
listed_keeps make same none [] b k x = stuck_keeps b k

tuple_keeps : (ls : List Gathering) (b : Building) → Sound b → ListsIn b ls → Sound (tuple ls b)
tuple_keeps (l ∷ ls) b k x = tree_keeps (node.Expression (expression.Tuple l.numbers)) l.line l.line l.form (record b { lists = ls }) (with_lists b ls k x.1) x.0 tt
tuple_keeps [] b k x = stuck_keeps b k

-- functions

with_function_keeps : (word : List ℕ) (ps : List Name) (b : Building) → Sound b → Sound (with_function word ps b)
with_function_keeps word ps b k =
    let f : FunctionInfo = record { name = word; parameters = ps; locals = []; free = []; has_inner = false; parent = b.function; body = 0 } in
    record {
      ordered = k.ordered;
      lined = k.lined;
      trees_in = k.trees_in;
      lists_in = k.lists_in;
      suites_in = k.suites_in;
      links_in = k.links_in;
      functions_in = each_mono (λ n. Each (λ k. k < length b.functions) (functions_of n)) (λ n. Each (λ k. k < length (b.functions ++ f ∷ [])) (functions_of n))
          (λ n h. each_up (length b.functions) (length (b.functions ++ f ∷ [])) (omega (arith, one_longer b.functions f)) (functions_of n) h) b.nodes k.functions_in;
      bodies_in = each_append (λ g. g.body < max 1 (length b.nodes)) b.functions (f ∷ []) k.bodies_in (omega arith, tt);
      nested = nested_push 0 b.functions f k.nested (each_up (length b.functions) (0 + length b.functions) (omega arith) (option_to_list b.function) k.open_in);
      open_in = (omega (arith, one_longer b.functions f), tt);
    }

begin_lambda_keeps : (ns : List (List Name)) (b : Building) → Sound b → Sound (begin_lambda ns b)
begin_lambda_keeps (n ∷ ns) b k = with_function_keeps (codes "<lambda>") n (record b { name_lists = ns }) k
begin_lambda_keeps [] b k = stuck_keeps b k

begin_def_keeps : (ns : List (List Name)) (ms : List (Option Name)) (b : Building) → Sound b → Sound (begin_def ns ms b)
begin_def_keeps (n ∷ ns) (Some m ∷ ms) b k = with_function_keeps m.text n (record b { name_lists = ns; names = ms }) k
begin_def_keeps _ _ b k = stuck_keeps b k

body_length : (number body : ℕ) (o : Option FunctionInfo) (fs : List FunctionInfo) → length (with_body_at number body o fs) ≡ length fs
body_length number body (Some f) fs = length-set fs number (record f { body = body })
body_length number body None fs = refl

body_nested : (number body : ℕ) (o : Option FunctionInfo) (fs : List FunctionInfo) → slice_get fs number ≡ o → Nested 0 fs → Nested 0 (with_body_at number body o fs)
body_nested number body (Some f) fs i h = nested_set 0 fs number f (record f { body = body }) i refl h
body_nested number body None fs i h = h

body_bodies : (number body n : ℕ) (o : Option FunctionInfo) (fs : List FunctionInfo) → body < n → BodiesIn n fs → BodiesIn n (with_body_at number body o fs)
body_bodies number body n (Some f) fs l h = each_set (λ g. g.body < max 1 n) fs number (record f { body = body }) (omega (arith, l)) h
body_bodies number body n None fs l h = h

without_function_keeps : (number body : ℕ) (o : Option FunctionInfo) (b : Building) → slice_get b.functions number ≡ o → In b body → Sound b → Sound (without_function number body o b)
without_function_keeps number body (Some f) b i l k =
    let same : length (with_body number body b.functions) ≡ length b.functions = body_length number body (slice_get b.functions number) b.functions in
    record {
      ordered = k.ordered;
      lined = k.lined;
      trees_in = k.trees_in;
      lists_in = k.lists_in;
      suites_in = k.suites_in;
      links_in = k.links_in;
      functions_in = each_mono (λ n. Each (λ k. k < length b.functions) (functions_of n)) (λ n. Each (λ k. k < length (with_body number body b.functions)) (functions_of n))
          (λ n h. each_up (length b.functions) (length (with_body number body b.functions)) (omega (arith, same)) (functions_of n) h) b.nodes k.functions_in;
      bodies_in = body_bodies number body (length b.nodes) (slice_get b.functions number) b.functions l k.bodies_in;
      nested = body_nested number body (slice_get b.functions number) b.functions refl k.nested;
      open_in = each_up (0 + number) (length (with_body number body b.functions)) (omega (arith, same, slice_get_within b.functions number f i)) (option_to_list f.parent)
          (parents_come_first 0 b.functions k.nested number f i);
    }
without_function_keeps number body None b i l k = stuck_keeps b k

without_function_knows : (number body m : ℕ) (o : Option FunctionInfo) (b : Building) → Known b m → Known (without_function number body o b) m
without_function_knows number body m (Some f) b h = omega (arith, body_length number body (slice_get b.functions number) b.functions, h)
without_function_knows number body m None b h = h

end_lambda_keeps : (o : Option ℕ) (ts : List Tree) (ms : List ℕ) (b : Building) → Each (Known b) (option_to_list o) → Sound b → TreesIn b ts → Sound (end_lambda o ts ms b)
end_lambda_keeps (Some number) (t ∷ ts) (at ∷ ms) b x k h =
    let c : Building = record b { trees = ts; marks = ms } in
    value_keeps (expression.Lambda number) at (without_function number t.number (slice_get b.functions number) c)
    (without_function_keeps number t.number (slice_get b.functions number) c refl h.0 (with_trees b ts k h.1)) tt
    (without_function_knows number t.number number (slice_get b.functions number) c x.0, tt)
end_lambda_keeps _ _ _ b x k h = stuck_keeps b k

end_def_keeps : (o : Option ℕ) (ss : List (Option ℕ)) (ms : List ℕ) (b : Building) → Each (Known b) (option_to_list o) → Sound b → SuitesIn b ss → Sound (end_def o ss ms b)
end_def_keeps (Some number) (Some body ∷ ss) (at ∷ ms) b x k s =
    let c : Building = record b { suites = ss; marks = ms } in
    statement_keeps (statement.Def number) at (without_function number body (slice_get b.functions number) c)
    (without_function_keeps number body (slice_get b.functions number) c refl s.0.0 (with_suites b ss k s.1)) tt
    (without_function_knows number body number (slice_get b.functions number) c x.0, tt)
end_def_keeps _ _ _ b x k s = stuck_keeps b k

-- statements

alone_keeps : (ts : List Tree) (b : Building) → Sound b → TreesIn b ts → Sound (alone ts b)
alone_keeps (t ∷ ts) b k h = statement_keeps (statement.Alone t.number) t.line (record b { trees = ts }) (with_trees b ts k h.1) (h.0, tt) tt
alone_keeps [] b k h = stuck_keeps b k

give_back_keeps : (ts : List Tree) (ms : List ℕ) (b : Building) → Sound b → TreesIn b ts → Sound (give_back ts ms b)
give_back_keeps (t ∷ ts) (at ∷ ms) b k h = statement_keeps (statement.Return (Some t.number)) at (record b { trees = ts; marks = ms }) (with_trees b ts k h.1) (h.0, tt) tt
give_back_keeps _ _ b k h = stuck_keeps b k

bare_keeps : (s : Statement) → ((c : Building) → Each (In c) (parts_of (node.Statement s))) → ((c : Building) → Each (Known c) (functions_of (node.Statement s))) → (ms : List ℕ) (b : Building) → Sound b → Sound (bare s ms b)
bare_keeps s none quiet (at ∷ ms) b k = statement_keeps s at (record b { marks = ms }) k (none b) (quiet b)
bare_keeps s none quiet [] b k = stuck_keeps b k

raise_name_keeps : (ns : List (Option Name)) (ms : List ℕ) (b : Building) → Sound b → Sound (raise_name ns ms b)
raise_name_keeps (Some n ∷ ns) (at ∷ ms) b k = statement_keeps (statement.RaiseName n) at (record b { names = ns; marks = ms }) k tt tt
raise_name_keeps _ _ b k = stuck_keeps b k

raise_call_keeps : (ls : List Gathering) (ns : List (Option Name)) (ms : List ℕ) (b : Building) → Sound b → ListsIn b ls → Sound (raise_call ls ns ms b)
raise_call_keeps (l ∷ ls) (Some n ∷ ns) (at ∷ ms) b k x =
    statement_keeps (statement.RaiseCall n l.numbers) at (record b { lists = ls; names = ns; marks = ms }) (with_lists b ls k x.1) x.0 tt
raise_call_keeps _ _ _ b k x = stuck_keeps b k

declare_keeps : (make : List Name → Statement) → ((c : Building) (ns : List Name) → Each (In c) (parts_of (node.Statement (make ns))))
    → ((c : Building) (ns : List Name) → Each (Known c) (functions_of (node.Statement (make ns))))
    → (ns : List (List Name)) (ms : List ℕ) (b : Building) → Sound b → Sound (declare make ns ms b)
declare_keeps make none quiet (n ∷ ns) (at ∷ ms) b k = statement_keeps (make n) at (record b { name_lists = ns; marks = ms }) k (none b n) (quiet b n)
declare_keeps make none quiet _ _ b k = stuck_keeps b k

branch_keeps : (ts : List Tree) (ss : List (Option ℕ)) (ms : List ℕ) (b : Building) → Sound b → TreesIn b ts → SuitesIn b ss → Sound (branch ts ss ms b)
branch_keeps (t ∷ ts) (otherwise ∷ Some body ∷ ss) (at ∷ ms) b k h s =
    statement_keeps (statement.If t.number body otherwise) at (record b { trees = ts; suites = ss; marks = ms })
    (again b ts b.lists ss b.links k h.1 k.lists_in s.1.1 k.links_in) (h.0, (s.1.0.0, s.0)) tt
branch_keeps _ _ _ b k h s = stuck_keeps b k

other_branch_keeps : (ts : List Tree) (ss : List (Option ℕ)) (ms : List ℕ) (b : Building) → Sound b → TreesIn b ts → SuitesIn b ss → Sound (other_branch ts ss ms b)
other_branch_keeps (t ∷ ts) (otherwise ∷ Some body ∷ ss) (at ∷ ms) b k h s =
    suite_keeps (statement.If t.number body otherwise) at (record b { trees = ts; suites = ss; marks = ms })
    (again b ts b.lists ss b.links k h.1 k.lists_in s.1.1 k.links_in) (h.0, (s.1.0.0, s.0)) tt
other_branch_keeps _ _ _ b k h s = stuck_keeps b k

loop_while_keeps : (ts : List Tree) (ss : List (Option ℕ)) (ms : List ℕ) (b : Building) → Sound b → TreesIn b ts → SuitesIn b ss → Sound (loop_while ts ss ms b)
loop_while_keeps (t ∷ ts) (Some body ∷ ss) (at ∷ ms) b k h s =
    statement_keeps (statement.While t.number body) at (record b { trees = ts; suites = ss; marks = ms })
    (again b ts b.lists ss b.links k h.1 k.lists_in s.1 k.links_in) (h.0, (s.0.0, tt)) tt
loop_while_keeps _ _ _ b k h s = stuck_keeps b k

attempt_keeps : (ls : List Gathering) (ss : List (Option ℕ)) (ms : List ℕ) (b : Building) → Sound b → ListsIn b ls → SuitesIn b ss → Sound (attempt ls ss ms b)
attempt_keeps (l ∷ ls) (last ∷ Some body ∷ ss) (at ∷ ms) b k x s =
    statement_keeps (statement.Try body l.numbers last) at (record b { lists = ls; suites = ss; marks = ms })
    (again b b.trees ls ss b.links k k.trees_in x.1 s.1.1 k.links_in) (s.1.0.0, each_append (In b) l.numbers (option_to_list last) x.0 s.0) tt
attempt_keeps _ _ _ b k x s = stuck_keeps b k

handler_keeps : (os : List (List Name)) (ns : List (Option Name)) (ss : List (Option ℕ)) (ms : List ℕ) (b : Building) → Sound b → SuitesIn b ss → Sound (handler os ns ss ms b)
handler_keeps (o ∷ os) (n ∷ ns) (Some body ∷ ss) (at ∷ ms) b k s =
    statement_keeps (statement.Except o n body) at (record b { name_lists = os; names = ns; suites = ss; marks = ms }) (with_suites b ss k s.1) (s.0.0, tt) tt
handler_keeps _ _ _ _ b k s = stuck_keeps b k

class_keeps : (ns : List (Option Name)) (ss : List (Option ℕ)) (ms : List ℕ) (b : Building) → Sound b → SuitesIn b ss → Sound (make_class ns ss ms b)
class_keeps (base ∷ Some n ∷ ns) (Some body ∷ ss) (at ∷ ms) b k s =
    statement_keeps (statement.Class n base body) at (record b { names = ns; suites = ss; marks = ms }) (with_suites b ss k s.1) (s.0.0, tt) tt
class_keeps _ _ _ b k s = stuck_keeps b k

-- targets

place_ordered : (e : Expression) (number : ℕ) (ns : List Node) → slice_get ns number ≡ Some (node.Expression e) → Ordered 0 ns → Ordered 0 (placed number (place_of e) ns)
place_ordered (expression.Name w) number ns i o = ordered_set 0 ns number (node.Expression (expression.Name w)) (node.Target (target.Name w)) i refl o
place_ordered (expression.Builtin f) number ns i o = ordered_set 0 ns number (node.Expression (expression.Builtin f)) (node.Target (target.Name (builtin_name f))) i refl o
place_ordered (expression.Constant plain.NotImpl) number ns i o =
    ordered_set 0 ns number (node.Expression (expression.Constant plain.NotImpl)) (node.Target (target.Name (codes "NotImplemented"))) i refl o
place_ordered (expression.Attribute r w) number ns i o = ordered_set 0 ns number (node.Expression (expression.Attribute r w)) (node.Target (target.Attribute r w)) i refl o
place_ordered (expression.Item r key) number ns i o = ordered_set 0 ns number (node.Expression (expression.Item r key)) (node.Target (target.Item r key)) i refl o
place_ordered _ number ns i o = o

placed_length : (number : ℕ) (t : Option Target) (ns : List Node) → length (placed number t ns) ≡ length ns
placed_length number (Some t) ns = length-set ns number (node.Target t)
placed_length number None ns = refl

placed_at_ordered : (number : ℕ) (o : Option Node) (ns : List Node) → slice_get ns number ≡ o → Ordered 0 ns → Ordered 0 (placed_at number o ns)
placed_at_ordered number (Some (node.Expression e)) ns i h = place_ordered e number ns i h
placed_at_ordered number _ ns i h = h

placed_at_length : (number : ℕ) (o : Option Node) (ns : List Node) → length (placed_at number o ns) ≡ length ns
placed_at_length number (Some (node.Expression e)) ns = placed_length number (place_of e) ns
placed_at_length number _ ns = refl

places_ordered : (numbers : List ℕ) (ns : List Node) → Ordered 0 ns → Ordered 0 (with_places numbers ns)
places_ordered [] ns h = h
places_ordered (n ∷ numbers) ns h = places_ordered numbers (with_place n ns) (placed_at_ordered n (slice_get ns n) ns refl h)

places_length : (numbers : List ℕ) (ns : List Node) → length (with_places numbers ns) ≡ length ns
places_length [] ns = refl
places_length (n ∷ numbers) ns = places_length numbers (with_place n ns) ∙ placed_at_length n (slice_get ns n) ns

tuple_ordered : (number : ℕ) (o : Option Node) (ns : List Node) → slice_get ns number ≡ o → Ordered 0 ns → Ordered 0 (tuple_at number o ns)
tuple_ordered number (Some (node.Expression (expression.Tuple numbers))) ns i h =
    ordered_put 0 (with_places numbers ns) number (node.Target (target.Tuple numbers)) (places_ordered numbers ns h)
    (parts_come_first 0 ns h number (node.Expression (expression.Tuple numbers)) i)
tuple_ordered number _ ns i h = h

tuple_length : (number : ℕ) (o : Option Node) (ns : List Node) → length (tuple_at number o ns) ≡ length ns
tuple_length number (Some (node.Expression (expression.Tuple numbers))) ns =
    length-set (with_places numbers ns) number (node.Target (target.Tuple numbers)) ∙ places_length numbers ns
tuple_length number _ ns = refl

aimed_ordered : (f : Form) (number : ℕ) (ns : List Node) → Ordered 0 ns → Ordered 0 (aimed f number ns)
aimed_ordered form.Place number ns h = placed_at_ordered number (slice_get ns number) ns refl h
aimed_ordered form.Places number ns h = tuple_ordered number (slice_get ns number) ns refl h
aimed_ordered form.Value number ns h = h

aimed_length : (f : Form) (number : ℕ) (ns : List Node) → length (aimed f number ns) ≡ length ns
aimed_length form.Place number ns = placed_at_length number (slice_get ns number) ns
aimed_length form.Places number ns = tuple_length number (slice_get ns number) ns
aimed_length form.Value number ns = refl

placed_functions : (fs : List FunctionInfo) (number : ℕ) (t : Option Target) (ns : List Node) → FunctionsIn fs ns → FunctionsIn fs (placed number t ns)
placed_functions fs number (Some t) ns h = each_set (λ n. Each (λ k. k < length fs) (functions_of n)) ns number (node.Target t) tt h
placed_functions fs number None ns h = h

placed_at_functions : (fs : List FunctionInfo) (number : ℕ) (o : Option Node) (ns : List Node) → FunctionsIn fs ns → FunctionsIn fs (placed_at number o ns)
placed_at_functions fs number (Some (node.Expression e)) ns h = placed_functions fs number (place_of e) ns h
placed_at_functions fs number _ ns h = h

places_functions : (fs : List FunctionInfo) (numbers : List ℕ) (ns : List Node) → FunctionsIn fs ns → FunctionsIn fs (with_places numbers ns)
places_functions fs [] ns h = h
places_functions fs (n ∷ numbers) ns h = places_functions fs numbers (with_place n ns) (placed_at_functions fs n (slice_get ns n) ns h)

tuple_functions : (fs : List FunctionInfo) (number : ℕ) (o : Option Node) (ns : List Node) → FunctionsIn fs ns → FunctionsIn fs (tuple_at number o ns)
tuple_functions fs number (Some (node.Expression (expression.Tuple numbers))) ns h =
    each_set (λ n. Each (λ k. k < length fs) (functions_of n)) (with_places numbers ns) number (node.Target (target.Tuple numbers)) tt (places_functions fs numbers ns h)
tuple_functions fs number _ ns h = h

aimed_functions : (fs : List FunctionInfo) (f : Form) (number : ℕ) (ns : List Node) → FunctionsIn fs ns → FunctionsIn fs (aimed f number ns)
aimed_functions fs form.Place number ns h = placed_at_functions fs number (slice_get ns number) ns h
aimed_functions fs form.Places number ns h = tuple_functions fs number (slice_get ns number) ns h
aimed_functions fs form.Value number ns h = h

aim_keeps : (t : Tree) (b : Building) → Sound b → Sound (aim t b)
aim_keeps t b k = wider (aimed t.form t.number b.nodes) b.lines b (omega (arith, aimed_length t.form t.number b.nodes))
    (aimed_ordered t.form t.number b.nodes k.ordered) (k.lined ∙ sym (aimed_length t.form t.number b.nodes))
    (aimed_functions b.functions t.form t.number b.nodes k.functions_in) k

still : (t : Tree) (b : Building) (n : ℕ) → In b n → In (aim t b) n
still t b n h = omega (arith, aimed_length t.form t.number b.nodes, h)

assign_keeps : (ts : List Tree) (b : Building) → Sound b → TreesIn b ts → Sound (assign ts b)
assign_keeps (value ∷ target ∷ ts) b k h = let c : Building = record b { trees = ts } in
    statement_keeps (statement.Assign target.number value.number) target.line (aim target c) (aim_keeps target c (with_trees b ts k h.1.1))
    (still target c target.number h.1.0, (still target c value.number h.0, tt)) tt
assign_keeps _ b k h = stuck_keeps b k

augment_keeps : (ts : List Tree) (ss : List BinaryOp) (b : Building) → Sound b → TreesIn b ts → Sound (augment ts ss b)
augment_keeps (value ∷ target ∷ ts) (op ∷ ss) b k h = let c : Building = record b { trees = ts; signs = ss } in
    statement_keeps (statement.Augmented target.number op value.number) target.line (aim target c) (aim_keeps target c (with_trees b ts k h.1.1))
    (still target c target.number h.1.0, (still target c value.number h.0, tt)) tt
augment_keeps _ _ b k h = stuck_keeps b k

delete_keeps : (ts : List Tree) (ms : List ℕ) (b : Building) → Sound b → TreesIn b ts → Sound (delete ts ms b)
delete_keeps (target ∷ ts) (at ∷ ms) b k h = let c : Building = record b { trees = ts; marks = ms } in
    statement_keeps (statement.Delete target.number) at (aim target c) (aim_keeps target c (with_trees b ts k h.1)) (still target c target.number h.0, tt) tt
delete_keeps _ _ b k h = stuck_keeps b k

loop_over_keeps : (ts : List Tree) (ss : List (Option ℕ)) (ms : List ℕ) (b : Building) → Sound b → TreesIn b ts → SuitesIn b ss → Sound (loop_over ts ss ms b)
loop_over_keeps (source ∷ target ∷ ts) (Some body ∷ ss) (at ∷ ms) b k h s = let c : Building = record b { trees = ts; suites = ss; marks = ms } in
    statement_keeps (statement.For target.number source.number body) at (aim target c)
    (aim_keeps target c (again b ts b.lists ss b.links k h.1.1 k.lists_in s.1 k.links_in))
    (still target c target.number h.1.0, (still target c source.number h.0, (still target c body s.0.0, tt))) tt
loop_over_keeps _ _ _ b k h s = stuck_keeps b k

-- all acts

pub acted_keeps : (a : Act) (b : Building) → Sound b → Sound (acted a b)
unfolding acted
acted_keeps a.Nothing b k = k
acted_keeps a.Mark b k = k
acted_keeps a.Begin b k = with_lists b (record { numbers = []; line = b.line; form = form.Places } ∷ b.lists) k (tt, k.lists_in)
acted_keeps a.BeginWith b k = begin_with_keeps b.trees b k k.trees_in
acted_keeps a.Add b k = add_keeps b.trees b.lists b k k.trees_in k.lists_in
acted_keeps a.BeginNames b k = k
acted_keeps a.AddName b k = add_name_keeps b.name_lists b k
acted_keeps a.Name b k = k
acted_keeps a.NoName b k = k
acted_keeps a.BeginLinks b k = with_links b ([] ∷ b.links) k (tt, k.links_in)
acted_keeps a.AddLink b k = add_link_keeps b.trees b.comparisons b.links b k k.trees_in k.links_in
acted_keeps a.BinarySign b k = binary_sign_keeps (beside b.word binary_signs) b k
acted_keeps a.UnarySign b k = unary_sign_keeps (beside b.word unary_signs) b k
acted_keeps a.ComparisonSign b k = comparison_keeps (beside b.word comparison_signs) b k
acted_keeps a.Negate b k = negate_keeps b.comparisons b k
acted_keeps a.MakeSuite b k = suite_of_keeps b.lists b k k.lists_in
acted_keeps a.NoSuite b k = with_suites b (None ∷ b.suites) k (tt, k.suites_in)
acted_keeps a.MakeHandler b k = handler_keeps b.name_lists b.names b.suites b.marks b k k.suites_in
acted_keeps a.MakeIf b k = branch_keeps b.trees b.suites b.marks b k k.trees_in k.suites_in
acted_keeps a.MakeElif b k = other_branch_keeps b.trees b.suites b.marks b k k.trees_in k.suites_in
acted_keeps a.MakeWhile b k = loop_while_keeps b.trees b.suites b.marks b k k.trees_in k.suites_in
acted_keeps a.MakeFor b k = loop_over_keeps b.trees b.suites b.marks b k k.trees_in k.suites_in
acted_keeps a.MakeTry b k = attempt_keeps b.lists b.suites b.marks b k k.lists_in k.suites_in
acted_keeps a.BeginDef b k = begin_def_keeps b.name_lists b.names b k
acted_keeps a.MakeDef b k = end_def_keeps b.function b.suites b.marks b k.open_in k k.suites_in
acted_keeps a.MakeClass b k = class_keeps b.names b.suites b.marks b k k.suites_in
acted_keeps a.MakePass b k = statement_keeps statement.Pass b.line b k tt tt
acted_keeps a.MakeBreak b k = statement_keeps statement.Break b.line b k tt tt
acted_keeps a.MakeContinue b k = statement_keeps statement.Continue b.line b k tt tt
acted_keeps a.MakeReturn b k = give_back_keeps b.trees b.marks b k k.trees_in
acted_keeps a.MakeReturnNone b k = bare_keeps (statement.Return None) (λ c. tt) (λ c. tt) b.marks b k
acted_keeps a.MakeReraise b k = bare_keeps statement.RaiseAgain (λ c. tt) (λ c. tt) b.marks b k
acted_keeps a.MakeRaiseName b k = raise_name_keeps b.names b.marks b k
acted_keeps a.MakeRaise b k = raise_call_keeps b.lists b.names b.marks b k k.lists_in
acted_keeps a.MakeGlobal b k = declare_keeps statement.Global (λ c ns. tt) (λ c ns. tt) b.name_lists b.marks b k
acted_keeps a.MakeNonlocal b k = declare_keeps statement.Nonlocal (λ c ns. tt) (λ c ns. tt) b.name_lists b.marks b k
acted_keeps a.MakeDel b k = delete_keeps b.trees b.marks b k k.trees_in
acted_keeps a.MakeExpression b k = alone_keeps b.trees b k k.trees_in
acted_keeps a.MakeAssign b k = assign_keeps b.trees b k k.trees_in
acted_keeps a.MakeAugmented b k = augment_keeps b.trees b.signs b k k.trees_in
acted_keeps a.MakeTuple b k = tuple_keeps b.lists b k k.lists_in
acted_keeps a.MakeEmptyTuple b k = value_keeps (expression.Tuple []) b.line b k tt tt
acted_keeps a.MakeWithin b k = within_keeps b.trees b.marks b k k.trees_in
acted_keeps a.MakeName b k = name_keeps b k
acted_keeps a.MakeNone b k = constant_keeps plain.None b k
acted_keeps a.MakeTrue b k = constant_keeps (plain.Bool true) b k
acted_keeps a.MakeFalse b k = constant_keeps (plain.Bool false) b k
acted_keeps a.MakeEllipsis b k = constant_keeps plain.Ellipsis b k
acted_keeps a.MakeInt b k = int_keeps (int_literal_value b.word) b k
acted_keeps a.MakeText b k = text_keeps (text_literal_value b.word) b k
acted_keeps a.MakeBytes b k = bytes_keeps (bytes_literal_value b.word) b k
acted_keeps a.MakeAttribute b k = attribute_keeps b.trees b k k.trees_in
acted_keeps a.MakeItem b k = item_keeps b.trees b k k.trees_in
acted_keeps a.MakeCall b k = call_keeps b.trees b.lists b k k.trees_in k.lists_in
acted_keeps a.BeginLambda b k = begin_lambda_keeps b.name_lists b k
acted_keeps a.MakeLambda b k = end_lambda_keeps b.function b.trees b.marks b k.open_in k k.trees_in
acted_keeps a.MakeConditional b k = conditional_keeps b.trees b k k.trees_in
acted_keeps a.MakeOr b k = listed_keeps expression.Or (λ ns. refl) (λ c ns. tt) b.lists b k k.lists_in
acted_keeps a.MakeAnd b k = listed_keeps expression.And (λ ns. refl) (λ c ns. tt) b.lists b k k.lists_in
acted_keeps a.MakeNot b k = inverse_keeps b.trees b.marks b k k.trees_in
acted_keeps a.MakeCompare b k = compare_keeps b.trees b.links b k k.trees_in k.links_in
acted_keeps a.MakeBinary b k = binary_keeps b.trees b.signs b k k.trees_in
acted_keeps a.MakeUnary b k = unary_keeps b.trees b.unary_signs b.marks b k k.trees_in
acted_keeps a.MakeList b k = listed_keeps expression.List (λ ns. refl) (λ c ns. tt) b.lists b k k.lists_in
acted_keeps a.MakeDict b k = listed_keeps expression.Dict (λ ns. refl) (λ c ns. tt) b.lists b k k.lists_in

pub begun_sound : Sound begun
begun_sound = record { ordered = tt; lined = refl; functions_in = tt; bodies_in = tt; nested = tt; open_in = tt; trees_in = tt; lists_in = tt; suites_in = tt; links_in = tt }

rooted_sound : (ns : List Node) (b : Building) → ns ≡ b.nodes → Sound b → Sound (rooted ns b) × (0 < length (rooted ns b).nodes)
rooted_sound [] b e k = (node_keeps (node.Statement (statement.Suite [])) b.line b k tt tt, omega (arith, one_longer b.nodes (node.Statement (statement.Suite []))))
rooted_sound (n ∷ ns) b e k = (k, subst (λ ms. 0 < length ms) e (omega arith))

numbered : (is_expression : Bool) (b : Building) → 0 < length b.nodes → Sound b → IsNumbered (program is_expression b)
numbered is_expression b some k = record {
  parts = λ number n e. each_up (0 + number) number (omega arith) (parts_of n) (parts_come_first 0 b.nodes k.ordered number n e);
  root = omega (arith, some);
  lines = k.lined;
  functions = k.functions_in;
  bodies = each_mono (λ f. f.body < max 1 (length b.nodes)) (λ f. f.body < length b.nodes) (λ f l. omega (arith, some, l)) b.functions k.bodies_in;
  parents = λ number f e. each_up (0 + number) number (omega arith) (option_to_list f.parent) (parents_come_first 0 b.functions k.nested number f e);
}

pub programs_are_numbered : (is_expression : Bool) (b : Building) → Sound b → IsNumbered (program_of is_expression b)
programs_are_numbered is_expression b k = let r : Sound (rooted b.nodes b) × (0 < length (rooted b.nodes b).nodes) = rooted_sound b.nodes b refl k in
    numbered is_expression (rooted b.nodes b) r.1 r.0
