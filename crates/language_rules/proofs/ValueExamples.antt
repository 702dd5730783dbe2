-- Worked examples of truth, comparison, searching, draining, printing and builtin functions, with the units that they take. The answers are those of CPython, and where the subset ends they are its own.
use Rattle.std.proofs.Common.{◌≡◌, ℕ, zero, suc, true, false, pos, negsuc, codes, List, [], ◌∷◌, ◌++◌, ◌^◌, ◌-◌, None, refl}
use Rattle.rp_base.specs.declared.plain.Plain.TheVariants as plain
use Rattle.rp_base.specs.declared.value.Value.{Value}
use Rattle.rp_base.specs.declared.value.Value.TheVariants as value
use Rattle.rp_base.specs.declared.operators.CmpOp.TheVariants as cmp
use Rattle.rp_base.specs.declared.exceptions.Beyond.{Beyond}
use Rattle.rp_base.specs.declared.exceptions.Beyond.TheVariants as beyond
use Rattle.rp_base.specs.declared.exceptions.ExcKind.TheVariants as exception
use Rattle.object_operations.specs.declared.operation.Operation.{Operation}
use Rattle.object_operations.specs.declared.operation.Operation.TheVariants as operation
use Rattle.object_operations.specs.declared.special.Special.TheVariants as special
use Rattle.py_ast.specs.declared.builtin.Builtin.TheVariants as builtin
use Rattle.py_store.specs.declared.cell.Cell.{Cell}
use Rattle.py_store.specs.declared.cell.Cell.TheVariants as cell
use Rattle.side_trees.specs.Trees.{Return, bind, run, Ended, Done, Asked, Stopped, NoFuel}
use Rattle.language_rules.specs.Codes.{Completion, Gives, Raises, Code, Perform, Then}
use Rattle.language_rules.specs.States.{State}
use Rattle.language_rules.specs.Rules.{expand}
use Rattle.language_rules.specs.Perform.{perform}
use Rattle.language_rules.specs.Going.{RuleTree, nowhere, none, boolean, text, raises, reads_cell, sets_cell, raised}
use Rattle.language_rules.specs.Truth.{on_truth}
use Rattle.language_rules.specs.Comparing.{compares}
use Rattle.language_rules.specs.Searching.{searches_list, searches_values}
use Rattle.language_rules.specs.Draining.{unpacks}
use Rattle.language_rules.specs.Builtins.{builtin_rule}
use Rattle.language_rules.specs.Computing.{rules_computing}

abbrev int : ℕ → Value
int n = value.Plain (plain.Int (pos n))

-- What a call of a method does here, told by the text number of its function: 0 gives NotImplemented, 1 clears cell 1 and gives False, 2 gives an int, 3 gives Ellipsis, 4 raises, 5 gives cell 1 another shape and a text.
abbrev called : Cell → RuleTree
called (cell.Function zero f scope) = Return (Gives (value.Plain plain.NotImpl))
called (cell.Function (suc zero) f scope) = sets_cell 1 (cell.List []) (Return (Gives (boolean false)))
called (cell.Function (suc (suc zero)) f scope) = Return (Gives (int 7))
called (cell.Function (suc (suc (suc zero))) f scope) = Return (Gives (value.Plain plain.Ellipsis))
called (cell.Function (suc (suc (suc (suc zero)))) f scope) = raises exception.ValueError []
called (cell.Function _ f scope) = sets_cell 1 (cell.Dict [] 9) (Return (Gives (text (codes "t"))))
called _ = nowhere

abbrev performs : Operation → RuleTree
performs (operation.Call (value.Own n) vs) = reads_cell n called
performs o = perform o

-- all else is the rule book's
abbrev expands : Code → RuleTree
expands (Then c f) = bind (expands c) (λ e. expands (f e))
expands (Perform o) = performs o
expands c = expand c

abbrev on : List Cell → State
on cells = record { cells = cells; printed = 0; texts = []; handled = []; printing = []; classes = []; modules = []; reads_script = λ t. None; reads_expression = λ t. None }

-- what is seen of a run: its end with the cells, the printings under way, the bytes counted, the units left and what was printed
pub data Seen : Type 0 where
  Made : Completion → List Cell → List ℕ → ℕ → ℕ → List ℕ → Seen
  Left : Beyond → ℕ → List ℕ → Seen
  Waits : Operation → ℕ → List ℕ → Seen
  Out : List ℕ → Seen

abbrev seen : Ended Code State Operation Completion Beyond (List ℕ) (List ℕ) → Seen
seen (Done a s u w) = Made a s.cells s.printing s.printed u w
seen (Stopped b s u w) = Left b u w
seen (Asked o f s u w) = Waits o u w
seen (NoFuel s w) = Out w

abbrev runs : ℕ → RuleTree → List Cell → Seen
runs u t cells = seen (run expands (λ d w. w ++ d) u t (on cells) [])

abbrev tuple_with_a_list : Value
tuple_with_a_list = value.Tuple (value.Own 1 ∷ text (codes "a") ∷ [])

-- print(([True, 'b'], 'a'), None)
pub nested_print : runs 5 (builtin_rule builtin.Print (tuple_with_a_list ∷ none ∷ [])) (cell.List (boolean true ∷ text (codes "b") ∷ []) ∷ []) ≡ Made (Gives none) (cell.List (boolean true ∷ text (codes "b") ∷ []) ∷ []) [] 24 4 (codes "([True, 'b'], 'a') None\n")
unfolding rules_computing
nested_print = refl

-- l = [l]; str(l)
pub cyclic_str : runs 5 (builtin_rule builtin.Str (value.Own 1 ∷ [])) (cell.List (value.Own 1 ∷ []) ∷ []) ≡ Left beyond.CyclicRepr 3 []
unfolding rules_computing
cyclic_str = refl

abbrev two : List Cell
two = cell.List (int 1 ∷ value.Own 3 ∷ []) ∷ cell.List (boolean true ∷ value.Own 3 ∷ []) ∷ cell.List [] ∷ cell.List (int 1 ∷ int 1 ∷ []) ∷ []

-- equal lists: Cmp, len, item, item, len
pub equal_lists : runs 9 (compares cmp.Eq (value.Own 1) (value.Own 2) (λ v. Return (Gives v))) two ≡ Made (Gives (boolean true)) two [] 0 4 []
unfolding rules_computing
equal_lists = refl

-- [1, []] != [1, 1]: Cmp, len, item, item, then [] is asked (Cmp: NotImplemented), len
pub unequal_lists : runs 9 (compares cmp.Ne (value.Own 1) (value.Own 4) (λ v. Return (Gives v))) two ≡ Made (Gives (boolean true)) two [] 0 3 []
unfolding rules_computing
unequal_lists = refl

-- tuple([True, []]): iter, next, next, next
pub tuple_of_a_list : runs 9 (builtin_rule builtin.Tuple (value.Own 2 ∷ [])) two ≡ Made (Gives (value.Tuple (boolean true ∷ value.Own 3 ∷ []))) (two ++ cell.Iter None 2 0 ∷ []) [] 0 5 []
unfolding rules_computing
tuple_of_a_list = refl

-- sorted of a tuple
pub sorted_with_ties : runs 0 (builtin_rule builtin.Sorted (value.Plain (plain.Tuple (plain.Int (pos 3) ∷ plain.Bool true ∷ plain.Int (pos 1) ∷ plain.Int (negsuc 4) ∷ [])) ∷ [])) [] ≡ Made (Gives (value.Own 1)) (cell.List (value.Plain (plain.Int (negsuc 4)) ∷ boolean true ∷ int 1 ∷ int 3 ∷ []) ∷ []) [] 0 0 []
unfolding rules_computing
sorted_with_ties = refl

-- [] in the list: the second item, by its identity; 1 in it: the first
pub found_by_identity : runs 3 (searches_list 1 (value.Own 3)) two ≡ Made (Gives (int 1)) two [] 0 2 []
unfolding rules_computing
found_by_identity = refl

-- [1, 1] is sought in [1, []]: 1 == [1, 1] asks it (Cmp), [] == [1, 1] asks [1,1] (Cmp, len): unequal
pub not_found : runs 9 (searches_list 1 (value.Own 4)) two ≡ Made (Gives none) two [] 0 6 []
unfolding rules_computing
not_found = refl

-- (1, [1, 1]) == (True, [1, []])
pub unequal_tuples : runs 20 (compares cmp.Eq (value.Tuple (int 1 ∷ value.Own 4 ∷ [])) (value.Tuple (boolean true ∷ value.Own 1 ∷ [])) (λ v. Return (Gives v))) two ≡ Made (Gives (boolean false)) two [] 0 14 []
unfolding rules_computing
unequal_tuples = refl

-- ((1,), []) == ((1, 2), []): two plain tuples differ, and nothing more is asked
pub differ_at_the_first_pair : runs 0 (compares cmp.Eq (value.Tuple (value.Plain (plain.Tuple (plain.Int (pos 1) ∷ [])) ∷ value.Own 1 ∷ [])) (value.Tuple (value.Plain (plain.Tuple []) ∷ value.Own 2 ∷ [])) (λ v. Return (Gives v))) two ≡ Made (Gives (boolean false)) two [] 0 0 []
unfolding rules_computing
differ_at_the_first_pair = refl

-- (1,) == ([],): lengths agree; (1, 2) == ([],): Beyond(Compare); (1,) < ([],): Beyond(Order)
pub tuples_of_other_lengths : runs 0 (compares cmp.Eq (value.Plain (plain.Tuple [])) (value.Tuple (value.Own 3 ∷ [])) (λ v. Return (Gives v))) two ≡ Left beyond.Compare 0 []
unfolding rules_computing
tuples_of_other_lengths = refl

pub tuples_in_order : runs 0 (compares cmp.Lt (value.Plain (plain.Tuple (plain.None ∷ []))) (value.Tuple (value.Own 3 ∷ [])) (λ v. Return (Gives v))) two ≡ Left beyond.Order 0 []
unfolding rules_computing
tuples_in_order = refl

-- {'k': ['v']} as text
pub dict_text : runs 9 (builtin_rule builtin.Repr (value.Own 1 ∷ [])) (cell.Dict ((plain.Text (codes "k"), value.Own 2) ∷ (plain.None, none) ∷ []) 3 ∷ cell.List (text (codes "v") ∷ []) ∷ []) ≡ Made (Gives (text (codes "{'k': ['v'], None: None}"))) (cell.Dict ((plain.Text (codes "k"), value.Own 2) ∷ (plain.None, none) ∷ []) 3 ∷ cell.List (text (codes "v") ∷ []) ∷ []) [] 0 7 []
unfolding rules_computing
dict_text = refl

-- int(' -12\n'), int('1_0'), int('x')
pub int_in_spaces : runs 0 (builtin_rule builtin.Int (text (codes " -12\n") ∷ [])) [] ≡ Made (Gives (value.Plain (plain.Int (negsuc 11)))) [] [] 0 0 []
unfolding rules_computing
int_in_spaces = refl

pub int_with_underscore : runs 0 (builtin_rule builtin.Int (text (codes "1_0") ∷ [])) [] ≡ Left beyond.IntText 0 []
unfolding rules_computing
int_with_underscore = refl

pub no_int : runs 0 (builtin_rule builtin.Int (text (codes "x") ∷ [])) [] ≡ Made (Raises (raised exception.ValueError (plain.Text (codes "not an integer text") ∷ []))) [] [] 0 0 []
unfolding rules_computing
no_int = refl

-- max((1, True)), min((3, True, 1)), sum((1, True)), chr(960), ord of it, list('ab')
pub first_of_the_greatest : runs 0 (builtin_rule builtin.Max (int 1 ∷ boolean true ∷ [])) [] ≡ Made (Gives (int 1)) [] [] 0 0 []
unfolding rules_computing
first_of_the_greatest = refl

pub first_of_the_least : runs 0 (builtin_rule builtin.Min (value.Plain (plain.Tuple (plain.Int (pos 3) ∷ plain.Bool true ∷ plain.Int (pos 1) ∷ [])) ∷ [])) [] ≡ Made (Gives (boolean true)) [] [] 0 0 []
unfolding rules_computing
first_of_the_least = refl

pub chr_of_pi : runs 0 (builtin_rule builtin.Chr (int 960 ∷ [])) [] ≡ Made (Gives (value.Plain (plain.Text (207 ∷ 128 ∷ [])))) [] [] 0 0 []
unfolding rules_computing
chr_of_pi = refl

pub ord_of_pi : runs 0 (builtin_rule builtin.Ord (value.Plain (plain.Text (207 ∷ 128 ∷ [])) ∷ [])) [] ≡ Made (Gives (int 960)) [] [] 0 0 []
unfolding rules_computing
ord_of_pi = refl

pub list_of_bytes : runs 0 (builtin_rule builtin.List (value.Plain (plain.Bytes (codes "ab")) ∷ [])) [] ≡ Made (Gives (value.Own 1)) (cell.List (int 97 ∷ int 98 ∷ []) ∷ []) [] 0 0 []
unfolding rules_computing
list_of_bytes = refl

-- a, b = [1]
pub wrong_number_of_values : runs 9 (unpacks (value.Own 1) 2 (λ vs. Return (Gives none))) (cell.List (int 1 ∷ []) ∷ []) ≡ Made (Raises (raised exception.ValueError (plain.Text (codes "wrong number of values") ∷ []))) (cell.List (int 1 ∷ []) ∷ cell.Iter None 1 0 ∷ []) [] 0 6 []
unfolding rules_computing
wrong_number_of_values = refl

-- range(0, 3, 0) and sum((1, True)), sum(('a',))
pub step_is_zero : runs 0 (builtin_rule builtin.Range (int 0 ∷ int 3 ∷ int 0 ∷ [])) [] ≡ Made (Raises (raised exception.ValueError (plain.Text (codes "step is zero") ∷ []))) [] [] 0 0 []
unfolding rules_computing
step_is_zero = refl

pub sum_with_a_bool : runs 0 (builtin_rule builtin.Sum (value.Plain (plain.Tuple (plain.Int (pos 1) ∷ plain.Bool true ∷ [])) ∷ [])) [] ≡ Made (Gives (int 2)) [] [] 0 0 []
unfolding rules_computing
sum_with_a_bool = refl

pub sum_of_a_text : runs 0 (builtin_rule builtin.Sum (value.Plain (plain.Tuple (plain.Text [] ∷ [])) ∷ [])) [] ≡ Left beyond.Order 0 []
unfolding rules_computing
sum_of_a_text = refl

-- cell 2 is an instance of class 3, whose special method is the function 4
abbrev with_method : Cell → List ℕ → ℕ → List Cell
with_method c name k = c ∷ cell.Instance 3 [] ∷ cell.Class (codes "C") None (record { name = name; value = value.Own 4 } ∷ []) ∷ cell.Function k 0 1 ∷ []

abbrev same : Value → RuleTree
same v = Return (Gives v)

-- 1 in [C(), 1], where `__eq__` clears the list: Cmp, call
pub list_cleared_in_a_search : runs 9 (searches_list 1 (int 1)) (with_method (cell.List (value.Own 2 ∷ int 1 ∷ [])) (codes "__eq__") 1) ≡ Made (Gives none) (with_method (cell.List []) (codes "__eq__") 1) [] 0 7 []
unfolding rules_computing
list_cleared_in_a_search = refl

-- the same list compared with itself: Cmp, len, item; by identity no call; then len
pub list_equals_itself : runs 9 (compares cmp.Eq (value.Own 1) (value.Own 1) same) (with_method (cell.List (value.Own 2 ∷ [])) (codes "__eq__") 1) ≡ Made (Gives (boolean true)) (with_method (cell.List (value.Own 2 ∷ [])) (codes "__eq__") 1) [] 0 5 []
unfolding rules_computing
list_equals_itself = refl

-- [C()] == [1], where `__eq__` clears the own list: Changed after Cmp, len, item, Cmp, call
pub list_cleared_in_a_comparison : runs 9 (compares cmp.Eq (value.Own 1) (value.Own 5) same) (with_method (cell.List (value.Own 2 ∷ [])) (codes "__eq__") 1 ++ cell.List (int 1 ∷ []) ∷ []) ≡ Left beyond.Changed 4 []
unfolding rules_computing
list_cleared_in_a_comparison = refl

-- C() != 1, `__eq__` giving Ellipsis, which is true; giving NotImplemented
pub unequal_by_the_opposite : runs 9 (compares cmp.Ne (value.Own 2) (int 1) same) (with_method (cell.List []) (codes "__eq__") 3) ≡ Made (Gives (boolean false)) (with_method (cell.List []) (codes "__eq__") 3) [] 0 7 []
unfolding rules_computing
unequal_by_the_opposite = refl

pub unequal_by_identity : runs 9 (compares cmp.Ne (value.Own 2) (int 1) same) (with_method (cell.List []) (codes "__eq__") 0) ≡ Made (Gives (boolean true)) (with_method (cell.List []) (codes "__eq__") 0) [] 0 7 []
unfolding rules_computing
unequal_by_identity = refl

-- 1 < C() with `__gt__` giving 7; with no method
pub swapped_method : runs 9 (compares cmp.Lt (int 1) (value.Own 2) same) (with_method (cell.List []) (codes "__gt__") 2) ≡ Made (Gives (int 7)) (with_method (cell.List []) (codes "__gt__") 2) [] 0 7 []
unfolding rules_computing
swapped_method = refl

pub no_order : runs 9 (compares cmp.Lt (int 1) (value.Own 2) same) (with_method (cell.List []) (codes "__lt__") 2) ≡ Made (Raises (raised exception.TypeError (plain.Text (codes "no order") ∷ []))) (with_method (cell.List []) (codes "__lt__") 2) [] 0 8 []
unfolding rules_computing
no_order = refl

-- str of an instance: `__repr__` giving 7; of a list with it
pub repr_is_no_text : runs 9 (builtin_rule builtin.Str (value.Own 1 ∷ [])) (with_method (cell.List (value.Own 2 ∷ [])) (codes "__repr__") 2) ≡ Made (Raises (raised exception.TypeError (plain.Text (codes "wrong result kind") ∷ []))) (with_method (cell.List (value.Own 2 ∷ [])) (codes "__repr__") 2) [] 0 6 []
unfolding rules_computing
repr_is_no_text = refl

-- an exception takes the printing off
pub printing_ends_by_an_exception : runs 9 (builtin_rule builtin.Repr (value.Own 1 ∷ [])) (with_method (cell.List (value.Own 2 ∷ [])) (codes "__repr__") 4) ≡ Made (Raises (raised exception.ValueError [])) (with_method (cell.List (value.Own 2 ∷ [])) (codes "__repr__") 4) [] 0 6 []
unfolding rules_computing
printing_ends_by_an_exception = refl

-- str prefers `__str__`, and repr does not take it
pub no_repr : runs 9 (builtin_rule builtin.Repr (value.Own 2 ∷ [])) (with_method (cell.List []) (codes "__str__") 5) ≡ Left beyond.Address 8 []
unfolding rules_computing
no_repr = refl

-- keys came while a value was printed
pub keys_changed_in_a_printing : runs 9 (builtin_rule builtin.Repr (value.Own 1 ∷ [])) (with_method (cell.Dict ((plain.None, value.Own 2) ∷ []) 3) (codes "__repr__") 5) ≡ Left beyond.Changed 6 []
unfolding rules_computing
keys_changed_in_a_printing = refl

-- print('a', []) with no unit left: each piece was written as soon as it was made
pub printed_piece_by_piece : runs 0 (builtin_rule builtin.Print (text (codes "a") ∷ value.Own 3 ∷ [])) two ≡ Out (codes "a ")
unfolding rules_computing
printed_piece_by_piece = refl

-- a dict with itself; a list with order
pub dict_with_itself : runs 9 (compares cmp.Eq (value.Own 1) (value.Own 1) same) (cell.Dict [] 0 ∷ []) ≡ Left beyond.Compare 8 []
unfolding rules_computing
dict_with_itself = refl

pub lists_in_order : runs 9 (compares cmp.Le (value.Own 1) (value.Own 2) same) two ≡ Left beyond.Order 8 []
unfolding rules_computing
lists_in_order = refl

-- truth of a tuple with a reference, of an empty list, of NotImplemented
pub tuple_is_true : runs 9 (on_truth tuple_with_a_list (λ b. Return (Gives (boolean b)))) two ≡ Made (Gives (boolean true)) two [] 0 9 []
unfolding rules_computing
tuple_is_true = refl

pub empty_list_is_false : runs 9 (on_truth (value.Own 3) (λ b. Return (Gives (boolean b)))) two ≡ Made (Gives (boolean false)) two [] 0 8 []
unfolding rules_computing
empty_list_is_false = refl

pub truth_of_not_implemented : runs 9 (on_truth (value.Plain plain.NotImpl) (λ b. Return (Gives (boolean b)))) two ≡ Left beyond.Truth 9 []
unfolding rules_computing
truth_of_not_implemented = refl

-- range(0, 3) and range(-1, 3, 2)
pub range_text : runs 9 (builtin_rule builtin.Str (value.Own 1 ∷ [])) (cell.Range (pos 0) (pos 3) (pos 1) ∷ []) ≡ Made (Gives (text (codes "range(0, 3)"))) (cell.Range (pos 0) (pos 3) (pos 1) ∷ []) [] 0 8 []
unfolding rules_computing
range_text = refl

pub range_text_with_step : runs 9 (builtin_rule builtin.Repr (value.Own 1 ∷ [])) (cell.Range (negsuc 0) (pos 3) (pos 2) ∷ []) ≡ Made (Gives (text (codes "range(-1, 3, 2)"))) (cell.Range (negsuc 0) (pos 3) (pos 2) ∷ []) [] 0 8 []
unfolding rules_computing
range_text_with_step = refl

-- a list of the other side is gone over by its `__iter__`; one that is compared with it is asked, and asks its length
abbrev there : Value
there = value.Proxy (record { name = codes "builtins.list"; class_no = 0; inst_no = 5 })

pub other_list_is_gone_over : runs 9 (builtin_rule builtin.List (there ∷ [])) [] ≡ Waits (operation.Special there special.Iter []) 9 []
unfolding rules_computing
other_list_is_gone_over = refl

pub other_list_is_asked : runs 9 (compares cmp.Eq (value.Own 3) there same) two ≡ Waits (operation.Special there special.Len []) 8 []
unfolding rules_computing
other_list_is_asked = refl

-- 1 < there: the right operand is asked, with the operands changed round
pub right_operand_is_asked : runs 9 (compares cmp.Lt (int 1) there same) two ≡ Waits (operation.Cmp there cmp.Gt (int 1)) 9 []
unfolding rules_computing
right_operand_is_asked = refl

-- sorted(('b', 'ab', 'a')), and of two kinds
pub sorted_texts : runs 0 (builtin_rule builtin.Sorted (value.Plain (plain.Tuple (plain.Text (codes "b") ∷ plain.Text (codes "ab") ∷ plain.Text (codes "a") ∷ [])) ∷ [])) [] ≡ Made (Gives (value.Own 1)) (cell.List (text (codes "a") ∷ text (codes "ab") ∷ text (codes "b") ∷ []) ∷ []) [] 0 0 []
unfolding rules_computing
sorted_texts = refl

pub sorted_of_two_kinds : runs 0 (builtin_rule builtin.Sorted (value.Plain (plain.Tuple (plain.Text (codes "b") ∷ plain.None ∷ [])) ∷ [])) [] ≡ Left beyond.Order 0 []
unfolding rules_computing
sorted_of_two_kinds = refl

-- list of a dict: its keys
pub list_of_a_dict : runs 9 (builtin_rule builtin.List (value.Own 1 ∷ [])) (cell.Dict ((plain.None, int 1) ∷ []) 0 ∷ []) ≡ Made (Gives (value.Own 3)) (cell.Dict ((plain.None, int 1) ∷ []) 0 ∷ cell.Iter None 1 0 ∷ cell.List (none ∷ []) ∷ []) [] 0 6 []
unfolding rules_computing
list_of_a_dict = refl

-- the last byte that may be printed, and a piece that would pass it
abbrev printed : ℕ → State
printed n = record (on []) { printed = n }

abbrev prints_behind : ℕ → List Value → Seen
prints_behind n vs = seen (run expands (λ d w. w ++ d) 0 (builtin_rule builtin.Print vs) (printed n) [])

pub last_byte_printed : prints_behind 16777215 [] ≡ Made (Gives none) [] [] 16777216 0 (10 ∷ [])
unfolding rules_computing
last_byte_printed = refl

pub piece_past_the_limit : prints_behind 16777215 (text (codes "ab") ∷ []) ≡ Left beyond.Output 0 []
unfolding rules_computing
piece_past_the_limit = refl

-- 3 in the values of {None: 1, 'k': 3}: the second place
pub found_in_values : runs 0 (searches_values 1 (int 3)) (cell.Dict ((plain.None, int 1) ∷ (plain.Text (codes "k"), int 3) ∷ []) 0 ∷ []) ≡ Made (Gives (int 1)) (cell.Dict ((plain.None, int 1) ∷ (plain.Text (codes "k"), int 3) ∷ []) 0 ∷ []) [] 0 0 []
unfolding rules_computing
found_in_values = refl

-- chr(0xd800), chr(-1), and abs of the least int
pub chr_of_a_surrogate : runs 0 (builtin_rule builtin.Chr (int 55296 ∷ [])) [] ≡ Left beyond.Arguments 0 []
unfolding rules_computing
chr_of_a_surrogate = refl

pub chr_below_zero : runs 0 (builtin_rule builtin.Chr (value.Plain (plain.Int (negsuc 0)) ∷ [])) [] ≡ Made (Raises (raised exception.ValueError (plain.Text (codes "character out of range") ∷ []))) [] [] 0 0 []
unfolding rules_computing
chr_below_zero = refl

pub abs_of_the_least : runs 0 (builtin_rule builtin.Abs (value.Plain (plain.Int (negsuc (2 ^ 127 - 1))) ∷ [])) [] ≡ Left beyond.Int 0 []
unfolding rules_computing
abs_of_the_least = refl

-- len([]), len(1)
pub len_of_a_list : runs 9 (builtin_rule builtin.Len (value.Own 3 ∷ [])) two ≡ Made (Gives (int 0)) two [] 0 8 []
unfolding rules_computing
len_of_a_list = refl

pub len_of_an_int : runs 9 (builtin_rule builtin.Len (int 1 ∷ [])) two ≡ Made (Raises (raised exception.TypeError (plain.Text (codes "no length") ∷ []))) two [] 0 9 []
unfolding rules_computing
len_of_an_int = refl
