-- Worked examples of operations on objects, computed by the checker: each is asked in a state with these cells.
use Rattle.std.specs.Prelude.{◌≡◌, ◌∷◌, [], List, ℕ, ◌-◌, codes, pos, negsuc, true, false, Option, Some, None, if◌then◌else◌}
use Rattle.std.specs.Str.{bytes_eq}
use Rattle.std.proofs.Common.{refl}
use Rattle.rp_base.specs.declared.exceptions.Beyond.{Beyond}
use Rattle.rp_base.specs.declared.exceptions.Beyond.TheVariants as beyond
use Rattle.rp_base.specs.declared.exceptions.ExcKind.{ExcKind}
use Rattle.rp_base.specs.declared.exceptions.ExcKind.TheVariants as exception
use Rattle.rp_base.specs.declared.plain.Plain.{Plain}
use Rattle.rp_base.specs.declared.plain.Plain.TheVariants as plain
use Rattle.rp_base.specs.declared.value.Value.{Value}
use Rattle.rp_base.specs.declared.value.Value.TheVariants as value
use Rattle.py_ast.specs.declared.expression.Expression.TheVariants as expression
use Rattle.py_ast.specs.declared.node.Node.TheVariants as node
use Rattle.py_ast.specs.declared.program.Program.{Program}
use Rattle.py_store.specs.declared.cell.Binding.{Binding}
use Rattle.py_store.specs.declared.cell.Cell.{Cell}
use Rattle.py_store.specs.declared.cell.Cell.TheVariants as cell
use Rattle.py_store.specs.declared.cell.Method.TheVariants as target
use Rattle.py_store.specs.declared.cell.Which.TheVariants as view
use Rattle.host_api.specs.declared.host.HostAnswer.TheVariants as host_answer
use Rattle.host_api.specs.Modules.{Module}
use Rattle.object_operations.specs.declared.method.BuiltinMethod.TheVariants as method
use Rattle.object_operations.specs.declared.operation.Operation.{Operation}
use Rattle.object_operations.specs.declared.operation.Operation.TheVariants as operation
use Rattle.object_operations.specs.declared.special.Special.{Special}
use Rattle.object_operations.specs.declared.special.Special.TheVariants as special
use Rattle.side_trees.specs.Trees.{Ended, Return, Spend, Done, Stopped, run, bind}
use Rattle.language_rules.specs.Answers.{asked}
use Rattle.language_rules.specs.Codes.{Code, Inspect, AttributeCall, Completion, Gives, Raises}
use Rattle.language_rules.specs.Computing.{rules_computing}
use Rattle.language_rules.specs.Going.{RuleTree, text, boolean, none, raised, asks}
use Rattle.language_rules.specs.PlainItems.{number, item_of, length_of, contains_in}
use Rattle.language_rules.specs.Rules.{expand}
use Rattle.language_rules.specs.States.{State}

-- ---- states and ends

-- a module with one function `next`, which gives 7
abbrev counter : Module
counter = record { name = codes "counter"; has = λ name. bytes_eq name (codes "next"); rule = λ state name arguments. (host_answer.Value (plain.Int (pos 7)), plain.Bool true); state = plain.None }

-- the expression 5, also as the body of a function without parameters and of one with one
abbrev five : Program
five = record {
  nodes = node.Expression (expression.Constant (plain.Int (pos 5))) ∷ [];
  lines = [];
  root = 0;
  functions = record { name = codes "<lambda>"; parameters = []; locals = []; free = []; has_inner = false; parent = None; body = 0 }
      ∷ record { name = codes "<lambda>"; parameters = record { text = codes "self"; line = 1 } ∷ []; locals = codes "self" ∷ []; free = []; has_inner = false; parent = None; body = 0 }
      ∷ [];
  handler_names = [];
  is_expression = true;
}

-- NotImplemented, as the body of the same functions
abbrev nothing : Program
nothing = record five { nodes = node.Expression (expression.Constant plain.NotImpl) ∷ [] }

abbrev reads_five : List ℕ → Option Program
reads_five t = if bytes_eq t (codes "5") then Some five else None

abbrev start : List Cell → State
start cells = record { cells = cells; printed = 0; texts = five ∷ nothing ∷ []; handled = []; classes = []; printing = []; modules = counter ∷ []; reads_script = λ t. None; reads_expression = reads_five }

abbrev EndedRule : Type 0
EndedRule = Ended Code State Operation Completion Beyond (List ℕ) (List ℕ)

abbrev ends : List Cell → RuleTree → EndedRule
ends cells t = run expand (λ d w. d) 100 t (start cells) []

-- how it ended, with the units that it took
abbrev ended : EndedRule → Option (Completion × ℕ)
ended (Done a s u w) = Some (a, 100 - u)
ended _ = None

abbrev out_of_subset : EndedRule → Option Beyond
out_of_subset (Stopped b s u w) = Some b
out_of_subset _ = None

-- the cells behind
abbrev cells_behind : EndedRule → List Cell
cells_behind (Done a s u w) = s.cells
cells_behind _ = []

abbrev gives : Value → ℕ → Option (Completion × ℕ)
gives v units = Some (Gives v, units)

abbrev fails : ExcKind → List ℕ → ℕ → Option (Completion × ℕ)
fails k t units = Some (Raises (raised k (plain.Text t ∷ [])), units)

-- ---- operations

abbrev own : ℕ → Value
own n = value.Own n

abbrev calls : ℕ → List ℕ → List Value → RuleTree
calls n name arguments = asks (operation.GetAttr (own n) name) (λ f. asked (operation.Call f arguments))

abbrev special_call : Special → ℕ → List Value → RuleTree
special_call s n arguments = asked (operation.Special (own n) s arguments)

abbrev after : RuleTree → RuleTree → RuleTree
after t u = bind t (λ a. u)

-- ---- lists: cell 3 is [1, 2], cell 4 the same, cell 5 is empty

abbrev lists : List Cell
lists = cell.Namespace [] [] ∷ cell.Root ∷ cell.List (number 1 ∷ number 2 ∷ []) ∷ cell.List (number 1 ∷ number 2 ∷ []) ∷ cell.List [] ∷ []

-- a getattr, a call, and a method's new cell
appends : cells_behind (ends lists (calls 5 (codes "append") (text (codes "x") ∷ []))) ≡ cell.Namespace [] [] ∷ cell.Root ∷ cell.List (number 1 ∷ number 2 ∷ []) ∷ cell.List (number 1 ∷ number 2 ∷ []) ∷ cell.List (text (codes "x") ∷ []) ∷ cell.Bound (own 5) (target.Builtin method.Append) ∷ []
unfolding rules_computing
appends = refl

append_answers : ended (ends lists (calls 5 (codes "append") (text (codes "x") ∷ []))) ≡ gives none 2
unfolding rules_computing
append_answers = refl

pops_last : ended (ends lists (calls 3 (codes "pop") [])) ≡ gives (number 2) 2
unfolding rules_computing
pops_last = refl

pops_outside : ended (ends lists (calls 3 (codes "pop") (number 2 ∷ []))) ≡ fails exception.IndexError (codes "list index out of range") 2
unfolding rules_computing
pops_outside = refl

pops_empty : ended (ends lists (calls 5 (codes "pop") (number 2 ∷ []))) ≡ fails exception.IndexError (codes "pop from empty list") 2
unfolding rules_computing
pops_empty = refl

-- a position past 64 bits is judged before the list is looked at
pops_far : out_of_subset (ends lists (calls 5 (codes "pop") (number 9223372036854775808 ∷ []))) ≡ Some beyond.Int
unfolding rules_computing
pops_far = refl

pops_text : out_of_subset (ends lists (calls 5 (codes "pop") (text (codes "x") ∷ []))) ≡ Some beyond.Arguments
unfolding rules_computing
pops_text = refl

-- `insert` takes the nearest end
inserts : ended (ends lists (after (calls 3 (codes "insert") (value.Plain (plain.Int (negsuc 9)) ∷ number 8 ∷ [])) (after (calls 3 (codes "insert") (number 9 ∷ number 9 ∷ [])) (after (calls 3 (codes "pop") []) (special_call special.GetItem 3 (number 0 ∷ [])))))) ≡ gives (number 8) 7
unfolding rules_computing
inserts = refl

finds : ended (ends lists (calls 3 (codes "index") (number 2 ∷ []))) ≡ gives (number 1) 2
unfolding rules_computing
finds = refl

removes : ended (ends lists (after (calls 3 (codes "remove") (boolean true ∷ [])) (special_call special.GetItem 3 (number 0 ∷ [])))) ≡ gives (number 2) 3
unfolding rules_computing
removes = refl

finds_none : ended (ends lists (calls 5 (codes "index") (number 2 ∷ []))) ≡ fails exception.ValueError (codes "not in list") 2
unfolding rules_computing
finds_none = refl

-- a list and another list: the sum, the length and each item, a unit each
adds : ended (ends lists (after (special_call special.Add 3 (own 4 ∷ [])) (special_call special.Len 6 []))) ≡ gives (number 4) 5
unfolding rules_computing
adds = refl

adds_tuple : ended (ends lists (special_call special.Add 3 (value.Plain (plain.Tuple []) ∷ []))) ≡ fails exception.TypeError (codes "unsupported operand") 1
unfolding rules_computing
adds_tuple = refl

multiplies : ended (ends lists (after (special_call special.Mul 3 (number 3 ∷ [])) (special_call special.Len 6 []))) ≡ gives (number 6) 2
unfolding rules_computing
multiplies = refl

multiplies_far : out_of_subset (ends lists (special_call special.Mul 3 (number 524289 ∷ []))) ≡ Some beyond.Size
unfolding rules_computing
multiplies_far = refl

-- a list gets its own items: it is drained first
extends_itself : ended (ends lists (after (special_call special.IAdd 3 (own 3 ∷ [])) (special_call special.Len 3 []))) ≡ gives (number 4) 6
unfolding rules_computing
extends_itself = refl

-- ---- dicts: cell 3 is empty

abbrev dicts : List Cell
dicts = cell.Namespace [] [] ∷ cell.Root ∷ cell.Dict [] 0 ∷ []

-- True and 1 are one key, the first spelling stays, and only the new key changes the shape; the iterator gives it
abbrev sets_twice : RuleTree
sets_twice = after (special_call special.SetItem 3 (boolean true ∷ text (codes "a") ∷ [])) (after (special_call special.SetItem 3 (number 1 ∷ text (codes "b") ∷ [])) (after (special_call special.Iter 3 []) (special_call special.Next 4 [])))

one_key : cells_behind (ends dicts sets_twice) ≡ cell.Namespace [] [] ∷ cell.Root ∷ cell.Dict ((plain.Bool true, text (codes "b")) ∷ []) 1 ∷ cell.Iter (Some (own 3)) 1 1 ∷ []
unfolding rules_computing
one_key = refl

gives_key : ended (ends dicts sets_twice) ≡ gives (boolean true) 4
unfolding rules_computing
gives_key = refl

ends_for_ever : ended (ends dicts (after sets_twice (after (special_call special.Next 4 []) (after (special_call special.DelItem 3 (number 1 ∷ [])) (special_call special.Next 4 []))))) ≡ Some (Raises (raised exception.StopIteration []), 7)
unfolding rules_computing
ends_for_ever = refl

sees_change : out_of_subset (ends dicts (after sets_twice (after (special_call special.DelItem 3 (number 1 ∷ [])) (special_call special.Next 4 [])))) ≡ Some beyond.Changed
unfolding rules_computing
sees_change = refl

missing : ended (ends dicts (calls 3 (codes "pop") (number 4 ∷ []))) ≡ Some (Raises (raised exception.KeyError (plain.Int (pos 4) ∷ [])), 2)
unfolding rules_computing
missing = refl

keeps : ended (ends dicts (after (calls 3 (codes "setdefault") (number 4 ∷ number 5 ∷ [])) (calls 3 (codes "get") (number 4 ∷ [])))) ≡ gives (number 5) 4
unfolding rules_computing
keeps = refl

no_key : out_of_subset (ends dicts (calls 3 (codes "get") (own 3 ∷ []))) ≡ Some beyond.Key
unfolding rules_computing
no_key = refl

shows_items : ended (ends dicts (after sets_twice (after (calls 3 (codes "items") []) (after (special_call special.Iter 6 []) (special_call special.Next 7 []))))) ≡ gives (value.Plain (plain.Tuple (plain.Bool true ∷ plain.Text (codes "b") ∷ []))) 8
unfolding rules_computing
shows_items = refl

-- ---- ranges: cell 3 is range(10, 0, -3)

abbrev ranges : List Cell
ranges = cell.Namespace [] [] ∷ cell.Root ∷ cell.Range (pos 10) (pos 0) (negsuc 2) ∷ []

counts : ended (ends ranges (special_call special.Len 3 [])) ≡ gives (number 4) 1
unfolding rules_computing
counts = refl

last : ended (ends ranges (special_call special.GetItem 3 (value.Plain (plain.Int (negsuc 0)) ∷ []))) ≡ gives (number 1) 1
unfolding rules_computing
last = refl

has : ended (ends ranges (special_call special.Contains 3 (number 4 ∷ []))) ≡ gives (boolean true) 1
unfolding rules_computing
has = refl

has_not : ended (ends ranges (special_call special.Contains 3 (number 5 ∷ []))) ≡ gives (boolean false) 1
unfolding rules_computing
has_not = refl

before : ended (ends ranges (special_call special.Contains 3 (number 13 ∷ []))) ≡ gives (boolean false) 1
unfolding rules_computing
before = refl

-- ---- classes: 5 is C, whose functions 3 and 4 give 5; 6 and 7 are instances, and 6 has an attribute of its own

abbrev names : List Binding
names = record { name = codes "__len__"; value = own 4 } ∷ record { name = codes "put"; value = own 4 } ∷ record { name = codes "n"; value = number 9 } ∷ []

abbrev classes : List Cell
classes = cell.Namespace [] [] ∷ cell.Root ∷ cell.Function 0 0 1 ∷ cell.Function 0 1 1 ∷ cell.Class (codes "C") None names ∷ cell.Instance 5 (record { name = codes "f"; value = own 3 } ∷ []) ∷ cell.Instance 5 [] ∷ []

-- the operation, the call, and the node of its body
length_by_method : ended (ends classes (special_call special.Len 6 [])) ≡ gives (number 5) 3
unfolding rules_computing
length_by_method = refl

truth_by_length : ended (ends classes (special_call special.Bool 6 [])) ≡ gives (boolean true) 3
unfolding rules_computing
truth_by_length = refl

-- a function of the class is bound; one of the instance is not, and a private name is none
bound_call : ended (ends classes (calls 6 (codes "put") [])) ≡ gives (number 5) 4
unfolding rules_computing
bound_call = refl

own_call : ended (ends classes (calls 6 (codes "f") [])) ≡ gives (number 5) 3
unfolding rules_computing
own_call = refl

private : ended (ends classes (asked (operation.GetAttr (own 6) (codes "__len__")))) ≡ fails exception.AttributeError (codes "__len__") 1
unfolding rules_computing
private = refl

called_by_name : ended (ends classes (Spend (AttributeCall (own 6) (codes "put") []) (λ a. Return a))) ≡ gives (number 5) 4
unfolding rules_computing
called_by_name = refl

deletes : ended (ends classes (after (asked (operation.DelAttr (own 6) (codes "f"))) (asked (operation.GetAttr (own 6) (codes "f"))))) ≡ fails exception.AttributeError (codes "f") 2
unfolding rules_computing
deletes = refl

-- `C(1)` without `__init__`
no_arguments : ended (ends classes (asked (operation.Call (own 5) (number 1 ∷ [])))) ≡ fails exception.TypeError (codes "wrong number of arguments") 1
unfolding rules_computing
no_arguments = refl

makes : ended (ends classes (asked (operation.Call (own 5) []))) ≡ gives (own 8) 1
unfolding rules_computing
makes = refl

-- the methods: own attributes, after those of the class; `n` is no function
abbrev shown : List ℕ → Plain
shown name = plain.Tuple (plain.Text name ∷ plain.None ∷ [])

inspects : ended (ends classes (Spend (Inspect 6) (λ a. Return a))) ≡ gives (value.Plain (plain.Tuple (shown (codes "f") ∷ shown (codes "__len__") ∷ shown (codes "put") ∷ []))) 1
unfolding rules_computing
inspects = refl

-- an own attribute that is no function hides the method of the class, and each name comes once
abbrev hiding : List Cell
hiding = cell.Namespace [] [] ∷ cell.Root ∷ cell.Function 0 0 1
    ∷ cell.Class (codes "C") None (record { name = codes "f"; value = own 3 } ∷ record { name = codes "g"; value = own 3 } ∷ [])
    ∷ cell.Instance 4 (record { name = codes "f"; value = number 1 } ∷ record { name = codes "h"; value = own 3 } ∷ record { name = codes "g"; value = own 3 } ∷ []) ∷ []

hidden : ended (ends hiding (Spend (Inspect 5) (λ a. Return a))) ≡ gives (value.Plain (plain.Tuple (shown (codes "h") ∷ shown (codes "g") ∷ []))) 1
unfolding rules_computing
hidden = refl

-- 6 is an instance of 5, whose methods are functions 3, which gives 5, and 4, which gives NotImplemented
abbrev methods : List ℕ → ℕ → List Cell
methods name function = cell.Namespace [] [] ∷ cell.Root ∷ cell.Function 0 1 1 ∷ cell.Function 1 1 1 ∷ cell.Class (codes "C") None (record { name = name; value = own function } ∷ []) ∷ cell.Instance 5 [] ∷ []

init_gives : ended (ends (methods (codes "__init__") 3) (asked (operation.Call (own 5) []))) ≡ fails exception.TypeError (codes "wrong result kind") 3
unfolding rules_computing
init_gives = refl

iter_gives : ended (ends (methods (codes "__iter__") 3) (special_call special.Iter 6 [])) ≡ fails exception.TypeError (codes "wrong result kind") 3
unfolding rules_computing
iter_gives = refl

bool_gives : ended (ends (methods (codes "__bool__") 3) (special_call special.Bool 6 [])) ≡ fails exception.TypeError (codes "wrong result kind") 3
unfolding rules_computing
bool_gives = refl

would_drain : out_of_subset (ends (methods (codes "__iter__") 3) (special_call special.Contains 6 (number 1 ∷ []))) ≡ Some beyond.Drain
unfolding rules_computing
would_drain = refl

would_index : out_of_subset (ends (methods (codes "__getitem__") 3) (special_call special.Iter 6 [])) ≡ Some beyond.Drain
unfolding rules_computing
would_index = refl

-- NotImplemented is an answer of `__neg__`
negates : ended (ends (methods (codes "__neg__") 4) (special_call special.Neg 6 [])) ≡ gives (value.Plain plain.NotImpl) 3
unfolding rules_computing
negates = refl

-- this class has a method with one parameter too few
too_few : ended (ends (methods (codes "__add__") 4) (special_call special.Add 6 (number 1 ∷ []))) ≡ fails exception.TypeError (codes "wrong number of arguments") 2
unfolding rules_computing
too_few = refl

-- ---- texts, byte strings and tuples: the text has two characters in three bytes

abbrev two_characters : Value
two_characters = text (97 ∷ 195 ∷ 169 ∷ [])

last_character : ended (ends dicts (item_of two_characters (value.Plain (plain.Int (negsuc 0))))) ≡ gives (text (195 ∷ 169 ∷ [])) 0
unfolding rules_computing
last_character = refl

characters : ended (ends dicts (length_of two_characters)) ≡ gives (number 2) 0
unfolding rules_computing
characters = refl

byte : ended (ends dicts (item_of (value.Plain (plain.Bytes (codes "ab"))) (boolean true))) ≡ gives (number 98) 0
unfolding rules_computing
byte = refl

outside : ended (ends dicts (item_of (value.Tuple (own 3 ∷ [])) (number 1))) ≡ fails exception.IndexError (codes "tuple index out of range") 0
unfolding rules_computing
outside = refl

contains : ended (ends dicts (contains_in (text (codes "hello")) (text (codes "ell")))) ≡ gives (boolean true) 0
unfolding rules_computing
contains = refl

-- a new iterator over a tuple with a reference, at the cost of an operation
goes_over : ended (ends dicts (after (asked (operation.Special (value.Tuple (number 1 ∷ own 3 ∷ [])) special.Iter [])) (after (special_call special.Next 4 []) (special_call special.Next 4 [])))) ≡ gives (own 3) 3
unfolding rules_computing
goes_over = refl

-- ---- views: 4 shows the items of 3

abbrev views : List Cell
views = cell.Namespace [] [] ∷ cell.Root ∷ cell.Dict ((plain.Int (pos 1), own 1) ∷ []) 4 ∷ cell.View 3 view.Items ∷ cell.List [] ∷ []

less_keys : out_of_subset (ends views (special_call special.Sub 5 (own 4 ∷ []))) ≡ Some beyond.Operator
unfolding rules_computing
less_keys = refl

gives_item : ended (ends views (after (special_call special.Iter 4 []) (special_call special.Next 6 []))) ≡ gives (value.Tuple (number 1 ∷ own 1 ∷ [])) 2
unfolding rules_computing
gives_item = refl

-- ---- the root, the namespace, and a module's cell 3

abbrev served : List Cell
served = cell.Namespace (record { name = codes "x"; value = number 1 } ∷ []) (codes "e" ∷ []) ∷ cell.Root ∷ cell.Host 0 ∷ []

root : ended (ends served (after (calls 2 (codes "eval") (text (codes "5") ∷ [])) (calls 2 (codes "eval") (text (codes "5") ∷ [])))) ≡ gives (number 5) 6
unfolding rules_computing
root = refl

refused : out_of_subset (ends served (calls 2 (codes "eval") (text (codes "5 5") ∷ []))) ≡ Some beyond.Text
unfolding rules_computing
refused = refl

no_text : ended (ends served (calls 2 (codes "eval") [])) ≡ fails exception.TypeError (codes "text expected") 2
unfolding rules_computing
no_text = refl

module_cell : ended (ends served (special_call special.GetModule 2 (text (codes "counter") ∷ []))) ≡ gives (own 3) 1
unfolding rules_computing
module_cell = refl

no_module : ended (ends served (special_call special.GetModule 2 (text (codes "clock") ∷ []))) ≡ fails exception.ModuleNotFoundError (codes "clock") 1
unfolding rules_computing
no_module = refl

module_call : ended (ends served (calls 3 (codes "next") [])) ≡ gives (number 7) 2
unfolding rules_computing
module_call = refl

no_payload : out_of_subset (ends served (calls 3 (codes "next") (own 1 ∷ []))) ≡ Some beyond.Payload
unfolding rules_computing
no_payload = refl

no_function : ended (ends served (asked (operation.GetAttr (own 3) (codes "value")))) ≡ fails exception.AttributeError (codes "value") 1
unfolding rules_computing
no_function = refl

name : ended (ends served (special_call special.GetItem 1 (text (codes "x") ∷ []))) ≡ gives (number 1) 1
unfolding rules_computing
name = refl

no_name : ended (ends served (special_call special.GetItem 1 (text (codes "len") ∷ []))) ≡ Some (Raises (raised exception.KeyError (plain.Text (codes "len") ∷ [])), 1)
unfolding rules_computing
no_name = refl

reserved : out_of_subset (ends served (special_call special.GetItem 1 (text (codes "e") ∷ []))) ≡ Some beyond.Name
unfolding rules_computing
reserved = refl

builtin : out_of_subset (ends served (special_call special.SetItem 1 (text (codes "len") ∷ number 1 ∷ []))) ≡ Some beyond.Name
unfolding rules_computing
builtin = refl

no_text_key : out_of_subset (ends served (special_call special.Contains 1 (number 1 ∷ []))) ≡ Some beyond.Namespace
unfolding rules_computing
no_text_key = refl
