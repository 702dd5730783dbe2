-- What the constructs around a place allow there. They come from the outermost in.
use Rattle.std.specs.Prelude.{ℕ, Bool, true, false, ◌||◌, List, [], ◌∷◌, Option, Some, None, slice_get}
use Rattle.std.specs.Str.{bytes_eq}
use Rattle.py_ast.specs.declared.name.Name.{Name}
use Rattle.py_ast.specs.declared.node.Node.{Node}
use Rattle.py_ast.specs.declared.node.Node.TheVariants as node
use Rattle.py_ast.specs.declared.statement.Statement.TheVariants as statement
use Rattle.py_ast.specs.declared.program.Program.{Program}
use Rattle.py_mentions.specs.declared.place.Construct.{Construct}
use Rattle.py_mentions.specs.declared.place.Construct.TheVariants as construct

-- the innermost function, where the functions further out give f
abbrev pub function_within : Option ℕ → List Construct → Option ℕ
function_within f [] = f
function_within f (construct.Function g ∷ cs) = function_within (Some g) cs
function_within f (_ ∷ cs) = function_within f cs

-- the innermost function around a place
abbrev pub function_at : List Construct → Option ℕ
function_at cs = function_within None cs

-- the class body whose names a place sees: a function hides it
abbrev pub class_within : Option ℕ → List Construct → Option ℕ
class_within c [] = c
class_within c (construct.Function g ∷ cs) = class_within None cs
class_within c (construct.Class d ∷ cs) = class_within (Some d) cs
class_within c (_ ∷ cs) = class_within c cs

abbrev pub class_at : List Construct → Option ℕ
class_at cs = class_within None cs

-- a `return` may stand in a function, and not in a `finally` or a class body of that function
abbrev pub may_return_within : Bool → List Construct → Bool
may_return_within b [] = b
may_return_within b (construct.Function g ∷ cs) = may_return_within true cs
may_return_within b (construct.Class d ∷ cs) = may_return_within false cs
may_return_within b (construct.Finally ∷ cs) = may_return_within false cs
may_return_within b (_ ∷ cs) = may_return_within b cs

abbrev pub may_return : List Construct → Bool
may_return cs = may_return_within false cs

-- a `break` or `continue` may stand in a loop, with no function, class body or `finally` in between
abbrev pub may_break_within : Bool → List Construct → Bool
may_break_within b [] = b
may_break_within b (construct.Loop ∷ cs) = may_break_within true cs
may_break_within b (construct.Handler h ∷ cs) = may_break_within b cs
may_break_within b (_ ∷ cs) = may_break_within false cs

abbrev pub may_break : List Construct → Bool
may_break cs = may_break_within false cs

-- a bare `raise` may stand in a handler, with no function in between
abbrev pub may_raise_within : Bool → List Construct → Bool
may_raise_within b [] = b
may_raise_within b (construct.Handler h ∷ cs) = may_raise_within true cs
may_raise_within b (construct.Function g ∷ cs) = may_raise_within false cs
may_raise_within b (_ ∷ cs) = may_raise_within b cs

abbrev pub may_raise : List Construct → Bool
may_raise cs = may_raise_within false cs

-- the node is a handler that binds this name
abbrev pub names_it : List ℕ → Option Name → Bool
names_it t None = false
names_it t (Some n) = bytes_eq t n.text

abbrev pub catches : List ℕ → Option Node → Bool
catches t (Some (node.Statement (statement.Except kinds name body))) = names_it t name
catches t _ = false

-- a handler of this name stands around, with no function in between
abbrev pub is_caught_within : Program → List ℕ → Bool → List Construct → Bool
is_caught_within p t b [] = b
is_caught_within p t b (construct.Handler h ∷ cs) = is_caught_within p t (catches t (slice_get p.nodes h) || b) cs
is_caught_within p t b (construct.Function g ∷ cs) = is_caught_within p t false cs
is_caught_within p t b (_ ∷ cs) = is_caught_within p t b cs

abbrev pub is_caught : Program → List ℕ → List Construct → Bool
is_caught p t cs = is_caught_within p t false cs
