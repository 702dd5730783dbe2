-- The names that a node itself mentions, in written order.
use Rattle.std.specs.Prelude.{ℕ, false, List, [], ◌∷◌, ◌++◌, map, length, Option, Some, None, slice_get}
use Rattle.py_ast.specs.Builtins.{builtin_name}
use Rattle.py_ast.specs.declared.name.Name.{Name}
use Rattle.py_ast.specs.declared.expression.Expression.{Expression}
use Rattle.py_ast.specs.declared.expression.Expression.TheVariants as expression
use Rattle.py_ast.specs.declared.target.Target.{Target}
use Rattle.py_ast.specs.declared.target.Target.TheVariants as target
use Rattle.py_ast.specs.declared.statement.Statement.{Statement}
use Rattle.py_ast.specs.declared.statement.Statement.TheVariants as statement
use Rattle.py_ast.specs.declared.node.Node.{Node}
use Rattle.py_ast.specs.declared.node.Node.TheVariants as node
use Rattle.py_ast.specs.declared.program.FunctionInfo.{FunctionInfo}
use Rattle.py_ast.specs.declared.program.Program.{Program}
use Rattle.py_mentions.specs.declared.mention.Form.{Form}
use Rattle.py_mentions.specs.declared.mention.Form.TheVariants as form
use Rattle.py_mentions.specs.declared.mention.Mention.{Mention}
use Rattle.py_mentions.specs.declared.place.Construct.{Construct}
use Rattle.py_mentions.specs.declared.place.Role.{Role}
use Rattle.py_mentions.specs.declared.place.Role.TheVariants as role
use Rattle.py_mentions.specs.Surroundings.{class_at, function_at, is_caught}

-- a mention in this function, of this class, which is no guarded use of a handler's name
abbrev pub class_mention : Option ℕ → Option ℕ → Form → ℕ → List ℕ → Mention
class_mention f c how l t = record { name = t; line = l; function = f; form = how; is_guarded = false; class = c }

abbrev pub mention : Option ℕ → Form → ℕ → List ℕ → Mention
mention f how l t = class_mention f None how l t

abbrev pub mention_of : Option ℕ → Form → Name → Mention
mention_of f how n = mention f how n.line n.text

-- a use that is guarded where a handler of its name stands around
abbrev pub guarded_use : Program → List Construct → Form → ℕ → List ℕ → Mention
guarded_use p cs how l t = record { name = t; line = l; function = function_at cs; form = how; is_guarded = is_caught p t cs; class = None }

abbrev pub line_or : Option ℕ → ℕ
line_or None = 0
line_or (Some l) = l

-- the line of a node
abbrev pub line_of : Program → ℕ → ℕ
line_of p n = line_or (slice_get p.lines n)

-- the parameters of a function stand in it
abbrev pub parameter_mentions : ℕ → List Name → List Mention
parameter_mentions f ns = map (mention_of (Some f) form.Parameter) ns

abbrev pub lambda_mentions : ℕ → Option FunctionInfo → List Mention
lambda_mentions f None = []
lambda_mentions f (Some info) = parameter_mentions f info.parameters

-- ---- expressions and targets

abbrev pub read : Program → List Construct → Role → ℕ → List ℕ → Mention
read p cs role.Shown l t = guarded_use p cs form.Read l t
read p cs role.ArgsOf l t = guarded_use p cs form.Read l t
read p cs _ l t = mention (function_at cs) form.Read l t

abbrev pub expression_mentions : Program → List Construct → Role → ℕ → Expression → List Mention
expression_mentions p cs r l (expression.Name t) = read p cs r l t ∷ []
expression_mentions p cs r l (expression.Builtin b) = mention (function_at cs) form.Read l (builtin_name b) ∷ []
expression_mentions p cs r l (expression.Attribute n t) = mention (function_at cs) form.Attribute l t ∷ []
expression_mentions p cs r l (expression.Lambda f) = lambda_mentions f (slice_get p.functions f)
expression_mentions p cs r l _ = []

-- a name that is bound, by a class body or otherwise
abbrev pub bound : List Construct → Role → ℕ → List ℕ → Mention
bound cs role.Member l t = class_mention (function_at cs) (class_at cs) form.Member l t
bound cs _ l t = mention (function_at cs) form.Target l t

abbrev pub target_mentions : List Construct → Role → ℕ → Target → List Mention
target_mentions cs r l (target.Name t) = bound cs r l t ∷ []
target_mentions cs r l (target.Attribute n t) = mention (function_at cs) form.Attribute l t ∷ []
target_mentions cs r l _ = []

-- ---- functions and statements

-- the name of a `def`, of a method with so many parameters or not
abbrev pub defined : List Construct → Role → ℕ → ℕ → List ℕ → Mention
defined cs role.InClass count l t = class_mention (function_at cs) (class_at cs) (form.Method count) l t
defined cs _ count l t = mention (function_at cs) form.Function l t

-- a `def` mentions its name, then its parameters
abbrev pub def_mentions : List Construct → Role → ℕ → ℕ → Option FunctionInfo → List Mention
def_mentions cs r l f None = []
def_mentions cs r l f (Some info) = defined cs r (length info.parameters) l info.name ∷ parameter_mentions f info.parameters

abbrev pub maybe_mention : Option ℕ → Option ℕ → Form → Option Name → List Mention
maybe_mention f c how None = []
maybe_mention f c how (Some n) = class_mention f c how n.line n.text ∷ []

-- a handler mentions its kinds, then its name; a class its name, then its base
abbrev pub compound_mentions : Option ℕ → Statement → List Mention
compound_mentions f (statement.Except kinds name s) = map (mention_of f form.Exception) kinds ++ maybe_mention f None form.Caught name
compound_mentions f (statement.Class name base s) = class_mention f (Some s) form.Class name.line name.text ∷ maybe_mention f (Some s) form.Base base
compound_mentions f _ = []

abbrev pub statement_mentions : Program → List Construct → Role → ℕ → Statement → List Mention
statement_mentions p cs r l (statement.RaiseName n) = guarded_use p cs form.Raised n.line n.text ∷ []
statement_mentions p cs r l (statement.RaiseCall n es) = mention_of (function_at cs) form.Raised n ∷ []
statement_mentions p cs r l (statement.Global ns) = map (mention_of (function_at cs) form.Global) ns
statement_mentions p cs r l (statement.Nonlocal ns) = map (mention_of (function_at cs) form.Nonlocal) ns
statement_mentions p cs r l (statement.Def f) = def_mentions cs r l f (slice_get p.functions f)
statement_mentions p cs r l s = compound_mentions (function_at cs) s

abbrev pub node_mentions : Program → List Construct → Role → ℕ → Option Node → List Mention
node_mentions p cs r l (Some (node.Expression e)) = expression_mentions p cs r l e
node_mentions p cs r l (Some (node.Target t)) = target_mentions cs r l t
node_mentions p cs r l (Some (node.Statement s)) = statement_mentions p cs r l s
node_mentions p cs r l None = []

-- what the node of this number mentions, within these constructs
unfoldable pub mentions_at : Program → List Construct → Role → ℕ → List Mention
mentions_at p cs r n = node_mentions p cs r (line_of p n) (slice_get p.nodes n)
