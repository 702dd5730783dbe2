-- The parts of a node, in written order, with what each is to the node and the construct that the node opens around it.
use Rattle.std.specs.Prelude.{ℕ, Bool, true, false, ◌==◌, ◌&&◌, List, [], ◌∷◌, ◌++◌, map, length, codes, Option, Some, None, slice_get, if◌then◌else◌}
use Rattle.std.specs.Str.{bytes_eq}
use Rattle.py_ast.specs.declared.builtin.Builtin.TheVariants as builtin
use Rattle.py_ast.specs.declared.expression.Link.{Link}
use Rattle.py_ast.specs.declared.expression.Expression.{Expression}
use Rattle.py_ast.specs.declared.expression.Expression.TheVariants as expression
use Rattle.py_ast.specs.declared.target.Target.{Target}
use Rattle.py_ast.specs.declared.target.Target.TheVariants as target
use Rattle.py_ast.specs.declared.statement.Statement.{Statement}
use Rattle.py_ast.specs.declared.statement.Statement.TheVariants as statement
use Rattle.py_ast.specs.declared.node.Node.{Node}
use Rattle.py_ast.specs.declared.node.Node.TheVariants as node
use Rattle.py_ast.specs.declared.program.FunctionInfo.{FunctionInfo}
use Rattle.py_ast.specs.declared.program.Program.{Program}
use Rattle.py_mentions.specs.declared.place.Construct.{Construct}
use Rattle.py_mentions.specs.declared.place.Construct.TheVariants as construct
use Rattle.py_mentions.specs.declared.place.Role.{Role}
use Rattle.py_mentions.specs.declared.place.Role.TheVariants as role
use Rattle.py_mentions.specs.declared.place.Part.{Part}

abbrev pub part : Role → ℕ → Part
part r n = record { number = n; role = r; around = None }

abbrev pub part_in : Construct → Role → ℕ → Part
part_in c r n = record { number = n; role = r; around = Some c }

abbrev pub plain_parts : List ℕ → List Part
plain_parts ns = map (part role.Plain) ns

-- the body of a function, which opens it
abbrev pub body_of : ℕ → Option FunctionInfo → List Part
body_of f None = []
body_of f (Some info) = part_in (construct.Function f) role.Plain info.body ∷ []

-- a part that may be missing
abbrev pub maybe : (ℕ → Part) → Option ℕ → List Part
maybe make None = []
maybe make (Some n) = make n ∷ []

-- ---- expressions

-- `str` and `repr`
abbrev pub shows : Option Node → Bool
shows (Some (node.Expression (expression.Builtin builtin.Str))) = true
shows (Some (node.Expression (expression.Builtin builtin.Repr))) = true
shows _ = false

abbrev pub argument_role : Option Node → ℕ → Role
argument_role callee count = if shows callee && (count == 1) then role.Shown else role.Plain

abbrev pub receiver_role : List ℕ → Role
receiver_role name = if bytes_eq name (codes "args") then role.ArgsOf else role.Plain

abbrev pub right_of : Link → ℕ
right_of l = l.right

abbrev pub expression_parts : Program → Expression → List Part
expression_parts p (expression.Name t) = []
expression_parts p (expression.Builtin b) = []
expression_parts p (expression.Constant v) = []
expression_parts p (expression.Tuple ns) = plain_parts ns
expression_parts p (expression.List ns) = plain_parts ns
expression_parts p (expression.Dict ns) = plain_parts ns
expression_parts p (expression.Lambda f) = body_of f (slice_get p.functions f)
expression_parts p (expression.Conditional a b c) = plain_parts (a ∷ b ∷ c ∷ [])
expression_parts p (expression.Or ns) = plain_parts ns
expression_parts p (expression.And ns) = plain_parts ns
expression_parts p (expression.Compare n ls) = part role.Plain n ∷ plain_parts (map right_of ls)
expression_parts p (expression.Not n) = plain_parts (n ∷ [])
expression_parts p (expression.Unary op n) = plain_parts (n ∷ [])
expression_parts p (expression.Binary op a b) = plain_parts (a ∷ b ∷ [])
expression_parts p (expression.Attribute n t) = part (receiver_role t) n ∷ []
expression_parts p (expression.Item a b) = plain_parts (a ∷ b ∷ [])
expression_parts p (expression.Call f ns) = part (role.Called (length ns)) f ∷ map (part (argument_role (slice_get p.nodes f) (length ns))) ns

-- ---- targets

abbrev pub target_parts : Target → List Part
target_parts (target.Name t) = []
target_parts (target.Attribute n t) = plain_parts (n ∷ [])
target_parts (target.Item a b) = plain_parts (a ∷ b ∷ [])
target_parts (target.Tuple ns) = plain_parts ns

-- ---- statements

-- the handlers of a `try`: the last may be bare
abbrev pub handler_parts : List ℕ → List Part
handler_parts [] = []
handler_parts (n ∷ []) = part role.Plain n ∷ []
handler_parts (n ∷ m ∷ ns) = part role.EarlierHandler n ∷ handler_parts (m ∷ ns)

-- a target or statement of what this is
abbrev pub target_role : Role → Role
target_role role.InClass = role.Member
target_role _ = role.Plain

abbrev pub statement_role : Role → Role
statement_role role.Whole = role.AtTop
statement_role role.ClassBody = role.InClass
statement_role _ = role.Plain

abbrev pub flow_parts : Statement → List Part
flow_parts (statement.If e s other) = part role.Plain e ∷ part role.Plain s ∷ maybe (part role.Plain) other
flow_parts (statement.While e s) = part role.Plain e ∷ part_in construct.Loop role.Plain s ∷ []
flow_parts (statement.For t e s) = part role.Plain t ∷ part role.Plain e ∷ part_in construct.Loop role.Plain s ∷ []
flow_parts _ = []

abbrev pub compound_parts : Program → ℕ → Statement → List Part
compound_parts p n (statement.Try s hs final) = part role.Plain s ∷ handler_parts hs ++ maybe (part_in construct.Finally role.Plain) final
compound_parts p n (statement.Except kinds name s) = part_in (construct.Handler n) role.Plain s ∷ []
compound_parts p n (statement.Def f) = body_of f (slice_get p.functions f)
compound_parts p n (statement.Class name base s) = part_in (construct.Class s) role.ClassBody s ∷ []
compound_parts p n s = flow_parts s

abbrev pub statement_parts : Program → Role → ℕ → Statement → List Part
statement_parts p r n (statement.Alone e) = plain_parts (e ∷ [])
statement_parts p r n (statement.Assign t e) = part (target_role r) t ∷ part role.Plain e ∷ []
statement_parts p r n (statement.Augmented t op e) = plain_parts (t ∷ e ∷ [])
statement_parts p r n (statement.Return e) = maybe (part role.Plain) e
statement_parts p r n (statement.RaiseCall name es) = plain_parts es
statement_parts p r n (statement.Delete t) = plain_parts (t ∷ [])
statement_parts p r n (statement.Suite ss) = map (part (statement_role r)) ss
statement_parts p r n s = compound_parts p n s

abbrev pub node_parts : Program → Role → ℕ → Option Node → List Part
node_parts p r n (Some (node.Expression e)) = expression_parts p e
node_parts p r n (Some (node.Target t)) = target_parts t
node_parts p r n (Some (node.Statement s)) = statement_parts p r n s
node_parts p r n None = []

-- the parts of the node of this number, which is this to the node around it
unfoldable pub parts : Program → Role → ℕ → List Part
parts p r n = node_parts p r n (slice_get p.nodes n)
