-- What a frame makes of the end that it waits for, and what a whole stack does next.
use Rattle.std.specs.Prelude.{◌≡◌, ◌+◌, ◌*◌, ◌≤◌, ℕ, Bool, true, false, not, List, [], ◌∷◌, ◌++◌, length, reverse, Some, if◌then◌else◌}
use Rattle.rp_base.specs.Values.{tuple_of}
use Rattle.rp_base.specs.declared.value.Value.{Value}
use Rattle.py_ast.specs.declared.program.Program.{Program}
use Rattle.py_store.specs.declared.cell.Cell.{Cell}
use Rattle.py_store.specs.declared.cell.Cell.TheVariants as cell
use Rattle.object_operations.specs.declared.operation.Operation.{Operation}
use Rattle.object_operations.specs.declared.operation.Operation.TheVariants as operation
use Rattle.side_trees.specs.Trees.{Return, Stop, Spend, Do, Ask, bind}
use Rattle.language_rules.specs.Answers.{asked, tuple_answers, evaluated, gives}
use Rattle.language_rules.specs.Beginnings.{while_begins}
use Rattle.language_rules.specs.Builtins.{builtin_rule}
use Rattle.language_rules.specs.Chains.{or_from, and_from, links_rule, links_from}
use Rattle.language_rules.specs.Codes.{Completion, Env, Gives, Member, Node, Perform, Give, Returns, Step}
use Rattle.language_rules.specs.Comparing.{found_step}
use Rattle.language_rules.specs.Displays.{entries_with, new_dict, new_list}
use Rattle.language_rules.specs.Functions.{returned}
use Rattle.language_rules.specs.Going.{RuleTree, boolean, carry, done, evaluates, evaluates_behind, executes_all, gives_new, on_value, operates, sets_cell}
use Rattle.language_rules.specs.Loops.{next_turn}
use Rattle.language_rules.specs.Names.{binds_name}
use Rattle.language_rules.specs.Operators.{unary_rule, binary_rule, augmented_rule}
use Rattle.language_rules.specs.Output.{prints}
use Rattle.language_rules.specs.PlainItems.{item_of}
use Rattle.language_rules.specs.Running.{runs}
use Rattle.language_rules.specs.Raising.{raise_with}
use Rattle.language_rules.specs.Searching.{search_tuple_step}
use Rattle.language_rules.specs.States.{Handling, MadeClass, State}
use Rattle.language_rules.specs.Statements.{otherwise_rule}
use Rattle.language_rules.specs.Targets.{assigns}
use Rattle.language_rules.specs.Texts.{executes_suite}
use Rattle.language_rules.specs.Truth.{and_bool, on_bool, on_truth, tells}
use Rattle.eval_frames.specs.declared.frame.Decision.{Decision}
use Rattle.eval_frames.specs.declared.frame.Decision.TheVariants as decision
use Rattle.eval_frames.specs.declared.frame.ExpressionFrame.{ExpressionFrame}
use Rattle.eval_frames.specs.declared.frame.ExpressionFrame.TheVariants as expression_frame
use Rattle.eval_frames.specs.declared.frame.Frame.{Frame}
use Rattle.eval_frames.specs.declared.frame.Frame.TheVariants as frame
use Rattle.eval_frames.specs.declared.frame.Gathering.{Gathering}
use Rattle.eval_frames.specs.declared.frame.Gathering.TheVariants as gathering
use Rattle.eval_frames.specs.declared.frame.TestLevel.{TestLevel}
use Rattle.eval_frames.specs.declared.frame.TestLevel.TheVariants as test_level
use Rattle.eval_frames.specs.declared.frame.ValuePair.{ValuePair}
use Rattle.eval_frames.specs.ClassFrames.{through_class}
use Rattle.eval_frames.specs.HandlerFrames.{through_handler}
use Rattle.eval_frames.specs.ListFrames.{through_addition, through_equality, through_search, through_text}
use Rattle.eval_frames.specs.LoopFrames.{through_drain, through_for}
use Rattle.eval_frames.specs.MethodFrames.{through_method}
use Rattle.eval_frames.specs.ObjectFrames.{through_comparison, through_operation, through_printing}
use Rattle.eval_frames.specs.TargetFrames.{through_target}
use Rattle.eval_frames.specs.declared.frame.StatementFrame.{StatementFrame}
use Rattle.eval_frames.specs.declared.frame.StatementFrame.TheVariants as statement_frame
use Rattle.eval_frames.specs.declared.next.Next.{Next}
use Rattle.eval_frames.specs.declared.next.Next.TheVariants as next

-- ---- frames

-- whether the values of each pair are one object or equal, in turn, up to the first pair that are not
abbrev pub equal_pairs_step : List ValuePair → Step
equal_pairs_step [] = tells true
equal_pairs_step (p ∷ ps) = and_bool (found_step p.left p.right) (λ b. elim b [ true ↦ equal_pairs_step ps | false ↦ tells false ])

-- what a level tells behind an answer that is true or not
abbrev pub level_step : TestLevel → Bool → Step
level_step (test_level.Pairs waiting) b = elim b [ true ↦ equal_pairs_step (reverse waiting) | false ↦ tells false ]
level_step (test_level.Search wanted waiting) b = elim b [ true ↦ tells true | false ↦ search_tuple_step (reverse waiting) wanted ]

-- the truth of an answer goes to a level, and the truth of what that tells to the level around it, the innermost first
abbrev pub test_levels : List TestLevel → Completion → RuleTree
test_levels [] a = Return a
test_levels (l ∷ ls) a = bind (on_value (λ v. on_truth v (λ b. carry (level_step l b))) a) (test_levels ls)

-- what is done by the truth of a value
abbrev pub decides : Decision → Value → Bool → RuleTree
decides (decision.Or env n waiting) v holds = if holds then gives v else or_from env n (reverse waiting)
decides (decision.And env n waiting) v holds = if holds then and_from env n (reverse waiting) else gives v
decides decision.Not v holds = gives (boolean (not holds))
decides (decision.Conditional env first last) v holds = if holds then evaluated env first else evaluated env last
decides (decision.Link env left l waiting) v holds = if holds then evaluates env l.right (λ d. links_from env (reverse waiting) l.comparison left d) else gives v
decides (decision.If env body otherwise) v holds = if holds then executes_suite env body else otherwise_rule env otherwise
decides (decision.While env test body) v holds = if holds then bind (executes_suite env body) (next_turn (while_begins env test body)) else Return done
decides decision.Bool v holds = gives (boolean holds)
decides (decision.Levels levels) v holds = test_levels (reverse levels) (Gives (boolean holds))

-- what is made of values
abbrev pub gathers : Gathering → List Value → RuleTree
gathers gathering.Tuple vs = tuple_answers (tuple_of vs)
gathers (gathering.Builtin function) vs = builtin_rule function vs
gathers gathering.List vs = new_list vs
gathers gathering.Dict vs = new_dict (entries_with [] vs)
gathers (gathering.Raise kind) vs = raise_with (Some kind) vs

-- a call of what is called, with its arguments
abbrev pub calls : Value → List Value → RuleTree
calls callee arguments = asked (operation.Call callee arguments)

-- what waits for a value, with that value
abbrev pub through_expression : ExpressionFrame → Value → RuleTree
through_expression (expression_frame.Operands env what values waiting) v = evaluates_behind env (values ++ v ∷ []) (reverse waiting) (gathers what)
through_expression (expression_frame.Unary o) v = unary_rule o v
through_expression (expression_frame.BinaryLeft env o right) a = evaluates env right (λ b. binary_rule o a b)
through_expression (expression_frame.BinaryRight o a) b = binary_rule o a b
through_expression (expression_frame.ItemReceiver env key) v = evaluates env key (λ k. item_of v k)
through_expression (expression_frame.ItemKey v) k = item_of v k
through_expression (expression_frame.ChainFirst env waiting) a = links_rule env a (reverse waiting)
through_expression (expression_frame.ChainRight env a comparison waiting) b = links_from env (reverse waiting) comparison a b
through_expression (expression_frame.Callee env waiting) callee = evaluates_behind env [] (reverse waiting) (calls callee)
through_expression (expression_frame.Arguments env callee values waiting) v = evaluates_behind env (values ++ v ∷ []) (reverse waiting) (calls callee)
through_expression (expression_frame.Attribute name) v = asked (operation.GetAttr v name)

abbrev pub through_statement : StatementFrame → Value → RuleTree
through_statement statement_frame.Alone v = Return done
through_statement (statement_frame.Suite env waiting) v = executes_all env (reverse waiting)
through_statement (statement_frame.Assign env target) v = assigns env target v
through_statement (statement_frame.AugmentName env o name old) v = bind (augmented_rule o old v) (on_value (λ w. binds_name env name w (Return done)))
through_statement (statement_frame.BindName env name) v = binds_name env name v (Return done)
through_statement statement_frame.Return v = Return (Returns v)

-- what waits, with the end that it waits for: an exception, and any end that leaves more, passes what waits for a value
abbrev pub resume : Frame → Completion → RuleTree
resume (frame.Expression f) a = on_value (through_expression f) a
resume (frame.Statement f) a = on_value (through_statement f) a
resume (frame.Handler f) a = through_handler f a
resume (frame.Operation f) a = through_operation f a
resume (frame.Comparison f) a = through_comparison f a
resume (frame.Printing f) a = through_printing f a
resume (frame.Target f) a = on_value (through_target f) a
resume (frame.For f) a = through_for f a
resume (frame.Drain f) a = through_drain f a
resume (frame.Search f) a = through_search f a
resume (frame.Equality f) a = through_equality f a
resume (frame.Addition f) a = through_addition f a
resume (frame.Text f) a = through_text f a
resume (frame.Method f) a = on_value (through_method f) a
resume (frame.Class f) a = on_value (through_class f) a
resume (frame.Test d) a = on_value (λ v. on_truth v (decides d v)) a
resume (frame.Truth d v) a = on_bool (decides d v) a
resume (frame.While env test body) a = next_turn (while_begins env test body) a
resume frame.Call a = Return (returned a)
resume (frame.EmptiedCall scope parent) a = sets_cell scope (cell.Scope [] parent) (Return (returned a))

-- ---- stacks

-- all that waits, the innermost first, with an end
abbrev pub rest : List Frame → Completion → RuleTree
rest [] a = Return a
rest (f ∷ fs) a = bind (resume f a) (rest fs)

-- What comes next over a stack, whose innermost frame is the last.
abbrev pub meant : List Frame → Next → RuleTree
meant fs (next.Enter env n) = Spend (Node env n) (rest (reverse fs))
meant fs (next.Member env n) = Spend (Member env n) (rest (reverse fs))
meant fs (next.Perform o) = Do (Perform o) (λ a. Give a) (rest (reverse fs))
meant fs (next.Give a) = rest (reverse fs) a
meant fs (next.Print vs) = bind (prints vs) (rest (reverse fs))
meant fs (next.Ask o) = Ask o (λ a. Give a) (rest (reverse fs))
meant fs (next.Make c) = bind (gives_new c) (rest (reverse fs))
meant fs next.HandlerName = Spend (Give done) (rest (reverse fs))
meant fs (next.Leave b) = Stop b

-- a node that begins, whose end goes to a frame over what waits
abbrev pub enters_over : Env → ℕ → Frame → List Frame → RuleTree
enters_over env n f fs = Spend (Node env n) (λ a. bind (resume f a) (rest (reverse fs)))

-- What comes next over the new stack is this computation, and then what waited before.
abbrev pub Means : List Frame → Next → RuleTree → List Frame → Type 0
Means now n t before = meant now n ≡ bind t (rest (reverse before))

-- the same in a state: no run tells them apart
abbrev pub RunsAs : State → RuleTree → RuleTree → Type 0
RunsAs s t t' = (units : ℕ) (printed : List ℕ) → runs units t s printed ≡ runs units t' s printed

abbrev pub MeansIn : State → List Frame → Next → RuleTree → List Frame → Type 0
MeansIn s now n t before = RunsAs s (bind t (rest (reverse before))) (meant now n)

-- What comes next over the new stack, in the state after, is this computation in the state before, and then what waited: no run tells them apart.
abbrev pub MeansOver : State → State → List Frame → Next → RuleTree → List Frame → Type 0
MeansOver s s' now n t before = (units : ℕ) (printed : List ℕ) → runs units (bind t (rest (reverse before))) s printed ≡ runs units (meant now n) s' printed

-- ---- states

-- the exceptions that are being handled, whose innermost is the last
abbrev pub handling_in : State → List Program → List Handling → State
handling_in s texts handled = record s { texts = texts; handled = reverse handled }

-- the state with these cells and texts, and with these exceptions being handled
abbrev pub situated : State → List Cell → List Program → List Handling → State
situated s cells texts handled = record s { cells = cells; texts = texts; handled = reverse handled }

-- the state with these cells and texts, and with these classes that class statements made, of which the newest is the last
abbrev pub classed : State → List Cell → List Program → List MadeClass → State
classed s cells texts classes = record s { cells = cells; texts = texts; classes = reverse classes }

-- ---- operations

-- an operation, whose answer goes to a frame over what waits
abbrev pub operates_over : Operation → Frame → RuleTree
operates_over o f = operates o (λ a. Give a) (resume f)

-- the test of a `while`, with the frame that waits for its value
abbrev pub tests : Env → ℕ → ℕ → (Completion → RuleTree) → RuleTree
tests env test body k = Spend (Node env test) (λ a. bind (resume (frame.Test (decision.While env test body)) a) k)

-- ---- progress

-- what is still to be done before a unit is due
abbrev pub due : Next → ℕ
due (next.Give a) = 10
due (next.Print vs) = 11
due (next.Make c) = 11
due _ = 0

abbrev pub load : List Frame → Next → ℕ
load fs n = 3 * length fs + due n

-- Over a stack from which a frame was taken, or at a node that begins, little is added.
abbrev pub IsLight : List Frame → Next → List Frame → Type 0
IsLight now n before = load now n ≤ 3 * length before + 12
