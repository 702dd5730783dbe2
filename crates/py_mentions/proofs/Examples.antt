-- Worked examples, by hand from the Python Language Reference: what a script mentions, and what it breaks.
use Rattle.std.specs.Prelude.{◌≡◌, refl, ℕ, List, [], ◌∷◌, codes, Some, None, false, true}
use Rattle.rp_base.specs.declared.rules.Rule.{Rule}
use Rattle.rp_base.specs.declared.rules.Rule.TheVariants as rule
use Rattle.rp_base.specs.declared.rules.Refused.{Refused}
use Rattle.py_ast.specs.declared.builtin.Builtin.TheVariants as builtin
use Rattle.py_ast.specs.declared.expression.Expression.{Expression}
use Rattle.py_ast.specs.declared.expression.Expression.TheVariants as expression
use Rattle.py_ast.specs.declared.target.Target.TheVariants as target
use Rattle.py_ast.specs.declared.statement.Statement.{Statement}
use Rattle.py_ast.specs.declared.statement.Statement.TheVariants as statement
use Rattle.py_ast.specs.declared.node.Node.{Node}
use Rattle.py_ast.specs.declared.node.Node.TheVariants as node
use Rattle.py_ast.specs.declared.program.FunctionInfo.{FunctionInfo}
use Rattle.py_ast.specs.declared.program.Program.{Program}
use Rattle.py_mentions.specs.declared.mention.Form.TheVariants as form
use Rattle.py_mentions.specs.Computing.{mentions_compute}
use Rattle.py_mentions.specs.Mentions.{class_mention, mention}
use Rattle.py_mentions.specs.Walks.{broken_in, mentions_in}
use Rattle.py_mentions.specs.Worst.{worst}

abbrev script : List Node → List ℕ → ℕ → List FunctionInfo → Program
script ns ls n fs = record { nodes = ns; lines = ls; root = n; functions = fs; handler_names = []; is_expression = false }

abbrev e : Expression → Node
e x = node.Expression x

abbrev s : Statement → Node
s x = node.Statement x

abbrev refusal : ℕ → Rule → Refused
refusal l r = record { line = l; rule = r }

-- for x in y: / break / finally in a loop:
--   1 while x:
--   2     try:
--   3         pass
--   4     finally:
--   5         break
abbrev cut : Program
cut = script
    (e (expression.Name (codes "x")) ∷ s statement.Pass ∷ s (statement.Suite (1 ∷ [])) ∷ s statement.Break ∷ s (statement.Suite (3 ∷ []))
    ∷ s (statement.Try 2 [] (Some 4)) ∷ s (statement.Suite (5 ∷ [])) ∷ s (statement.While 0 6) ∷ s (statement.Suite (7 ∷ [])) ∷ [])
    (1 ∷ 3 ∷ 3 ∷ 5 ∷ 5 ∷ 2 ∷ 2 ∷ 1 ∷ 1 ∷ []) 8 []

pub a_break_leaves_no_finally : broken_in cut ≡ refusal 5 rule.S10 ∷ []
unfolding mentions_compute
a_break_leaves_no_finally = refl

pub one_name : mentions_in cut ≡ mention None form.Read 1 (codes "x") ∷ []
unfolding mentions_compute
one_name = refl

--   1 class A:
--   2     y = x
--   3     x = len
abbrev body : Program
body = script
    (node.Target (target.Name (codes "y")) ∷ e (expression.Name (codes "x")) ∷ s (statement.Assign 0 1)
    ∷ node.Target (target.Name (codes "x")) ∷ e (expression.Builtin builtin.Len) ∷ s (statement.Assign 3 4)
    ∷ s (statement.Suite (2 ∷ 5 ∷ [])) ∷ s (statement.Class (record { text = codes "A"; line = 1 }) None 6) ∷ s (statement.Suite (7 ∷ [])) ∷ [])
    (2 ∷ 2 ∷ 2 ∷ 3 ∷ 3 ∷ 3 ∷ 2 ∷ 1 ∷ 1 ∷ []) 8 []

pub a_class_reads_no_member : broken_in body ≡ refusal 2 rule.S9 ∷ refusal 3 rule.S2 ∷ []
unfolding mentions_compute
a_class_reads_no_member = refl

pub the_first_line_is_worst : worst (broken_in body) ≡ Some (refusal 2 rule.S9)
unfolding mentions_compute
the_first_line_is_worst = refl

pub members : mentions_in body ≡ class_mention None (Some 6) form.Class 1 (codes "A") ∷ class_mention None (Some 6) form.Member 2 (codes "y") ∷ mention None form.Read 2 (codes "x")
    ∷ class_mention None (Some 6) form.Member 3 (codes "x") ∷ mention None form.Read 3 (codes "len") ∷ []
unfolding mentions_compute
members = refl

--   1 lambda e: str(e)                    in a handler of e: not guarded
--   that is: try: pass / except ValueError as e: lambda e: str(e); raise e
abbrev inner : Program
inner = script
    (s statement.Pass ∷ s (statement.Suite (0 ∷ [])) ∷ e (expression.Builtin builtin.Str) ∷ e (expression.Name (codes "e")) ∷ e (expression.Call 2 (3 ∷ []))
    ∷ e (expression.Lambda 0) ∷ s (statement.Alone 5) ∷ s (statement.RaiseName (record { text = codes "e"; line = 4 })) ∷ s (statement.Suite (6 ∷ 7 ∷ []))
    ∷ s (statement.Except (record { text = codes "ValueError"; line = 2 } ∷ []) (Some (record { text = codes "e"; line = 2 })) 8)
    ∷ s (statement.Try 1 (9 ∷ []) None) ∷ s (statement.Suite (10 ∷ [])) ∷ [])
    (1 ∷ 1 ∷ 3 ∷ 3 ∷ 3 ∷ 3 ∷ 3 ∷ 4 ∷ 3 ∷ 2 ∷ 1 ∷ 1 ∷ []) 11
    (record { name = codes "<lambda>"; parameters = []; locals = []; free = []; has_inner = false; parent = None; body = 4 } ∷ [])

pub a_function_is_no_handler : mentions_in inner ≡ mention None form.Exception 2 (codes "ValueError") ∷ mention None form.Caught 2 (codes "e") ∷ mention (Some 0) form.Read 3 (codes "str")
    ∷ mention (Some 0) form.Read 3 (codes "e") ∷ record { name = codes "e"; line = 4; function = None; form = form.Raised; is_guarded = true; class = None } ∷ []
unfolding mentions_compute
a_function_is_no_handler = refl

pub nothing_is_broken : broken_in inner ≡ []
unfolding mentions_compute
nothing_is_broken = refl
