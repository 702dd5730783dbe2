-- What each statement does behind its unit (Python Language Reference, "Simple statements", "Compound statements").
use Rattle.std.specs.Prelude.{ℕ, [], ◌∷◌, Option, Some, None, if◌then◌else◌}
use Rattle.rp_base.specs.declared.value.Value.TheVariants as value
use Rattle.py_ast.specs.declared.node.Node.{Node}
use Rattle.py_ast.specs.declared.node.Node.TheVariants as node
use Rattle.py_ast.specs.declared.statement.Statement.{Statement}
use Rattle.py_ast.specs.declared.statement.Statement.TheVariants as statement
use Rattle.py_store.specs.declared.cell.Cell.TheVariants as cell
use Rattle.side_trees.specs.Trees.{Return}
use Rattle.language_rules.specs.Codes.{Env, Returns, Breaks, Continues}
use Rattle.language_rules.specs.Going.{RuleTree, nowhere, none, done, looks, makes, evaluates, executes_all}
use Rattle.language_rules.specs.Texts.{node_at, on_function, executes_suite}
use Rattle.language_rules.specs.Truth.{on_truth}
use Rattle.language_rules.specs.Names.{binds_name}
use Rattle.language_rules.specs.Targets.{assigns, augmented_assignment_rule, delete_rule}
use Rattle.language_rules.specs.Raising.{raise_again_rule, raise_name_rule, raise_call_rule, try_rule}
use Rattle.language_rules.specs.Beginnings.{while_begins, for_begins}
use Rattle.language_rules.specs.Classes.{class_rule}

-- ---- simple statements

-- the value of a `return`
abbrev pub return_rule : Env → Option ℕ → RuleTree
return_rule env None = Return (Returns none)
return_rule env (Some n) = evaluates env n (λ v. Return (Returns v))

-- ---- compound statements

-- what stands behind `else` is a suite, or the `if` that an `elif` is, which is a statement of its own
abbrev pub otherwise_at : Env → ℕ → Option Node → RuleTree
otherwise_at env n (Some (node.Statement (statement.Suite statements))) = executes_all env statements
otherwise_at env n (Some (node.Statement (statement.If test body otherwise))) = executes_all env (n ∷ [])
otherwise_at env n _ = nowhere

-- without an `else` nothing is done
abbrev pub otherwise_rule : Env → Option ℕ → RuleTree
otherwise_rule env None = Return done
otherwise_rule env (Some n) = looks (λ s. otherwise_at env n (node_at s env n))

-- the test, and then one of the two suites
abbrev pub if_rule : Env → ℕ → ℕ → Option ℕ → RuleTree
if_rule env test body otherwise = evaluates env test (λ v. on_truth v (λ b. if b then executes_suite env body else otherwise_rule env otherwise))

-- a function, made in the scope that runs, and bound to its name
abbrev pub def_rule : Env → ℕ → RuleTree
def_rule env function = on_function env.text function (λ info. makes (cell.Function env.text function env.scope) (λ n. binds_name env info.name (value.Own n) (Return done)))

-- ---- the clauses

abbrev pub statement_rule : Env → Statement → RuleTree
-- "Expression statements", "Assignment statements", "Augmented assignment statements": the right side of an assignment comes before its targets
statement_rule env (statement.Alone n) = evaluates env n (λ v. Return done)
statement_rule env (statement.Assign place right) = evaluates env right (assigns env place)
statement_rule env (statement.Augmented place op right) = augmented_assignment_rule env place op right
-- "The pass statement", "The break statement", "The continue statement", "The return statement", "The del statement"
statement_rule env statement.Pass = Return done
statement_rule env statement.Break = Return Breaks
statement_rule env statement.Continue = Return Continues
statement_rule env (statement.Return value) = return_rule env value
statement_rule env (statement.Delete place) = delete_rule env place
-- "The raise statement"
statement_rule env statement.RaiseAgain = raise_again_rule env
statement_rule env (statement.RaiseName name) = raise_name_rule env name.text
statement_rule env (statement.RaiseCall name arguments) = raise_call_rule env name.text arguments
-- "The global statement", "The nonlocal statement": they only say where names are bound
statement_rule env (statement.Global names) = Return done
statement_rule env (statement.Nonlocal names) = Return done
-- "The if statement", "The while statement", "The for statement", "The try statement"
statement_rule env (statement.If test body otherwise) = if_rule env test body otherwise
statement_rule env (statement.While test body) = while_begins env test body
statement_rule env (statement.For place source body) = for_begins env place source body
statement_rule env (statement.Try body handlers last) = try_rule env body handlers last
-- "Function definitions", "Class definitions"
statement_rule env (statement.Def function) = def_rule env function
statement_rule env (statement.Class name base body) = class_rule env name.text base body
-- no statements of their own
statement_rule env (statement.Except kinds name body) = nowhere
statement_rule env (statement.Suite statements) = nowhere
