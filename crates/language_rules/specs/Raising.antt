-- Raising and handling exceptions (Python Language Reference, "The raise statement", "The try statement").
use Rattle.std.specs.Prelude.{ℕ, List, [], ◌∷◌, Option, Some, None, if◌then◌else◌}
use Rattle.rp_base.specs.Values.{plains_of}
use Rattle.rp_base.specs.declared.exceptions.Beyond.TheVariants as beyond
use Rattle.rp_base.specs.declared.exceptions.ExcKind.{ExcKind}
use Rattle.rp_base.specs.declared.exceptions.Raised.{Raised}
use Rattle.rp_base.specs.declared.plain.Plain.{Plain}
use Rattle.rp_base.specs.declared.value.Value.{Value}
use Rattle.py_ast.specs.declared.name.Name.{Name}
use Rattle.py_ast.specs.declared.statement.Statement.{Statement}
use Rattle.py_ast.specs.declared.statement.Statement.TheVariants as statement
use Rattle.side_trees.specs.Trees.{Return, Stop, bind}
use Rattle.language_rules.specs.Codes.{Env, Completion, Gives, Raises}
use Rattle.language_rules.specs.States.{Handling}
use Rattle.language_rules.specs.Going.{RuleTree, nowhere, raises, looks, evaluates_all, too_heavy}
use Rattle.language_rules.specs.Texts.{on_statement, executes_suite}
use Rattle.language_rules.specs.Handlers.{is_of, first_handling, handling, on_handled}
use Rattle.language_rules.specs.Exceptions.{exception_named, catches}

-- ---- raise

-- `raise` alone: the exception that is being handled
abbrev pub raised_again : Option Handling → RuleTree
raised_again None = nowhere
raised_again (Some h) = Return (Raises h.raised)

-- it is that of the innermost handler of this run of code, or the one that is under way in a `finally`
abbrev pub raise_again_rule : Env → RuleTree
raise_again_rule env = looks (λ s. raised_again (first_handling (is_of env) s.handled))

-- `raise` of a class, or of a handler's name
abbrev pub raise_by_name : Env → List ℕ → Option ExcKind → RuleTree
raise_by_name env name (Some k) = raises k []
raise_by_name env name None = on_handled env name (λ r. Return (Raises r))

-- the name of a class comes first, since no handler has one
abbrev pub raise_name_rule : Env → List ℕ → RuleTree
raise_name_rule env name = raise_by_name env name (exception_named name)

-- the arguments of an exception are plain values
abbrev pub raise_plain : ExcKind → Option (List Plain) → RuleTree
raise_plain k None = Stop beyond.Payload
raise_plain k (Some ps) = raises k ps

-- a class with the values of its arguments
abbrev pub raise_with : Option ExcKind → List Value → RuleTree
raise_with None vs = nowhere
raise_with (Some k) vs = if too_heavy vs then Stop beyond.Size else raise_plain k (plains_of vs)

-- `raise` of a class with arguments, whose size is judged first
abbrev pub raise_call_rule : Env → List ℕ → List ℕ → RuleTree
raise_call_rule env name arguments = evaluates_all env arguments (raise_with (exception_named name))

-- ---- try

-- on with the parts of a handler
abbrev pub as_handler : (List Name → Option Name → ℕ → RuleTree) → Statement → RuleTree
as_handler f (statement.Except kinds name body) = f kinds name body
as_handler f _ = nowhere

-- the name without its line
abbrev pub name_of : Option Name → Option (List ℕ)
name_of None = None
name_of (Some n) = Some n.text

-- the first handler that takes the exception runs; where none does, the exception goes on
abbrev pub handles : Env → Raised → List ℕ → RuleTree
handles env r [] = Return (Raises r)
handles env r (n ∷ ns) =
    on_statement env n (as_handler (λ kinds name body.
    if catches kinds r.kind then handling env (name_of name) r (executes_suite env body) else handles env r ns))

-- on with an exception; another end is handed on
abbrev pub on_raised : (Raised → RuleTree) → Completion → RuleTree
on_raised f (Raises r) = f r
on_raised f a = Return a

-- what has been under way goes on, where the suite of `finally` ends by itself; else its own end replaces it
abbrev pub replaces : Completion → Completion → RuleTree
replaces pending (Gives v) = Return pending
replaces pending a = Return a

-- the suite of `finally`, which any end comes through; an exception that is under way is being handled there
abbrev pub finally_suite : Env → ℕ → Completion → RuleTree
finally_suite env suite (Raises r) = bind (handling env None r (executes_suite env suite)) (replaces (Raises r))
finally_suite env suite pending = bind (executes_suite env suite) (replaces pending)

-- behind a `try` that has no `finally` the end goes on
abbrev pub finally_rule : Env → Option ℕ → Completion → RuleTree
finally_rule env None pending = Return pending
finally_rule env (Some suite) pending = finally_suite env suite pending

-- the suite, the handler that takes its exception, and then the suite of `finally`
abbrev pub try_rule : Env → ℕ → List ℕ → Option ℕ → RuleTree
try_rule env body handlers last = bind (bind (executes_suite env body) (on_raised (λ r. handles env r handlers))) (finally_rule env last)
