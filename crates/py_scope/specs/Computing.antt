-- The name that opens all definitions here: a worked example is `refl` under `unfolding scopes_compute`.
use Rattle.std.specs.Prelude.{ℕ}
use Rattle.py_ast.specs.Builtins.{builtin_of}
use Rattle.py_mentions.specs.Rules.{exception_of}
use Rattle.py_scope.specs.Words.{is_builtin, is_reserved, is_other_exception, is_listed, is_operator, takes_key, is_special}
use Rattle.py_scope.specs.Facts.{mentioned, occurs, earlier_class, is_rebound, has_base, has_operator}
use Rattle.py_scope.specs.Scopes.{outwards, is_kept, passing}
use Rattle.py_scope.specs.Rules.{misnames, raises_other, is_too_private, leaks, misderives, misdeclares, breaks, breaks_from}
use Rattle.py_scope.specs.Names.{names_where}
use Rattle.py_scope.specs.Finished.{other_locals, free_names, has_inner, finished_from, handler_names}

unfoldable pub scopes_compute : ℕ
unfolding builtin_of exception_of is_builtin is_reserved is_other_exception is_listed is_operator takes_key is_special mentioned occurs earlier_class is_rebound has_base has_operator outwards is_kept passing misnames raises_other is_too_private leaks misderives misdeclares breaks breaks_from names_where other_locals free_names has_inner finished_from handler_names
scopes_compute = 0
