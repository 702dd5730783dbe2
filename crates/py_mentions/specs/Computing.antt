-- The name that opens the definitions here: a worked example is `refl` under `unfolding mentions_compute`.
use Rattle.std.specs.Prelude.{ℕ}
use Rattle.py_ast.specs.Builtins.{builtin_of}
use Rattle.py_mentions.specs.Mentions.{mentions_at}
use Rattle.py_mentions.specs.Parts.{parts}
use Rattle.py_mentions.specs.Rules.{broken_at, exception_of}
use Rattle.py_mentions.specs.Walks.{broken_in, mentions_in, walk}

unfoldable pub mentions_compute : ℕ
unfolding builtin_of mentions_at parts broken_at exception_of broken_in mentions_in walk
mentions_compute = 0
