-- The name that opens all recursions here: a worked example is `refl` under `unfolding building_computes`.
use Rattle.std.specs.Prelude.{ℕ}
use Rattle.py_ast.specs.Builtins.{builtin_of}
use Rattle.py_grammar.specs.Sets.{first}
use Rattle.py_grammar.specs.Table.{ways, empty}
use Rattle.py_literals.specs.Computing.{literals_compute}
use Rattle.py_parser.specs.BuildingActs.{acted, holds}

unfoldable pub building_computes : ℕ
unfolding builtin_of first ways empty literals_compute acted holds
building_computes = 0
