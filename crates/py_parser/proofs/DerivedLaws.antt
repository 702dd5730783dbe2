-- What is built of a text keeps its parts before their nodes.
use Rattle.std.specs.Prelude.{Bool, List}
use Rattle.std.proofs.Common.{subst}
use Rattle.py_ast.specs.Parts.{IsNumbered}
use Rattle.py_grammar.specs.declared.symbol.Limits.{Limits}
use Rattle.py_grammar.specs.declared.symbol.Symbol.{Symbol}
use Rattle.py_grammar.specs.Building.{Lexeme}
use Rattle.py_grammar.specs.Deriving.{Derives, Ends, Takes, Makes, Skips, Opens}
use Rattle.py_parser.specs.declared.builder.Building.{Building}
use Rattle.py_parser.specs.Building.{begun, program_of}
use Rattle.py_parser.specs.BuildingActs.{builder}
use Rattle.py_parser.proofs.ActLaws.{acted_keeps, begun_sound, programs_are_numbered}
use Rattle.py_parser.proofs.PartLaws.{Sound}

derived_is_sound : (lim : Limits) {ss : List Symbol} {b out : Building} {ts : List Lexeme} → Derives Building builder lim ss b ts out → Sound b → Sound out
derived_is_sound lim (Ends e same) k = subst Sound same k
derived_is_sound lim (Takes e d) k = derived_is_sound lim d k
derived_is_sound lim (Makes {a} {b} d) k = derived_is_sound lim d (acted_keeps a b k)
derived_is_sound lim (Skips {b} a e d) k = derived_is_sound lim d (acted_keeps a b k)
derived_is_sound lim (Opens w at within holds d) k = derived_is_sound lim d k

pub derived_is_numbered : (lim : Limits) (ss : List Symbol) (ts : List Lexeme) (out : Building) (is_expression : Bool)
    → Derives Building builder lim ss begun ts out → IsNumbered (program_of is_expression out)
derived_is_numbered lim ss ts out is_expression d = programs_are_numbered is_expression out (derived_is_sound lim d begun_sound)
