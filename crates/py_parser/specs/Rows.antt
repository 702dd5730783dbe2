-- The entries of the code's table as the grammar's.
use Rattle.std.specs.Prelude.{◌≡◌, List, map}
use Rattle.py_grammar.specs.declared.symbol.Symbol.{Symbol}
use Rattle.py_grammar.specs.declared.symbol.Symbol.TheVariants as symbol
use Rattle.py_grammar.specs.declared.word.Word.{Word}
use Rattle.py_grammar.specs.Sets.{first}
use Rattle.py_grammar.specs.Table.{ways, empty}
use Rattle.py_grammar.specs.Ways.{Way}
use Rattle.py_parser.specs.declared.table.Entry.{Entry}
use Rattle.py_parser.specs.declared.table.Part.{Part}
use Rattle.py_parser.specs.declared.table.Part.TheVariants as part
use Rattle.py_parser.specs.declared.table.Row.{Row}

abbrev pub symbol_of : Part → Symbol
symbol_of (part.Terminal k) = symbol.Terminal k
symbol_of (part.Word n) = symbol.Word n 0
symbol_of (part.Inner n) = symbol.Word n 1
symbol_of (part.Act a) = symbol.Act a

abbrev pub symbols_of : List Part → List Symbol
symbols_of parts = map symbol_of parts

abbrev pub way_of : Row → Way
way_of row = record { guard = row.guard; symbols = symbols_of row.symbols.now }

-- the entry says of the word what the grammar says
abbrev pub Describes : Word → Entry → Type 0
Describes n entry = (entry.first.now ≡ first n) × (map way_of entry.rows.now ≡ ways n) × (entry.empty ≡ empty n)
