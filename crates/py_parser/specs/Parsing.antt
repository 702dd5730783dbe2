-- The tree of a text, or why it has none.
use Rattle.std.specs.Prelude.{◌≡◌, ℕ, zero, suc, Bool, true, false, ◌&&◌, ◌||◌, List, [], ◌∷◌, Result, Ok, Err}
use Rattle.py_ast.specs.declared.program.Program.{Program}
use Rattle.py_grammar.specs.declared.symbol.Limits.{Limits}
use Rattle.py_grammar.specs.declared.symbol.Start.{Start}
use Rattle.py_grammar.specs.declared.symbol.Start.TheVariants as starts
use Rattle.py_grammar.specs.declared.terminal.Terminal.{Terminal}
use Rattle.py_grammar.specs.declared.terminal.Terminal.TheVariants as t
use Rattle.py_grammar.specs.Building.{Lexeme}
use Rattle.py_grammar.specs.Deriving.{Derives}
use Rattle.py_grammar.specs.Reading.{has}
use Rattle.py_grammar.specs.Refusals.{IsRefused, any_depth, unlimited, left_out, literals, passed, rule_of}
use Rattle.py_grammar.specs.Table.{opening}
use Rattle.rp_base.specs.declared.rules.Refused.{Refused}
use Rattle.rp_base.specs.declared.rules.Rule.{Rule}
use Rattle.py_parser.specs.declared.builder.Building.{Building}
use Rattle.py_parser.specs.declared.parsing.ParseEnd.{ParseEnd}
use Rattle.py_parser.specs.declared.parsing.ParseEnd.TheVariants as parse_end
use Rattle.py_parser.specs.Building.{begun, program_of}
use Rattle.py_parser.specs.BuildingActs.{builder}
use Rattle.py_parser.specs.Stepping.{read_on}

-- what a script may nest, and how many parameters or arguments it may have in one place
abbrev pub script_limits : Limits
script_limits = record { levels = 100; arguments = 255 }

abbrev pub is_expression : Start → Bool
is_expression starts.Script = false
is_expression starts.Expression = true

-- the tokens can be derived, and the tree is what is built of them
abbrev pub HasTree : Start → List Lexeme → Program → Type 0
HasTree start ts program = (out : Building) × Derives Building builder script_limits (opening start) begun ts out × (program ≡ program_of (is_expression start) out)

-- a token, on this line, is the first that fits nowhere, and breaks this rule
abbrev pub IsFirstMisfit : Start → List Lexeme → Refused → Type 0
IsFirstMisfit start ts refused = (n : ℕ) × (u : Lexeme) × IsRefused Building builder script_limits (opening start) begun ts n u refused.rule × (refused.line ≡ u.line)

abbrev pub Parsed : Start → List Lexeme → Result Program ParseEnd → Type 0
Parsed start ts (Ok program) = HasTree start ts program
Parsed start ts (Err (parse_end.Refused refused)) = IsFirstMisfit start ts refused
Parsed start ts (Err parse_end.NoMemory) = Unit {0}

-- ---- as the code finds it

-- of the token at a place, and of the one before it
abbrev pub kind_at : ℕ → List Lexeme → Terminal
kind_at n [] = t.End
kind_at zero (u ∷ us) = u.kind
kind_at (suc n) (u ∷ us) = kind_at n us

abbrev pub kind_before : ℕ → List Lexeme → Terminal
kind_before zero ts = t.End
kind_before (suc n) ts = kind_at n ts

-- the line of the token at a place, or the last line
abbrev pub line_at : ℕ → ℕ → List Lexeme → ℕ
line_at last n [] = last
line_at last zero (u ∷ us) = u.line
line_at last (suc n) (u ∷ us) = line_at last n us

abbrev pub is_left_out_at : ℕ → List Lexeme → Bool
is_left_out_at n ts = has (kind_at n ts) left_out || (has (kind_at n ts) literals && has (kind_before n ts) literals)

-- the reading under these limits takes the token at this place
abbrev pub passes_under : Limits → Start → ℕ → List Lexeme → Bool
passes_under lim start n ts = passed Building n (read_on lim (opening start) begun ts)

abbrev pub rule_at : Start → ℕ → List Lexeme → Rule
rule_at start n ts = rule_of (passes_under (any_depth script_limits) start n ts) (passes_under unlimited start n ts) (is_left_out_at n ts)
