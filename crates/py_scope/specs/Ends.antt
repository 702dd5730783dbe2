-- An end of an earlier step is the end of the whole.
use Rattle.rp_base.specs.declared.rules.Refused.{Refused}
use Rattle.py_lexer.specs.declared.token.LexEnd.{LexEnd}
use Rattle.py_lexer.specs.declared.token.LexEnd.TheVariants as lex_end
use Rattle.py_parser.specs.declared.parsing.ParseEnd.{ParseEnd}
use Rattle.py_parser.specs.declared.parsing.ParseEnd.TheVariants as parse_end
use Rattle.py_scope.specs.declared.ending.AcceptEnd.{AcceptEnd}
use Rattle.py_scope.specs.declared.ending.AcceptEnd.TheVariants as ends

abbrev pub after_tokens : LexEnd → AcceptEnd
after_tokens (lex_end.Refused r) = ends.Refused r
after_tokens lex_end.NoMemory = ends.NoMemory

abbrev pub after_parsing : ParseEnd → AcceptEnd
after_parsing (parse_end.Refused r) = ends.Refused r
after_parsing parse_end.NoMemory = ends.NoMemory

-- the end is this refusal, or want of memory
abbrev pub EndsIn : (Refused → Type 0) → AcceptEnd → Type 0
EndsIn P (ends.Refused r) = P r
EndsIn P ends.NoMemory = Unit {0}
