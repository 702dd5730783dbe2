-- The name that opens all recursions here: a worked example is `refl` under `unfolding lexing_computes`.
use Rattle.std.specs.Prelude.{ℕ}
use Rattle.py_lexer.specs.Spellings.{sign_size, is_keyword, is_prefix, is_hex_int, is_int, comment_size}
use Rattle.py_lexer.specs.Literals.{escape_size, item_size, literal_size}
use Rattle.py_lexer.specs.Pieces.{text_piece, bytes_piece, number_piece, word_piece, mark_piece, piece_of}
use Rattle.py_lexer.specs.Layout.{passed, emitted, ended, left_open, indented, settled, taken, finished}
use Rattle.py_lexer.specs.Reading.{read_on}

unfoldable pub lexing_computes : ℕ
unfolding sign_size is_keyword is_prefix is_hex_int is_int comment_size escape_size item_size literal_size text_piece bytes_piece number_piece word_piece mark_piece piece_of passed emitted ended left_open indented settled taken finished read_on
lexing_computes = 0
