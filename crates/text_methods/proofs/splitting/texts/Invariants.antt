use Rattle.std.proofs.Common.{◌≡◌, map, take, string_bytes}
use Rattle.language_rules.specs.Going.{text}
use Rattle.text_methods.proofs.splitting.texts.Given as goal

abbrev pub invariant-loop-piece : goal.invariant-loop-piece
invariant-loop-piece l = l.items ≡ map (λ p. text (string_bytes p)) (take l.piece-index l.pieces)
