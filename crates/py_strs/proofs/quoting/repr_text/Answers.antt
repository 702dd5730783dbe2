use Rattle.std.proofs.Common.{string_bytes, rules}
use Rattle.std.proofs.lemmas.Str.{IsUtf8-string_bytes}
use Rattle.py_strs.proofs.Pieces.{cut_behind}
use Rattle.py_strs.proofs.quoting.repr_text.Goals as goal

pub truncate-requires : goal.truncate-requires
truncate-requires c =
    λ _. cut_behind c.len-start.result (string_bytes c.args.out.now) (string_bytes c.push_text.new.out) (search rules) (IsUtf8-string_bytes c.args.out.now) (IsUtf8-string_bytes c.push_text.new.out) c.push_text.ensures.kept
