use Rattle.std.proofs.Common.{string_bytes, rules}
use Rattle.std.proofs.lemmas.Str.{IsUtf8-string_bytes}
use Rattle.py_strs.proofs.Pieces.{cut_behind}
use Rattle.py_plain.specs.Printing.{repr_of}
use Rattle.py_plain.proofs.PutLaws.{kept}
use Rattle.py_plain.proofs.repr.plain_repr.Goals as goal

pub truncate-requires : goal.truncate-requires
truncate-requires c =
    λ _. cut_behind c.len-start.result (string_bytes c.args.out.now) (string_bytes c.put.new.out) (search rules) (IsUtf8-string_bytes c.args.out.now) (IsUtf8-string_bytes c.put.new.out)
    (kept c.args.most (repr_of c.args.a.now) (string_bytes c.args.out.now) (string_bytes c.put.new.out) c.in-Err.end c.in-Err.ensures)
