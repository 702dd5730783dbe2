use Rattle.std.proofs.Common.{◌-◌, ◌++◌, string_bytes, encode_utf8, encode_utf8_all, sym, ap, ◌∙◌, arith, append-nil}
use Rattle.py_strs.specs.Quoting.{hex}
use Rattle.py_strs.proofs.Pieces.{encodes-hex-zero, hex-written}
use Rattle.py_strs.proofs.quoting.+push_hex.Goals as goal

pub returns-then-digits-eq0-clause-written : goal.returns-then-digits-eq0-clause-written
returns-then-digits-eq0-clause-written t c =
    let old = string_bytes c.args.out.now in
    sym (ap (λ d. old ++ encode_utf8_all (hex d c.args.n)) c.if-digits-eq0.true ∙ ap (λ l. old ++ l) (encodes-hex-zero c.args.n) ∙ append-nil old)

pub returns-clause-written : goal.returns-clause-written
returns-clause-written t c =
    hex-written c.args.digits (c.args.digits - 1) c.args.n (string_bytes c.args.out.now) (string_bytes c.push_hex.new.out) _ (omega arith) c.in_ok-push_hex.ensures.written
    (c.in_ok-push.ensures.bytes ∙ ap (λ d. string_bytes c.push_hex.new.out ++ encode_utf8 d) c.hex_digit.ensures)
