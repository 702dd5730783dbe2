-- No string is as long as the limit of a report.
use Rattle.std.proofs.Common.{◌≡◌, ℕ, ◌-◌, ◌^◌, ◌<◌, List, ◌++◌, length, String, Global, string_bytes, refl, ap, ◌∙◌, Err, arith}
use Rattle.std.proofs.lemmas.List.{length-append}
use Rattle.rp_base.specs.declared.exceptions.Beyond.TheVariants as beyond
use Rattle.py_plain.specs.Printing.{PrintsWithin}
use Rattle.py_plain.specs.declared.ends.PlainEnd.{PlainEnd}
use Rattle.py_plain.specs.declared.ends.PlainEnd.TheVariants as end

string_is_short : (whole : String Global) → length (string_bytes whole) < 2 ^ 63
string_is_short whole =
    let held = whole.bytes.ok.0 in
    let within = whole.bytes.ok.1 in
    let small = whole.bytes.small in
    omega arith

pub wants_memory : (text old new : List ℕ) (whole : String Global) (e : PlainEnd) → string_bytes whole ≡ old ++ text → PrintsWithin (2 ^ 64 - 1) text old new (Err e) → e ≡ end.NoMemory
wants_memory text old new whole (end.Beyond beyond.Size) is prints =
    let short = string_is_short whole in
    let size = ap (λ (s : List ℕ). length s) is ∙ length-append old text in
    absurd (omega (arith, short, size, prints.0))
wants_memory text old new whole end.NoMemory is prints = refl
wants_memory text old new whole _ is prints = absurd prints
