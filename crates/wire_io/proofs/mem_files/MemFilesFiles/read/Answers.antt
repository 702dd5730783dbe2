use Rattle.std.proofs.Common.{◌≡◌, ◌<◌, Some, string_bytes, List, ℕ, ap, sym, ◌∙◌, true, nat_eq, length, arith}
use Rattle.std.specs.Cmp.Lexicographic.{pointwise}
use Rattle.wire_io.specs.FileMaps.{first_named}
use Rattle.wire_io.proofs.FirstNamed.{first_named-here}
use Rattle.wire_io.proofs.mem_files.MemFilesFiles.read.Goals as goal

pub returns-in-Ok-clause-answered : goal.returns-in-Ok-clause-answered
returns-in-Ok-clause-answered c =
    let entry = c.entry-item.result in
    let entries = c.deref-entry-items.result.now in
    let inside : c.loop-entry.entry-index < length entries = omega arith in
    let same : pointwise nat_eq (string_bytes entry.0) c.args.name.now ≡ true = cc (c.if-eq.ensures, c.as_str.ensures.value) in
    ap (λ l. first_named (λ e. string_bytes e.0) (λ e. e.1.items) l c.args.name.now) (sym c.deref-entry-items.ensures.value)
    ∙ first_named-here (λ e. string_bytes e.0) (λ e. e.1.items) entries c.loop-entry.entry-index entry c.args.name.now inside c.entry-item.is same c.loop-entry.invariant
    ∙ ap (λ (b : List ℕ). Some b) (cc (c.in-Ok.ensures.items, c.as_slice.ensures.value, c.from_vec.ensures))
