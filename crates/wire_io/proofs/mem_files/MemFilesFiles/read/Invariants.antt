use Rattle.std.proofs.Common.{◌≡◌, drop, string_bytes}
use Rattle.wire_io.specs.FileMaps.{first_named}
use Rattle.wire_io.proofs.mem_files.MemFilesFiles.read.Given as goal

abbrev pub invariant-loop-entry : goal.invariant-loop-entry
invariant-loop-entry l =
    first_named (λ e. string_bytes e.0) (λ e. e.1.items) (drop l.entry-index l.entry-items) l.name ≡ first_named (λ e. string_bytes e.0) (λ e. e.1.items) l.entry-items l.name
