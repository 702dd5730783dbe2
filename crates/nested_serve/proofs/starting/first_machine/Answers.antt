use Rattle.std.proofs.Common.{◌≡◌, ℕ, List, [], refl, subst, rules}
use Rattle.slave_service.specs.FirstCells.{first_cells_of}
use Rattle.nested_serve.proofs.starting.first_machine.Goals as goal

pub returns : goal.returns
returns c =
    let cells : c.in_ok-store.store.cells ≡ first_cells_of c.args.program.handler_names [] = subst (λ (names : List (List ℕ)). c.in_ok-store.store.cells ≡ first_cells_of names []) c.as_slice.ensures (c.in_ok-store.ensures.cells [] refl) in
    search rules
