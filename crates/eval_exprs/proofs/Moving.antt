-- A step that means a computation, taken to another one, or to a state.
pub use Rattle.eval_comparing.proofs.Moving.{means_as, at_as, anywhere_as, each_as, next_as, each_at_as, in_state, anywhere, at_cells, anywhere_at, over_one, over_one_at, each_at, popped, pushed}
