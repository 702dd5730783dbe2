-- Values and their parts, case by case.
pub use Rattle.eval_frames.proofs.Shapes.{each_value, each_plain, each_reference}
