use Rattle.std.proofs.Common.{◌≡◌, List, ℕ, subst}
use Rattle.std.specs.Prelude.{IfOk}
use Rattle.text_methods.proofs.Making.{part_bytes}
use Rattle.text_methods.proofs.changing.stripped.Goals as goal

pub returns : goal.returns
returns c = subst (λ (l : List ℕ). IfOk c.from_str.result (λ (t : List ℕ). t ≡ l)) (part_bytes c.args.text.now c.strip_text.result.now c.strip_text.utf8 c.strip_text.ensures) c.from_str.ensures
