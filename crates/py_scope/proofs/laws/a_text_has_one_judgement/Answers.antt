use Rattle.py_scope.proofs.OneLaws.{one_program, one_refusal, never_both}
use Rattle.py_scope.proofs.laws.a_text_has_one_judgement.Goals as goal

pub returns : goal.returns
returns c = record { accepted = one_program; refused = one_refusal; never_both = never_both }
