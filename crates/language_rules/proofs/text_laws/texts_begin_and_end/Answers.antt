use Rattle.language_rules.proofs.TextLaws.{beginnings, ends}
use Rattle.language_rules.proofs.text_laws.texts_begin_and_end.Goals as goal

pub returns-clause-begin : goal.returns-clause-begin
returns-clause-begin c = beginnings

pub returns-clause-end : goal.returns-clause-end
returns-clause-end c = ends
