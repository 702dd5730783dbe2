use Rattle.py_mentions.proofs.WorstLaws.{is_worst, no_worst}
use Rattle.py_mentions.proofs.laws.nothing_precedes_the_worst.Goals as goal

pub returns-clause-worst : goal.returns-clause-worst
returns-clause-worst c = is_worst

pub returns-clause-none : goal.returns-clause-none
returns-clause-none c = no_worst
