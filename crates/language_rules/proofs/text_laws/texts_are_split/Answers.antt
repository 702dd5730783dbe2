use Rattle.language_rules.proofs.TextLaws.{split, all_words}
use Rattle.language_rules.proofs.text_laws.texts_are_split.Goals as goal

pub returns-clause-separated : goal.returns-clause-separated
returns-clause-separated c = split

pub returns-clause-words : goal.returns-clause-words
returns-clause-words c = all_words
