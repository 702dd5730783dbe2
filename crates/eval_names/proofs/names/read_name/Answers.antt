use Rattle.language_rules.specs.AtOnce.{stated}
use Rattle.eval_names.specs.Places.{meant}
use Rattle.eval_names.proofs.ReadingLemmas.{read_there}
use Rattle.eval_names.proofs.names.read_name.Goals as goal

pub returns : goal.returns
returns c =
    λ fixed. read_there (stated fixed c.args.store.now.cells c.args.texts.now) c.args.env c.args.name.now (meant c.place_of-place.result) c.read_at.result (c.place_of-place.ensures fixed) (c.read_at.ensures fixed)
