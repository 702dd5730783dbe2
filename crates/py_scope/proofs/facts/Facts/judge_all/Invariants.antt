use Rattle.std.proofs.Common.{◌≡◌, take, drop}
use Rattle.py_mentions.specs.Worst.{worst_with}
use Rattle.py_scope.specs.Rules.{broken_names, breaks_from}
use Rattle.py_scope.specs.Tables.{KnowsLocals}
use Rattle.py_scope.proofs.facts.Facts.judge_all.Given as goal

abbrev pub invariant-loop-mention : goal.invariant-loop-mention
invariant-loop-mention l =
    KnowsLocals (take l.mention-index l.self.mentions.now) l.before.map
    × (worst_with l.fn.worst (broken_names l.self.mentions.now l.self.functions.now)
    ≡ worst_with l.so_far (breaks_from l.self.mentions.now l.self.functions.now (take l.mention-index l.self.mentions.now) (drop l.mention-index l.self.mentions.now)))
