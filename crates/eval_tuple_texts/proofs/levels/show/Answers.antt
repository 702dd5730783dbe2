use Rattle.std.proofs.Common.{string_bytes}
use Rattle.eval_tuple_texts.proofs.TextLaws.{shown_long, shown_whole}
use Rattle.eval_tuple_texts.proofs.levels.show.Goals as goal

pub returns-then-branch-clause-turns : goal.returns-then-branch-clause-turns
returns-then-branch-clause-turns c = shown_whole c.args.plain.now (string_bytes c.new-made.result) (string_bytes c.put_repr.new.made) c.from_string.result c.in_ok-put_repr.field-0 c.new-made.ensures.bytes c.if-branch.true c.in_ok-put_repr.ensures c.from_string.ensures

pub returns-else-branch-clause-turns : goal.returns-else-branch-clause-turns
returns-else-branch-clause-turns c = shown_long c.args.plain.now (string_bytes c.new-made.result) (string_bytes c.put_repr.new.made) c.in_ok-put_repr.field-0 c.new-made.ensures.bytes c.if-branch.false c.in_ok-put_repr.ensures
