use Rattle.std.proofs.Common.{string_bytes}
use Rattle.eval_tuple_texts.proofs.TextLaws.{separated}
use Rattle.eval_tuple_texts.proofs.levels.separate.Goals as goal

pub returns-in_ok-push-clause-turns : goal.returns-in_ok-push-clause-turns
returns-in_ok-push-clause-turns c = separated c.args.levels.now c.push.new.self c.args.item c.args.waiting (string_bytes c.args.made) (string_bytes c.put_part.new.made) c.from_string.result c.in_ok-put_part.field-0 c.in_ok-push.ensures.ok c.if-branch.true c.in_ok-put_part.ensures c.from_string.ensures
