use Rattle.std.proofs.Common.{rules, Global}
use Rattle.std.specs.Result.{IsErrOf}
use Rattle.py_strs.specs.declared.ends.StrEnd.TheVariants as end
use Rattle.py_strs.proofs.Rows.{empty_row, first_long, next_long, all_done}
use Rattle.py_strs.proofs.joining.join_texts.Goals as goal

pub returns-in_default-clause-ok : goal.returns-in_default-clause-ok
returns-in_default-clause-ok c = empty_row Global c.args.sep.now c.utf8.sep c.new-text.result c.args.parts.now c.in_default.len_below c.new-text.ensures.bytes

pub returns-in_err-append-clause-size : goal.returns-in_err-append-clause-size
returns-in_err-append-clause-size c h =
    let k : IsErrOf c.append.result end.Size = search rules in
    first_long Global c.args.sep.now c.utf8.sep c.args.parts.now c.first-item.result _ c.as_str.result.now c.in-len1-up.len_at_least c.first-item.is c.new-text.ensures.bytes c.as_str.ensures.value (c.append.ensures.size k)

pub returns-in_err-append_both-clause-size : goal.returns-in_err-append_both-clause-size
returns-in_err-append_both-clause-size c h =
    let k : IsErrOf c.append_both.result end.Size = search rules in
    next_long Global c.args.sep.now c.utf8.sep c.args.parts.now _ c.loop-part.part-index c.part-item.result _ c.as_str-in-loop-part.result.now c.loop-part-test.true c.part-item.is c.as_str-in-loop-part.ensures.value c.loop-part.invariant.0 (c.append_both.ensures.size k)

pub returns-clause-ok : goal.returns-clause-ok
returns-clause-ok c = all_done Global c.args.sep.now c.utf8.sep c.loop-part.text c.args.parts.now _ c.loop-part.part-index c.loop-part-test.false c.loop-part.invariant.0 c.loop-part.invariant.1
