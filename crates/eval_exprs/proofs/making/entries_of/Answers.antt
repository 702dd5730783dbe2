use Rattle.std.proofs.Common.{sym}
use Rattle.eval_exprs.proofs.DictEntries.{ends, goes_on}
use Rattle.eval_exprs.proofs.making.entries_of.Goals as goal

pub returns-then-not-put : goal.returns-then-not-put
returns-then-not-put c = sym (ends c.args.items c.entries.waiting c.pop.new.self c.put_last.new.waiting c.in-Some.key c.entries.entries c.put_last.new.entries c.in_ok-put.put (rw c.in-Some.is at c.pop.ensures) c.entries.invariant c.in_ok-put.ensures.put c.if-not-put.true)

pub entries-preserved : goal.entries-preserved
entries-preserved c = goes_on c.args.items c.entries.waiting c.pop.new.self c.put_last.new.waiting c.in-Some.key c.entries.entries c.put_last.new.entries c.in_ok-put.put (rw c.in-Some.is at c.pop.ensures) c.entries.invariant c.in_ok-put.ensures.put c.if-not-put.false
