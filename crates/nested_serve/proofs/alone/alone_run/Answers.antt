use Rattle.std.proofs.Common.{◌-◌, refl, sym, ◌∙◌}
use Rattle.nested_serve.proofs.AloneRuns.{alone}
use Rattle.nested_serve.proofs.alone.alone_run.Goals as goal

pub returns : goal.returns
returns c = λ program start m n begins halts printed.
    alone program start m n c.args.halt c.args.fuel c.args.left (record { end = c.end_of.result; printed = c.from_string.result; units = c.args.fuel - c.args.left })
    begins halts c.requires c.end_of.ensures (c.from_string.ensures ∙ sym printed) refl
