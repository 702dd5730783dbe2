use Rattle.std.proofs.Common.{◌∙◌, ap, sym, append_assoc, codes, ◌++◌, [], ◌∷◌}
use Rattle.rpyc_cmd.proofs.report.read_fault_text.Goals as goal

pub returns : goal.returns
returns c = c.from_string.ensures ∙ c.in_ok-format.ensures.ok ∙ ap (λ t. codes "rpyc: " ++ t) (sym (append_assoc c.args.name.now (codes " read fault") (10 ∷ [])))
