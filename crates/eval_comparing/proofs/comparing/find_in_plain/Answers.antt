use Rattle.std.proofs.Common.{codes, refl, sym, subst}
use Rattle.rp_base.specs.declared.exceptions.Beyond.TheVariants as beyond
use Rattle.side_trees.specs.Trees.{Stop}
use Rattle.language_rules.specs.Going.{RuleTree, type_error}
use Rattle.eval_comparing.specs.Compared.{Compares, turned_by}
use Rattle.eval_comparing.proofs.PairLaws.{bytes_left, text_refused}
use Rattle.eval_comparing.proofs.comparing.find_in_plain.Goals as goal

pub returns-in-Text : goal.returns-in-Text
returns-in-Text c = subst (λ (t : RuleTree). Compares (turned_by c.args.turned t) c.ended.result)
    (sym (text_refused c.args.container.now c.args.part.now c.args.plain.now c.in-Text.field-0 c.requires.plain c.in-Text.is c.requires.other)) (c.ended.ensures (type_error (codes "text expected")) c.args.turned c.fails.ensures)

pub returns-in-Bytes : goal.returns-in-Bytes
returns-in-Bytes c = subst (λ (t : RuleTree). Compares (turned_by c.args.turned t) c.ended-in-Bytes.result)
    (sym (bytes_left c.args.container.now c.args.part.now c.args.plain.now c.in-Bytes.field-0 c.requires.plain c.in-Bytes.is)) (c.ended-in-Bytes.ensures (Stop beyond.Compare) c.args.turned refl)
