use Rattle.std.proofs.Common.{◌∙◌, ap, Ok, Option, reverse, string_bytes}
use Rattle.rp_base.specs.declared.value.Value.{Value}
use Rattle.language_rules.specs.Output.{prints_further}
use Rattle.print_output.proofs.PieceLaws.{rest_asked}
use Rattle.print_output.proofs.printing.go_on.Goals as goal

pub returns-in-Ok-Some-clause-means : goal.returns-in-Ok-Some-clause-means
returns-in-Ok-Some-clause-means c =
    rest_asked (prints_further (reverse c.args.waiting)) (reverse c.print_waiting.new.waiting) c.in-Ok-Some.value c.ask_text.new.stack.items c.args.stack.now.items (string_bytes c.args.printed.now) (string_bytes c.print_waiting.new.printed) c.print_waiting.result c.ask_text.result
    c.print_waiting.ensures.prints (c.in-Ok-Some.is ∙ ap (λ (x : Option Value). Ok x) c.in-Ok-Some.field-0-is) c.ask_text.ensures.means
