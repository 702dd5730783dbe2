use Rattle.std.proofs.Common.{◌∙◌, ap, Option, Ok, reverse, string_bytes}
use Rattle.rp_base.specs.declared.value.Value.{Value}
use Rattle.language_rules.specs.Output.{prints_further}
use Rattle.print_output.proofs.PieceLaws.{line_ended, value_ended, value_left, value_printed}
use Rattle.print_output.specs.Printed.{left_to_print}
use Rattle.print_output.proofs.pieces.print_waiting.Goals as goal

pub values-preserved : goal.values-preserved
values-preserved c =
    value_printed (prints_further (reverse c.args.waiting.now)) (string_bytes c.args.printed.now) (string_bytes c.values.printed) (string_bytes c.print_next.new.printed) c.values.waiting c.pop.new.self c.in-Some.value c.print_next.result
    c.in-Some.ensures c.values.invariant c.print_next.ensures.prints (c.in-Ok-None.is ∙ ap (λ (x : Option Value). Ok x) c.in-Ok-None.field-0-is)

pub returns-in-Ok-Some : goal.returns-in-Ok-Some
returns-in-Ok-Some c = record {
  prints = value_left (prints_further (reverse c.args.waiting.now)) (string_bytes c.args.printed.now) (string_bytes c.values.printed) (string_bytes c.print_next.new.printed) c.values.waiting c.pop.new.self c.in-Some.value c.in-Ok-Some.value c.print_next.result
      c.in-Some.ensures c.values.invariant c.print_next.ensures.prints (c.in-Ok-Some.is ∙ ap (λ (x : Option Value). Ok x) c.in-Ok-Some.field-0-is);
}

pub returns-in-Err : goal.returns-in-Err
returns-in-Err c = record {
  prints = value_ended (prints_further (reverse c.args.waiting.now)) (left_to_print (reverse c.pop.new.self)) (string_bytes c.args.printed.now) (string_bytes c.values.printed) (string_bytes c.print_next.new.printed) c.values.waiting c.pop.new.self c.in-Some.value c.in-Err.end c.print_next.result
      c.in-Some.ensures c.values.invariant c.print_next.ensures.prints c.in-Err.is;
}

pub returns-in-Err-end_line : goal.returns-in-Err-end_line
returns-in-Err-end_line c = record {
  prints = line_ended (prints_further (reverse c.args.waiting.now)) (left_to_print (reverse c.pop.new.self)) (string_bytes c.args.printed.now) (string_bytes c.values.printed) (string_bytes c.end_line.new.printed) c.values.waiting c.in-Err-end_line.end c.end_line.result
      c.in_default.ensures.0 c.values.invariant c.end_line.ensures.prints c.in-Err-end_line.is;
}
