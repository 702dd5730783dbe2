use Rattle.std.proofs.Common.{chars}
use Rattle.object_operations.specs.declared.method.BuiltinMethod.TheVariants as method
use Rattle.language_rules.specs.TextMethods.{characters_method}
use Rattle.text_methods.proofs.Making.{at_method}
use Rattle.text_methods.proofs.methods.text_method.Goals as goal

pub returns-in-EndsWith-clause-answers : goal.returns-in-EndsWith-clause-answers
returns-in-EndsWith-clause-answers c = at_method (chars c.args.text.now) c.args.method method.EndsWith c.args.arguments.now c.with_value.result c.in-EndsWith.is (c.with_value.ensures.answers (characters_method (chars c.args.text.now) method.EndsWith c.args.arguments.now) c.ends.ensures)

pub returns-in-Find-clause-answers : goal.returns-in-Find-clause-answers
returns-in-Find-clause-answers c = at_method (chars c.args.text.now) c.args.method method.Find c.args.arguments.now c.with_value-in-Find.result c.in-Find.is (c.with_value-in-Find.ensures.answers (characters_method (chars c.args.text.now) method.Find c.args.arguments.now) c.finds.ensures)

pub returns-in-Join-clause-answers : goal.returns-in-Join-clause-answers
returns-in-Join-clause-answers c = at_method (chars c.args.text.now) c.args.method method.Join c.args.arguments.now c.joins.result c.in-Join.is (c.joins.ensures.answers (chars c.args.text.now))

pub returns-in-Replace-clause-answers : goal.returns-in-Replace-clause-answers
returns-in-Replace-clause-answers c = at_method (chars c.args.text.now) c.args.method method.Replace c.args.arguments.now c.with_value-in-Replace.result c.in-Replace.is (c.with_value-in-Replace.ensures.answers (characters_method (chars c.args.text.now) method.Replace c.args.arguments.now) c.replaces.ensures)

pub returns-in-Split-clause-answers : goal.returns-in-Split-clause-answers
returns-in-Split-clause-answers c = at_method (chars c.args.text.now) c.args.method method.Split c.args.arguments.now c.with_list.result c.in-Split.is (c.with_list.ensures.answers (characters_method (chars c.args.text.now) method.Split c.args.arguments.now) c.splits.ensures)

pub returns-in-StartsWith-clause-answers : goal.returns-in-StartsWith-clause-answers
returns-in-StartsWith-clause-answers c = at_method (chars c.args.text.now) c.args.method method.StartsWith c.args.arguments.now c.with_value-in-StartsWith.result c.in-StartsWith.is (c.with_value-in-StartsWith.ensures.answers (characters_method (chars c.args.text.now) method.StartsWith c.args.arguments.now) c.starts.ensures)

pub returns-in-Strip-clause-answers : goal.returns-in-Strip-clause-answers
returns-in-Strip-clause-answers c = at_method (chars c.args.text.now) c.args.method method.Strip c.args.arguments.now c.with_value-in-Strip.result c.in-Strip.is (c.with_value-in-Strip.ensures.answers (characters_method (chars c.args.text.now) method.Strip c.args.arguments.now) c.strips.ensures)
