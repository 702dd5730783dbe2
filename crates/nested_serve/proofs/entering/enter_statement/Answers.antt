use Rattle.std.proofs.Common.{◌∙◌, ap, sym, ℕ, List}
use Rattle.py_ast.specs.declared.statement.Statement.TheVariants as statement
use Rattle.language_rules.specs.Statements.{statement_rule}
use Rattle.nested_serve.proofs.Steps.{anywhere, as_situated, at_stack, at_statement, over_texts, raised_over}
use Rattle.nested_serve.proofs.entering.enter_statement.Goals as goal

pub returns-in-Def-clause-means : goal.returns-in-Def-clause-means
returns-in-Def-clause-means c =
    let s = statement.Def c.in-Def.function in
    at_statement c.begin_def.result c.args.stack.now.items c.args.stack.now.items c.args.store.now.cells c.begin_def.new.store.cells c.args.texts.now c.args.handled.now c.args.env c.args.statement.now s c.in-Def.is
    (as_situated c.begin_def.result c.args.stack.now.items c.args.stack.now.items c.args.store.now.cells c.begin_def.new.store.cells c.args.texts.now c.args.handled.now (statement_rule c.args.env s)
    (at_stack c.begin_def.result c.args.stack.now.items c.args.store.now.cells c.begin_def.new.store.cells c.args.texts.now (statement_rule c.args.env s) c.begin_def.ensures.means))

pub returns-in-Try-clause-means : goal.returns-in-Try-clause-means
returns-in-Try-clause-means c =
    let s = statement.Try c.in-Try.body c.as_slice.result.now c.in-Try.finally in
    at_statement c.begin_try.result c.args.stack.now.items c.begin_try.new.stack.items c.args.store.now.cells c.args.store.now.cells c.args.texts.now c.args.handled.now c.args.env c.args.statement.now s
    (c.in-Try.is ∙ ap (λ (handlers : List ℕ). statement.Try c.in-Try.body handlers c.in-Try.finally) (sym c.as_slice.ensures))
    (over_texts c.begin_try.result c.args.stack.now.items c.begin_try.new.stack.items c.args.store.now.cells c.args.texts.now c.args.handled.now (statement_rule c.args.env s) c.begin_try.ensures.means)

pub returns-in-For-clause-means : goal.returns-in-For-clause-means
returns-in-For-clause-means c =
    let s = statement.For c.in-For.target c.in-For.source c.in-For.body in
    at_statement c.begin_for.result c.args.stack.now.items c.begin_for.new.stack.items c.args.store.now.cells c.args.store.now.cells c.args.texts.now c.args.handled.now c.args.env c.args.statement.now s c.in-For.is
    (anywhere c.begin_for.result c.args.stack.now.items c.begin_for.new.stack.items c.args.store.now.cells c.args.texts.now c.args.handled.now (statement_rule c.args.env s) c.begin_for.ensures.means)

pub returns-in-RaiseAgain-clause-means : goal.returns-in-RaiseAgain-clause-means
returns-in-RaiseAgain-clause-means c =
    at_statement c.raise_again.result c.args.stack.now.items c.args.stack.now.items c.args.store.now.cells c.args.store.now.cells c.args.texts.now c.args.handled.now c.args.env c.args.statement.now statement.RaiseAgain c.in-RaiseAgain.is
    (raised_over c.raise_again.result c.args.stack.now.items c.args.store.now.cells c.args.texts.now c.args.handled.now (statement_rule c.args.env statement.RaiseAgain) c.raise_again.ensures.means)

pub returns-in-RaiseName-clause-means : goal.returns-in-RaiseName-clause-means
returns-in-RaiseName-clause-means c =
    let s = statement.RaiseName (record { text = c.as_str.result.now; line = c.in-RaiseName.name.line }) in
    at_statement c.raise_name.result c.args.stack.now.items c.args.stack.now.items c.args.store.now.cells c.args.store.now.cells c.args.texts.now c.args.handled.now c.args.env c.args.statement.now s
    (c.in-RaiseName.is ∙ ap (λ (text : List ℕ). statement.RaiseName (record { text = text; line = c.in-RaiseName.name.line })) (sym c.as_str.ensures))
    (raised_over c.raise_name.result c.args.stack.now.items c.args.store.now.cells c.args.texts.now c.args.handled.now (statement_rule c.args.env s) c.raise_name.ensures.means)

pub returns-in_default : goal.returns-in_default
returns-in_default c = record {
  means = as_situated c.begin_statement.result c.args.stack.now.items c.begin_statement.new.stack.items c.args.store.now.cells c.args.store.now.cells c.args.texts.now c.args.handled.now (statement_rule c.args.env c.args.statement.now) c.begin_statement.ensures.means;
  light = c.begin_statement.ensures.light;
}
