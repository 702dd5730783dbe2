use Rattle.std.proofs.Common.{◌≡◌, ◌∙◌, List, Ok, Result, IfOk, true, ap, sym, refl}
use Rattle.rp_base.specs.declared.ends.OpEnd.{OpEnd}
use Rattle.py_ast.specs.declared.program.Program.{Program}
use Rattle.py_store.specs.declared.cell.Cell.TheVariants as cell
use Rattle.object_operations.specs.declared.method.BuiltinMethod.{BuiltinMethod}
use Rattle.side_trees.specs.Trees.{Return}
use Rattle.language_rules.specs.AtOnce.{stated}
use Rattle.language_rules.specs.Codes.{Gives}
use Rattle.language_rules.specs.Going.{gives_new}
use Rattle.language_rules.specs.States.{State}
use Rattle.language_rules.specs.TextMethods.{text_method}
use Rattle.eval_frames.specs.declared.next.Next.TheVariants as next
use Rattle.eval_frames.specs.Meaning.{MeansIn}
use Rattle.text_methods.specs.TextAnswers.{is_drain, joins_one}
use Rattle.text_methods.specs.declared.answers.TextAnswer.{TextAnswer}
use Rattle.eval_methods.proofs.TextLemmas.{as_another, ended_text, only_join}
use Rattle.eval_methods.proofs.texts.method_of_text.Goals as goal

pub returns-in-Ok-Value-clause-means : goal.returns-in-Ok-Value-clause-means
returns-in-Ok-Value-clause-means c =
    as_another (text_method c.args.text.now c.args.method c.args.arguments.now) (Return (Gives c.in-Ok-Value.value)) (next.Give (Gives c.in-Ok-Value.value)) c.args.store.now.cells c.args.stack.now.items
    (rw c.in-Ok-Value.field-0-is at (rw c.in-Ok-Value.is at c.text_method.ensures.answers)) refl

pub returns-in-Ok-List-clause-means : goal.returns-in-Ok-List-clause-means
returns-in-Ok-List-clause-means c =
    as_another (text_method c.args.text.now c.args.method c.args.arguments.now) (gives_new (cell.List c.in-Ok-List.items)) (next.Make (cell.List c.in-Ok-List.items)) c.args.store.now.cells c.args.stack.now.items
    (rw c.in-Ok-List.field-0-is at (rw c.in-Ok-List.is at c.text_method.ensures.answers)) refl

pub returns-in-Ok-Drain-clause-means : goal.returns-in-Ok-Drain-clause-means
returns-in-Ok-Drain-clause-means c =
    let drains : joins_one c.args.method c.args.arguments.now ≡ true =
    sym c.text_method.ensures.drain
    ∙ ap (λ (r : Result TextAnswer OpEnd). is_drain r) c.in-Ok-Drain.is
    ∙ ap (λ (a : TextAnswer). is_drain (Ok a)) c.in-Ok-Drain.field-0-is in
    only_join (λ (m : BuiltinMethod). IfOk c.join_with.result (λ n. (fixed : State) (texts : List Program) → MeansIn (stated fixed c.args.store.now.cells texts) c.join_with.new.stack.items n (text_method c.args.text.now m c.args.arguments.now) c.args.stack.now.items))
    c.args.method c.args.arguments.now drains c.join_with.ensures.means

pub returns-in-Err-clause-means : goal.returns-in-Err-clause-means
returns-in-Err-clause-means c =
    ended_text (text_method c.args.text.now c.args.method c.args.arguments.now) c.text_method.result c.in-Err.end c.computed.result c.args.store.now.cells c.args.stack.now.items c.in-Err.is c.text_method.ensures.answers c.computed.ensures.means
