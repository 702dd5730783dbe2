use Rattle.std.proofs.Common.{List, IfOk, sym, subst}
use Rattle.rp_base.specs.declared.value.Value.{Value}
use Rattle.object_operations.specs.declared.method.BuiltinMethod.TheVariants as method
use Rattle.py_ast.specs.declared.program.Program.{Program}
use Rattle.py_dicts.proofs.ArgumentLemmas.{one_left}
use Rattle.language_rules.specs.AtOnce.{stated}
use Rattle.language_rules.specs.States.{State}
use Rattle.language_rules.specs.TextMethods.{text_method}
use Rattle.eval_frames.specs.Meaning.{MeansIn}
use Rattle.eval_methods.proofs.texts.join_with.Goals as goal

pub returns-in-len1-clause-means : goal.returns-in-len1-clause-means
returns-in-len1-clause-means c =
    subst (λ (vs : List Value). IfOk c.join_parts.result (λ n. (fixed : State) (texts : List Program) → MeansIn (stated fixed c.args.store.now.cells texts) c.join_parts.new.stack.items n (text_method c.args.text.now method.Join vs) c.args.stack.now.items))
    (sym (one_left c.args.arguments.now c.parts-item.result c.in-len1.len_at_least c.in-len1.len_below c.parts-item.is))
    c.join_parts.ensures.means
