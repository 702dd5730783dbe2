use Rattle.std.proofs.Common.{[], ◌∷◌, Ok}
use Rattle.py_ast.specs.declared.builtin.Builtin.TheVariants as builtin
use Rattle.language_rules.specs.Builtins.{builtin_rule}
use Rattle.eval_exprs.proofs.Cases.{at_function}
use Rattle.eval_exprs.proofs.Moving.{at_cells}
use Rattle.eval_exprs.proofs.builtins.call_of_object.Goals as goal

pub returns-in-Str-clause-means : goal.returns-in-Str-clause-means
returns-in-Str-clause-means c = at_function c.text.result c.text.new.stack.items c.args.stack.now.items c.args.store.now.cells (c.args.value ∷ []) c.args.function builtin.Str c.in-Str.is (at_cells c.text.result c.text.new.stack.items c.args.stack.now.items c.args.store.now.cells (builtin_rule builtin.Str (c.args.value ∷ [])) c.text.ensures.means)

pub returns-in-Repr-clause-means : goal.returns-in-Repr-clause-means
returns-in-Repr-clause-means c = at_function c.shown.result c.shown.new.stack.items c.args.stack.now.items c.args.store.now.cells (c.args.value ∷ []) c.args.function builtin.Repr c.in-Repr.is (at_cells c.shown.result c.shown.new.stack.items c.args.stack.now.items c.args.store.now.cells (builtin_rule builtin.Repr (c.args.value ∷ [])) c.shown.ensures.means)

pub returns-in-Bool-clause-means : goal.returns-in-Bool-clause-means
returns-in-Bool-clause-means c = at_function c.bool.result c.bool.new.stack.items c.args.stack.now.items c.args.store.now.cells (c.args.value ∷ []) c.args.function builtin.Bool c.in-Bool.is (at_cells c.bool.result c.bool.new.stack.items c.args.stack.now.items c.args.store.now.cells (builtin_rule builtin.Bool (c.args.value ∷ [])) c.bool.ensures.means)

pub returns-in-Tuple-clause-means : goal.returns-in-Tuple-clause-means
returns-in-Tuple-clause-means c = at_function c.drain.result c.drain.new.stack.items c.args.stack.now.items c.args.store.now.cells (c.args.value ∷ []) c.args.function builtin.Tuple c.in-Tuple.is c.drain.ensures.means

pub returns-in-Min-clause-means : goal.returns-in-Min-clause-means
returns-in-Min-clause-means c = at_function c.drain-in-Min.result c.drain-in-Min.new.stack.items c.args.stack.now.items c.args.store.now.cells (c.args.value ∷ []) c.args.function builtin.Min c.in-Min.is c.drain-in-Min.ensures.means

pub returns-in-Max-clause-means : goal.returns-in-Max-clause-means
returns-in-Max-clause-means c = at_function c.drain-in-Max.result c.drain-in-Max.new.stack.items c.args.stack.now.items c.args.store.now.cells (c.args.value ∷ []) c.args.function builtin.Max c.in-Max.is c.drain-in-Max.ensures.means

pub returns-in-Sum-clause-means : goal.returns-in-Sum-clause-means
returns-in-Sum-clause-means c = at_function c.drain-in-Sum.result c.drain-in-Sum.new.stack.items c.args.stack.now.items c.args.store.now.cells (c.args.value ∷ []) c.args.function builtin.Sum c.in-Sum.is c.drain-in-Sum.ensures.means

pub returns-in-List-clause-means : goal.returns-in-List-clause-means
returns-in-List-clause-means c = at_function c.drain-in-List.result c.drain-in-List.new.stack.items c.args.stack.now.items c.args.store.now.cells (c.args.value ∷ []) c.args.function builtin.List c.in-List.is c.drain-in-List.ensures.means

pub returns-in-Sorted-clause-means : goal.returns-in-Sorted-clause-means
returns-in-Sorted-clause-means c = at_function c.drain-in-Sorted.result c.drain-in-Sorted.new.stack.items c.args.stack.now.items c.args.store.now.cells (c.args.value ∷ []) c.args.function builtin.Sorted c.in-Sorted.is c.drain-in-Sorted.ensures.means

pub returns-in-Int-clause-means : goal.returns-in-Int-clause-means
returns-in-Int-clause-means c = at_function (Ok c.refuse.result) c.args.stack.now.items c.args.stack.now.items c.args.store.now.cells (c.args.value ∷ []) c.args.function builtin.Int c.in-Int.is (at_cells (Ok c.refuse.result) c.args.stack.now.items c.args.stack.now.items c.args.store.now.cells (builtin_rule builtin.Int (c.args.value ∷ [])) (c.refuse.ensures.means c.args.stack.now.items))

pub returns-in-Abs-clause-means : goal.returns-in-Abs-clause-means
returns-in-Abs-clause-means c = at_function (Ok c.refuse-in-Abs.result) c.args.stack.now.items c.args.stack.now.items c.args.store.now.cells (c.args.value ∷ []) c.args.function builtin.Abs c.in-Abs.is (at_cells (Ok c.refuse-in-Abs.result) c.args.stack.now.items c.args.stack.now.items c.args.store.now.cells (builtin_rule builtin.Abs (c.args.value ∷ [])) (c.refuse-in-Abs.ensures.means c.args.stack.now.items))

pub returns-in-Ord-clause-means : goal.returns-in-Ord-clause-means
returns-in-Ord-clause-means c = at_function (Ok c.refuse-in-Ord.result) c.args.stack.now.items c.args.stack.now.items c.args.store.now.cells (c.args.value ∷ []) c.args.function builtin.Ord c.in-Ord.is (at_cells (Ok c.refuse-in-Ord.result) c.args.stack.now.items c.args.stack.now.items c.args.store.now.cells (builtin_rule builtin.Ord (c.args.value ∷ [])) (c.refuse-in-Ord.ensures.means c.args.stack.now.items))

pub returns-in-Chr-clause-means : goal.returns-in-Chr-clause-means
returns-in-Chr-clause-means c = at_function (Ok c.refuse-in-Chr.result) c.args.stack.now.items c.args.stack.now.items c.args.store.now.cells (c.args.value ∷ []) c.args.function builtin.Chr c.in-Chr.is (at_cells (Ok c.refuse-in-Chr.result) c.args.stack.now.items c.args.stack.now.items c.args.store.now.cells (builtin_rule builtin.Chr (c.args.value ∷ [])) (c.refuse-in-Chr.ensures.means c.args.stack.now.items))

pub returns-in-Dict-clause-means : goal.returns-in-Dict-clause-means
returns-in-Dict-clause-means c = at_function (Ok c.refuse-in-Dict.result) c.args.stack.now.items c.args.stack.now.items c.args.store.now.cells (c.args.value ∷ []) c.args.function builtin.Dict c.in-Dict.is (at_cells (Ok c.refuse-in-Dict.result) c.args.stack.now.items c.args.stack.now.items c.args.store.now.cells (builtin_rule builtin.Dict (c.args.value ∷ [])) (c.refuse-in-Dict.ensures.means c.args.stack.now.items))

pub returns-in-Range-clause-means : goal.returns-in-Range-clause-means
returns-in-Range-clause-means c = at_function (Ok c.refuse-in-Range.result) c.args.stack.now.items c.args.stack.now.items c.args.store.now.cells (c.args.value ∷ []) c.args.function builtin.Range c.in-Range.is (at_cells (Ok c.refuse-in-Range.result) c.args.stack.now.items c.args.stack.now.items c.args.store.now.cells (builtin_rule builtin.Range (c.args.value ∷ [])) (c.refuse-in-Range.ensures.means c.args.stack.now.items))

pub returns-in-Len-clause-means : goal.returns-in-Len-clause-means
returns-in-Len-clause-means c = at_function (Ok c.length.result) c.args.stack.now.items c.args.stack.now.items c.args.store.now.cells (c.args.value ∷ []) c.args.function builtin.Len c.in-Len.is (at_cells (Ok c.length.result) c.args.stack.now.items c.args.stack.now.items c.args.store.now.cells (builtin_rule builtin.Len (c.args.value ∷ [])) (c.length.ensures.means c.args.stack.now.items))
