use Rattle.std.proofs.Common.{sym, subst}
use Rattle.side_trees.specs.Trees.{Return}
use Rattle.language_rules.specs.AtOnce.{Comes, over}
use Rattle.language_rules.specs.Going.{done}
use Rattle.language_rules.specs.Names.{binds_at}
use Rattle.eval_names.specs.Bound.{as_done}
use Rattle.eval_names.specs.Places.{meant}
use Rattle.eval_names.proofs.names.bind_at.Goals as goal

pub returns-in-Own-clause-comes : goal.returns-in-Own-clause-comes
returns-in-Own-clause-comes c =
    λ s. subst (λ p. Comes (binds_at (over c.args.store.now.cells s) c.args.name c.args.value (Return done) (meant p)) (over c.args.store.now.cells s) (as_done c.bind_variable.result) (over c.bind_variable.new.store.cells s) (over c.args.store.now.cells s)) (sym c.in-Own.is) (c.bind_variable.ensures.comes s)

pub returns-in-Outer-clause-comes : goal.returns-in-Outer-clause-comes
returns-in-Outer-clause-comes c =
    λ s. subst (λ p. Comes (binds_at (over c.args.store.now.cells s) c.args.name c.args.value (Return done) (meant p)) (over c.args.store.now.cells s) (as_done c.bind_variable-in-Outer.result) (over c.bind_variable-in-Outer.new.store.cells s) (over c.args.store.now.cells s)) (sym c.in-Outer.is) (c.bind_variable-in-Outer.ensures.comes s)
