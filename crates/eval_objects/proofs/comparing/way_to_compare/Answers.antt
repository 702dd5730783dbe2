use Rattle.std.proofs.Common.{◌∙◌, ap}
use Rattle.py_store.specs.declared.cell.Cell.{Cell}
use Rattle.language_rules.specs.CellComparing.{cells_compared}
use Rattle.eval_objects.proofs.comparing.way_to_compare.Goals as goal

pub returns-in-List : goal.returns-in-List
returns-in-List c = λ number op other. ap (λ (d : Cell). cells_compared number op other d c.args.kind) c.in-List.is ∙ c.of_list.ensures number op other c.in-List.field-0

pub returns-in-Dict : goal.returns-in-Dict
returns-in-Dict c = λ number op other. ap (λ (d : Cell). cells_compared number op other d c.args.kind) c.in-Dict.is ∙ c.of_dict.ensures number op other c.in-Dict.entries c.in-Dict.shape

pub returns-in-View : goal.returns-in-View
returns-in-View c = λ number op other. ap (λ (d : Cell). cells_compared number op other d c.args.kind) c.in-View.is ∙ c.of_view.ensures number op other c.in-View.dict c.in-View.which

pub returns-in-Range : goal.returns-in-Range
returns-in-Range c = λ number op other. ap (λ (d : Cell). cells_compared number op other d c.args.kind) c.in-Range.is ∙ c.of_range.ensures number op other c.in-Range.start c.in-Range.stop c.in-Range.step

pub returns-in-Bound : goal.returns-in-Bound
returns-in-Bound c = λ number op other. ap (λ (d : Cell). cells_compared number op other d c.args.kind) c.in-Bound.is ∙ c.of_bound.ensures number op other c.in-Bound.receiver c.in-Bound.method
