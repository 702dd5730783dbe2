-- The rule book: what each piece of code does.
use Rattle.side_trees.specs.Trees.{Return, bind}
use Rattle.language_rules.specs.Codes.{Code, Node, Member, Perform, Give, Then, Go, WhileTest, ForNext, DrainNext, SearchNext, ValuesNext, ListText, DictText, EqualItem, AddItem, AttributeCall, Inspect}
use Rattle.language_rules.specs.Going.{RuleTree, carry}
use Rattle.language_rules.specs.Nodes.{node_rule, member_node_rule}
use Rattle.language_rules.specs.Perform.{perform}
use Rattle.language_rules.specs.Loops.{while_rule, for_rule}
use Rattle.language_rules.specs.Draining.{drain_rule}
use Rattle.language_rules.specs.Searching.{search_rule, values_rule}
use Rattle.language_rules.specs.Printing.{list_text_rule, dict_text_rule}
use Rattle.language_rules.specs.CellComparing.{equal_item_rule}
use Rattle.language_rules.specs.Arithmetic.{add_item_rule}
use Rattle.language_rules.specs.Inspecting.{attribute_call_rule, inspect_rule}

abbrev pub expand : Code → RuleTree
expand (Node env n) = node_rule env n
expand (Member env n) = member_node_rule env n
expand (Perform o) = perform o
expand (Give a) = Return a
expand (Then c f) = bind (expand c) (λ a. expand (f a))
expand (Go t) = carry t
expand (WhileTest env test body) = while_rule env test body
expand (ForNext env target body iterator a) = for_rule env target body iterator a
expand (DrainNext container iterator items a) = drain_rule container iterator items a
expand (SearchNext list position x a) = search_rule list position x a
expand (ValuesNext dict shape position x a) = values_rule dict shape position x a
expand (ListText list position made a) = list_text_rule list position made a
expand (DictText dict shape position made a) = dict_text_rule dict shape position made a
expand (EqualItem list other op count position a) = equal_item_rule list other op count position a
expand (AddItem other count position made a) = add_item_rule other count position made a
expand (AttributeCall receiver name arguments) = attribute_call_rule receiver name arguments
expand (Inspect n) = inspect_rule n
