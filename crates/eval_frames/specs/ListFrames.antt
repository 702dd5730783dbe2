-- What waits while a list or a dict is searched, compared, added or printed, and what it makes of an end.
use Rattle.std.specs.Prelude.{◌==◌, ℕ, suc, Bool, true, false, List, [], ◌∷◌, codes, length, map, remove, reverse}
use Rattle.rp_base.specs.declared.exceptions.Beyond.TheVariants as beyond
use Rattle.side_trees.specs.Trees.{Return, Stop, bind}
use Rattle.language_rules.specs.Answers.{gives}
use Rattle.language_rules.specs.Arithmetic.{add_item_rule, adds_length}
use Rattle.language_rules.specs.CellComparing.{ends_equality, equal_from, equal_item_rule, equality, on_length_value, same_length}
use Rattle.language_rules.specs.Codes.{Completion}
use Rattle.language_rules.specs.Containing.{is_place}
use Rattle.language_rules.specs.Going.{RuleTree, boolean, carry, changes, on_value}
use Rattle.language_rules.specs.ListMethods.{becomes, on_place}
use Rattle.language_rules.specs.Printing.{adds_part, dict_text_rule, ends_printing, further_items_step, gives_text, list_text_rule, on_text, repr_step}
use Rattle.language_rules.specs.Searching.{gives_position, reads_list, search_rule, values_rule}
use Rattle.language_rules.specs.Truth.{on_bool}
use Rattle.eval_frames.specs.declared.list_frames.AdditionFrame.{AdditionFrame}
use Rattle.eval_frames.specs.declared.list_frames.AdditionFrame.TheVariants as addition_frame
use Rattle.eval_frames.specs.declared.list_frames.EqualityFrame.{EqualityFrame}
use Rattle.eval_frames.specs.declared.list_frames.EqualityFrame.TheVariants as equality_frame
use Rattle.eval_frames.specs.declared.list_frames.ListPair.{ListPair}
use Rattle.eval_frames.specs.declared.list_frames.SearchFrame.{SearchFrame}
use Rattle.eval_frames.specs.declared.list_frames.SearchFrame.TheVariants as search_frame
use Rattle.eval_frames.specs.declared.list_frames.TextFrame.{TextFrame}
use Rattle.eval_frames.specs.declared.list_frames.TextFrame.TheVariants as text_frame
use Rattle.eval_frames.specs.declared.list_frames.TupleLevel.{TupleLevel}
use Rattle.rp_base.specs.declared.value.Value.{Value}

abbrev pub through_search : SearchFrame → Completion → RuleTree
through_search (search_frame.List n i x) a = search_rule n i x a
through_search (search_frame.Values n shape i x) a = values_rule n shape i x a
through_search search_frame.Found a = on_value (λ v. gives (boolean (is_place v))) a
through_search search_frame.Index a = on_value (on_place gives_position) a
through_search (search_frame.Remove n) a = on_value (on_place (λ k. reads_list n (λ items. becomes n (remove items k)))) a

-- the lists have so many items both, and are compared from the first on; or they are not equal
abbrev pub compares_items : ListPair → Completion → RuleTree
compares_items p a = on_value (on_length_value (λ m. reads_list p.list (λ items. elim (length items == m) [ true ↦ equal_from p.list p.other p.op m 0 | false ↦ equality p.op false ]))) a

-- whether the items at a position are equal
abbrev pub after_pair : ListPair → ℕ → ℕ → Completion → RuleTree
after_pair p len i a = on_bool (λ b. same_length p.list len (λ items. elim b [ true ↦ equal_from p.list p.other p.op len (suc i) | false ↦ ends_equality p.list p.other p.op len false ])) a

-- the other's length at the end
abbrev pub after_lists : ListPair → ℕ → Bool → Completion → RuleTree
after_lists p len b a = on_value (on_length_value (λ m. same_length p.list len (λ items. elim (m == len) [ true ↦ equality p.op b | false ↦ Stop beyond.Changed ]))) a

abbrev pub through_equality : EqualityFrame → Completion → RuleTree
through_equality (equality_frame.Length p) a = compares_items p a
through_equality (equality_frame.Item p len i) a = equal_item_rule p.list p.other p.op len i a
through_equality (equality_frame.Equal p len i) a = after_pair p len i a
through_equality (equality_frame.End p len b) a = after_lists p len b a

abbrev pub through_addition : AdditionFrame → Completion → RuleTree
through_addition (addition_frame.Length list other) a = on_value (adds_length list other) a
through_addition (addition_frame.Item other n i made) a = add_item_rule other n i made a

-- the items of a tuple behind one whose text is there, and its end; a single item is followed by a comma
abbrev pub further_items : Bool → List Value → List ℕ → RuleTree
further_items true waiting made = adds_part made (codes ",)") gives_text
further_items false waiting made = carry (further_items_step (map repr_step waiting) made)

-- the text of an item goes to its tuple, whose text goes to the tuple around it, the innermost first
abbrev pub through_levels : List TupleLevel → List ℕ → RuleTree
through_levels [] t = gives_text t
through_levels (l ∷ ls) t = adds_part l.made t (λ made. bind (further_items l.is_single (reverse l.waiting) made) (on_text (through_levels ls)))

abbrev pub through_text : TextFrame → Completion → RuleTree
through_text (text_frame.List n i made) a = list_text_rule n i made a
through_text (text_frame.Dict n shape i made) a = dict_text_rule n shape i made a
through_text (text_frame.Tuple levels) a = on_text (through_levels (reverse levels)) a
through_text text_frame.End a = changes ends_printing (Return a)
