use Rattle.std.proofs.Common.{◌≡◌, ◌++◌, drop, map, option_map}
use Rattle.py_strs.specs.Joining.{characters}
use Rattle.language_rules.specs.TextMethods.{all_characters}
use Rattle.text_methods.proofs.joining.all_texts.Given as goal

-- what was made, and then what is left
abbrev pub invariant-loop-item : goal.invariant-loop-item
invariant-loop-item l = all_characters l.items ≡ option_map (λ ts. map characters l.parts.items ++ ts) (all_characters (drop l.item-index l.items))
