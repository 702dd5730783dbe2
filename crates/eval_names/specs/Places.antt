-- Where a name is, as the code says it.
use Rattle.language_rules.specs.Names as names
use Rattle.eval_names.specs.declared.place.Place.{Place}
use Rattle.eval_names.specs.declared.place.Place.TheVariants as place

-- the place that the rules mean
abbrev pub meant : Place → names.Place
meant (place.Own scope) = names.Own scope
meant (place.Outer scope) = names.Outer scope
meant place.Global = names.Global
meant place.Missing = names.Missing
