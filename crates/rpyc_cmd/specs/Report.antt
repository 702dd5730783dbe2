-- What the program prints: the report of a pair, that of a script alone, and the lines of its refusals.
use Rattle.std.specs.Fmt.{decimal}
use Rattle.std.specs.Prelude.{ℕ, if◌then◌else◌, ◌==◌, Bool, true, List, [], ◌∷◌, ◌++◌, length, Option, Some, None, codes}
use Rattle.rp_base.specs.Names.{rule_name, beyond_name}
use Rattle.rp_base.specs.declared.rules.Rule.{Rule}
use Rattle.language_rules.specs.Exceptions.{exception_repr}
use Rattle.nested_serve.specs.declared.alone.AloneEnd.{AloneEnd}
use Rattle.nested_serve.specs.declared.alone.AloneEnd.TheVariants as alone
use Rattle.pair_run.specs.declared.ends.RunEnd.{RunEnd}
use Rattle.pair_run.specs.Running.{end_name}

-- a text and a line feed
abbrev pub line : List ℕ → List ℕ
line text = text ++ 10 ∷ []

-- whether what was printed ends in a line feed, or is empty
abbrev pub ends_line : List ℕ → Bool
ends_line [] = true
ends_line (c ∷ []) = c == 10
ends_line (_ ∷ c ∷ text) = ends_line (c ∷ text)

-- what was printed, its last line ended
abbrev pub whole_lines : List ℕ → List ℕ
whole_lines printed = if ends_line printed then printed else line printed

-- `B n`, and the n bytes that this side printed
abbrev pub section : List ℕ → List ℕ → List ℕ
section side printed = line (side ++ codes " " ++ decimal (length printed)) ++ whole_lines printed

abbrev pub units_text : Option ℕ → List ℕ
units_text (Some units) = decimal units
units_text None = codes "-"

abbrev pub tables_text : Option (ℕ × ℕ) → List ℕ
tables_text (Some (a, b)) = codes "A " ++ decimal a ++ codes " B " ++ decimal b
tables_text None = codes "-"

abbrev pub report : RunEnd → List ℕ → List ℕ → Option ℕ → Option (ℕ × ℕ) → List ℕ
report end out_b out_a units tables =
    section (codes "B") out_b ++ section (codes "A") out_a
    ++ line (codes "end " ++ end_name end) ++ line (codes "units " ++ units_text units) ++ line (codes "tables " ++ tables_text tables)

-- how a script alone ended
abbrev pub alone_end_text : AloneEnd → List ℕ
alone_end_text alone.Done = codes "done"
alone_end_text (alone.Raised r) = codes "raised A " ++ exception_repr r.kind r.args
alone_end_text alone.OutOfFuel = codes "fuel"
alone_end_text (alone.Beyond b) = codes "beyond " ++ beyond_name b

-- the report of a script that was run alone: what it printed, its end and its units
abbrev pub run_text : List ℕ → AloneEnd → ℕ → List ℕ
run_text printed end units = section (codes "A") printed ++ line (codes "end " ++ alone_end_text end) ++ line (codes "units " ++ decimal units)

-- `rpyc: words at K`
abbrev pub words_line : ℕ → List ℕ
words_line at = line (codes "rpyc: words at " ++ decimal at)

-- `rpyc: NAME line L rule R`
abbrev pub script_line : List ℕ → ℕ → Rule → List ℕ
script_line name number rule = line (codes "rpyc: " ++ name ++ codes " line " ++ decimal number ++ codes " rule " ++ rule_name rule)

-- `rpyc: NAME not there`
abbrev pub not_there_line : List ℕ → List ℕ
not_there_line name = line (codes "rpyc: " ++ name ++ codes " not there")

-- `rpyc: NAME read fault`
abbrev pub read_fault_line : List ℕ → List ℕ
read_fault_line name = line (codes "rpyc: " ++ name ++ codes " read fault")
