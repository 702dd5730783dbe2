-- What the code keeps while it prints.
use Rattle.std.specs.Prelude.{◌≡◌, ℕ, ◌+◌, ◌<◌, ◌≤◌, List, [], ◌++◌, ◌==◌, codes, if◌then◌else◌, length, take, Result, Ok, Err}
use Rattle.std.specs.Bool.{⊤}
use Rattle.rp_base.specs.declared.exceptions.Beyond.TheVariants as beyond
use Rattle.py_strs.specs.declared.ends.StrEnd.{StrEnd}
use Rattle.py_strs.specs.declared.ends.StrEnd.TheVariants as str_end
use Rattle.py_plain.specs.declared.ends.PlainEnd.{PlainEnd}
use Rattle.py_plain.specs.declared.ends.PlainEnd.TheVariants as end

-- as `PrintsWithin`, but that after an error a part may stand behind what was there
abbrev pub Puts : ℕ → List ℕ → List ℕ → List ℕ → Result ⊤ PlainEnd → Type 0
Puts most text old new (Ok _) = (length old + length text ≤ most) × (new ≡ old ++ text)
Puts most text old new (Err (end.Beyond beyond.Size)) = (most < length old + length text) × (take (length old) new ≡ old)
Puts most text old new (Err end.NoMemory) = take (length old) new ≡ old
Puts most text old new _ = ⊥

-- the end of a call that prints a text
abbrev pub end_of_text : StrEnd → PlainEnd
end_of_text str_end.NoMemory = end.NoMemory
end_of_text _ = end.Beyond beyond.Size

-- what stands in front of item i of a tuple
abbrev pub separator : ℕ → List ℕ
separator i = if i == 0 then [] else codes ", "
