-- How worked scripts are shown: what a report says, and the conversation.
use Rattle.std.proofs.Common.{ℕ, ◌-◌, pos, List, [], ◌∷◌, ◌++◌, codes, length, None}
use Rattle.rp_base.specs.declared.handlers.Handler.{Handler}
use Rattle.rp_base.specs.declared.handlers.Handler.TheVariants as handler
use Rattle.rp_base.specs.declared.plain.Plain.{Plain}
use Rattle.rp_base.specs.declared.plain.Plain.TheVariants as plain
use Rattle.py_ast.specs.declared.program.Program.{Program}
use Rattle.side_trees.specs.Sides.{Request, Reply}
use Rattle.side_trees.specs.SharedRun.{Side, A, B}
use Rattle.language_rules.specs.Boxing.{labelled}
use Rattle.language_rules.specs.Messages.{Replied, Excepted}
use Rattle.language_rules.specs.OneInterpreter.{ScriptCourse, one_course, solo_course, RunEnd, run_end, heap_of, units_left, output, Said, Says, crossing}
use Rattle.language_rules.specs.Starting.{Reader}

-- How the run ends, what each side printed, the units spent, and how many cells of A and of B the other side refers to.
pub record Shown : Type 0 where
  pub ends : RunEnd
  pub of_b : List ℕ
  pub of_a : List ℕ
  pub units : ℕ
  pub exports : ℕ × ℕ

abbrev pub shown : ℕ → ScriptCourse → Shown
shown fuel c = record {
  ends = run_end c;
  of_b = output B c;
  of_a = output A c;
  units = fuel - units_left c;
  exports = (length (crossing A (heap_of c)), length (crossing B (heap_of c)));
}

-- these examples read no text while they run
abbrev pub no_reader : Reader
no_reader = record { script = λ t. None; expression = λ t. None }

abbrev pub pair : Program → Program → ℕ → ScriptCourse
pair b a fuel = one_course no_reader b a [] fuel

abbrev pub pair_shown : Program → Program → ℕ → Shown
pair_shown b a fuel = shown fuel (pair b a fuel)

abbrev pub alone_shown : Program → ℕ → Shown
alone_shown t fuel = shown fuel (solo_course no_reader t fuel)

-- a line of output
abbrev pub line : List ℕ → List ℕ
line t = t ++ (10 ∷ [])

-- ---- messages

abbrev pub asks : Side → Handler → Plain → Said
asks h name arguments = Says h (Request (record { handler = name; arguments = arguments }))

abbrev pub replies : Side → Plain → Said
replies h box = Says h (Reply (Replied box))

abbrev pub excepts : Side → Plain → Said
excepts h content = Says h (Reply (Excepted content))

-- boxes: a plain value, a tuple of boxes, an object of the receiver, an object of the sender
abbrev pub by_value : Plain → Plain
by_value p = labelled 1 p

abbrev pub boxes : List Plain → Plain
boxes ps = labelled 2 (plain.Tuple ps)

abbrev triple : List ℕ → ℕ → ℕ → Plain
triple name class_no inst_no = plain.Tuple (plain.Text name ∷ plain.Int (pos class_no) ∷ plain.Int (pos inst_no) ∷ [])

abbrev pub yours : List ℕ → ℕ → ℕ → Plain
yours name class_no inst_no = labelled 3 (triple name class_no inst_no)

abbrev pub mine : List ℕ → ℕ → ℕ → Plain
mine name class_no inst_no = labelled 4 (triple name class_no inst_no)

abbrev pub named : List ℕ → Plain
named t = by_value (plain.Text t)

abbrev pub arguments_of : List Plain → Plain
arguments_of ps = by_value (plain.Tuple ps)

-- the two requests with which every conversation begins
abbrev pub root_name : List ℕ
root_name = codes "rpyc.core.service.SlaveService"

abbrev pub connecting : List Said
connecting =
    asks A handler.GetRoot (by_value (plain.Tuple []))
    ∷ replies B (mine root_name 0 2)
    ∷ asks A handler.GetAttr (boxes (yours root_name 0 2 ∷ named (codes "namespace") ∷ []))
    ∷ replies B (mine (codes "builtins.dict") 0 1)
    ∷ []

-- a name of B's namespace is asked for
abbrev pub asks_name : List ℕ → Said
asks_name t = asks A handler.CallAttr (boxes (
    yours (codes "builtins.dict") 0 1 ∷ named (codes "__getitem__") ∷ arguments_of (plain.Text t ∷ []) ∷ arguments_of [] ∷ []))
