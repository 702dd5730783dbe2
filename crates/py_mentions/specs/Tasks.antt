-- What a walk has still to do, from the next task on.
use Rattle.std.specs.Prelude.{suc, ◌-◌, List, [], ◌∷◌, ◌++◌, map, take, length, Option, Some, None}
use Rattle.py_ast.specs.declared.program.Program.{Program}
use Rattle.py_mentions.specs.declared.place.Construct.{Construct}
use Rattle.py_mentions.specs.declared.place.Task.{Task}
use Rattle.py_mentions.specs.declared.place.Task.TheVariants as task
use Rattle.py_mentions.specs.Walks.{Finds, smaller_parts, walk, within}

-- without the innermost construct
abbrev pub outside : List Construct → List Construct
outside cs = take (length cs - 1) cs

-- a part with a construct around it ends with that construct
abbrev pub leaves : Option Construct → List Task
leaves None = []
leaves (Some c) = task.Leave ∷ []

-- what a task finds by itself
abbrev pub task_finds : {A : Type 0} → Finds A → List Construct → Task → List A
task_finds here cs (task.Visit part) = here (within cs part.around) part.role part.number
task_finds here cs task.Leave = []

-- the constructs behind a task
abbrev pub constructs_after : List Construct → Task → List Construct
constructs_after cs (task.Visit part) = within cs part.around
constructs_after cs task.Leave = outside cs

-- the tasks that come before the others: the parts of the node
abbrev pub tasks_after : Program → Task → List Task
tasks_after p (task.Visit part) = map task.Visit (smaller_parts p part.role part.number) ++ leaves part.around
tasks_after p task.Leave = []

-- what all tasks will find, within these constructs
abbrev pub todo : {A : Type 0} → Program → Finds A → List Construct → List Task → List A
todo p here cs [] = []
todo p here cs (task.Leave ∷ ts) = todo p here (outside cs) ts
todo p here cs (task.Visit part ∷ ts) = walk p here (suc part.number) (within cs part.around) part.role part.number ++ todo p here cs ts
