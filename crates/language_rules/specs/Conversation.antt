-- The language as one of the laws about sides and pairs.
use Rattle.std.specs.Prelude.{ℕ, Bool, true, false, List}
use Rattle.rp_base.specs.declared.exceptions.Beyond.{Beyond}
use Rattle.object_operations.specs.declared.operation.Operation.{Operation}
use Rattle.side_trees.specs.Sides.{Lang}
use Rattle.side_trees.specs.SharedRun.{Heap}
use Rattle.language_rules.specs.Codes.{Code, Completion, Raises}
use Rattle.language_rules.specs.Messages.{Asked, Answer, request_of, code_of, answer_of, completion_of}
use Rattle.language_rules.specs.Rules.{expand}
use Rattle.language_rules.specs.SharedCells.{SharedHeap, seen_by, changed_by, seen_changed, seen_across}
use Rattle.language_rules.specs.States.{State}

-- another text may begin after one that ended with no exception
abbrev pub ended_well : Completion → Bool
ended_well (Raises r) = false
ended_well a = true

abbrev pub script_language : Lang
script_language = record {
  C = Code;
  S = State;
  Q = Operation;
  A = Completion;
  K = Beyond;
  O = List ℕ;
  Req = Asked;
  Ans = Answer;
  expand = expand;
  box_q = request_of;
  read_q = code_of;
  box_a = answer_of;
  read_a = λ s m. completion_of m;
  goes_on = ended_well;
}

abbrev pub one_heap : Heap script_language
one_heap = record { W = SharedHeap; seen_by = seen_by; changed_by = changed_by; seen_changed = seen_changed; seen_across = seen_across }
