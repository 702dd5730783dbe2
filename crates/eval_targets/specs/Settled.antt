-- How far an assignment comes before anything is evaluated or asked.
use Rattle.std.specs.Prelude.{◌≡◌, ◌+◌, ◌*◌, ◌≤◌, ℕ, List, [], ◌∷◌, length, Option, Some, None, Result, Ok, Err}
use Rattle.std.specs.Bool.{⊤}
use Rattle.rp_base.specs.declared.ends.OpEnd.{OpEnd}
use Rattle.rp_base.specs.declared.ends.OpEnd.TheVariants as op_end
use Rattle.rp_base.specs.declared.value.Value.{Value}
use Rattle.object_operations.specs.declared.operation.Operation.{Operation}
use Rattle.object_operations.specs.declared.operation.Operation.TheVariants as operation
use Rattle.object_operations.specs.declared.special.Special.TheVariants as special
use Rattle.side_trees.specs.Trees.{Return, Stop, bind}
use Rattle.language_rules.specs.Codes.{Completion, Env, Raises}
use Rattle.language_rules.specs.Going.{RuleTree, done, evaluates, on_value}
use Rattle.language_rules.specs.Running.{runs}
use Rattle.language_rules.specs.States.{State}
use Rattle.eval_frames.specs.declared.frame.Frame.{Frame}
use Rattle.eval_frames.specs.declared.frame.Frame.TheVariants as frame
use Rattle.eval_frames.specs.declared.loop_frames.Collection.TheVariants as collection
use Rattle.eval_frames.specs.declared.loop_frames.DrainFrame.TheVariants as drain_frame
use Rattle.eval_frames.specs.declared.loop_frames.Draining.TheVariants as draining
use Rattle.eval_frames.specs.declared.next.Next.{Next}
use Rattle.eval_frames.specs.declared.target_frame.Destination.{Destination}
use Rattle.eval_frames.specs.declared.target_frame.Destination.TheVariants as destination
use Rattle.eval_frames.specs.declared.target_frame.TargetFrame.TheVariants as target_frame
use Rattle.eval_frames.specs.Meaning.{load, operates_over}
use Rattle.eval_frames.specs.TargetFrames.{through_target}
use Rattle.eval_targets.specs.declared.places.Place.{Place}
use Rattle.eval_targets.specs.declared.settled.Assigning.{Assigning}
use Rattle.eval_targets.specs.declared.settled.Assigning.TheVariants as assigning
use Rattle.eval_targets.specs.declared.settled.Waiting.{Waiting}
use Rattle.eval_targets.specs.declared.settled.Waiting.TheVariants as waiting

-- what an assignment waits for, and what goes on behind it
abbrev pub awaited : Waiting → RuleTree
awaited (waiting.Receiver env number f) = evaluates env number (through_target f)
awaited (waiting.ReceiverOfEach env number f targets values) = bind (evaluates env number (through_target f)) (on_value (through_target (target_frame.Each env targets values)))
awaited (waiting.Items env list targets) = operates_over (operation.Special list special.Iter []) (frame.Drain (drain_frame.Iterator collection.List (draining.Unpack env targets)))

-- what is left of an assignment that came so far
abbrev pub settled : Assigning → RuleTree
settled (assigning.Ended a) = Return a
settled (assigning.Left b) = Stop b
settled (assigning.Waits w) = awaited w

-- The first computation in the first state is the second one in the second state, whatever goes on behind: no run tells them apart.
abbrev pub GoesOnAs : State → RuleTree → State → RuleTree → Type 0
GoesOnAs s t s' t' = (k : Completion → RuleTree) (units : ℕ) (printed : List ℕ) → runs units (bind t k) s printed ≡ runs units (bind t' k) s' printed

-- A value goes to a target that is no tuple: it is bound, or the receiver of an attribute or an item is evaluated first. Want of memory tells nothing.
abbrev pub Placed : Env → State → RuleTree → State → Result (Option Place) OpEnd → Type 0
Placed env s t s' (Ok None) = GoesOnAs s t s' (Return done)
Placed env s t s' (Ok (Some p)) = GoesOnAs s t s' (evaluates env p.number (through_target p.frame))
Placed env s t s' (Err (op_end.Raise r)) = GoesOnAs s t s' (Return (Raises r))
Placed env s t s' (Err (op_end.Beyond b)) = GoesOnAs s t s' (Stop b)
Placed env s t s' (Err op_end.NoMemory) = ⊤

-- the operation by which a value goes to an attribute or an item
abbrev pub storing : Destination → Value → Operation
storing (destination.Attribute receiver name) v = operation.SetAttr receiver name v
storing (destination.Item receiver key) v = operation.Special receiver special.SetItem (key ∷ v ∷ [])

-- so little is added that a frame may still be pushed before
abbrev pub IsSlight : List Frame → Next → List Frame → Type 0
IsSlight now n before = load now n ≤ 3 * length before + 6
