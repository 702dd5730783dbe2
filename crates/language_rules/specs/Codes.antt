-- What a side may be about to do, as data: the pieces of code of the language.
use Rattle.std.specs.Prelude.{ℕ, List, Option}
use Rattle.rp_base.specs.declared.exceptions.Beyond.{Beyond}
use Rattle.rp_base.specs.declared.exceptions.Raised.{Raised}
use Rattle.rp_base.specs.declared.operators.CmpOp.{CmpOp}
use Rattle.rp_base.specs.declared.value.Value.{Value}
use Rattle.object_operations.specs.declared.operation.Operation.{Operation}
-- where code runs, and how a piece of code ends
pub use Rattle.object_operations.specs.declared.ending.Env.{Env}
pub use Rattle.object_operations.specs.declared.ending.Completion.{Completion}
pub use Rattle.object_operations.specs.declared.ending.Completion.TheVariants.{Gives, Raises, Returns, Breaks, Continues, Drained}

-- what the items of a collection that is gone over are put into, whose limit is judged with each of them
pub data Container : Type 0 where
  AList ATuple : Container

-- Node env number: an expression or a statement of a text. Member env number: a statement of a class body. Perform o: an operation, at the home of its receiver.
-- Give a: nothing but this end. Then c f: a piece of code, and then the one that goes on after its end. Go t: a step.
-- WhileTest env test body: a turn of a `while` from its test on. ForNext env target body iterator a: a turn of a `for` from the answer of `__next__` on.
-- DrainNext container iterator items a: the going over a collection, from an answer of `__next__` on, with the items so far.
-- SearchNext list position x a: a search in a list, from the answer for the item at a position on. ValuesNext dict shape position x a: the same in the values of a dict that had this shape.
-- ListText list position made a, DictText dict shape position made a: the printing of a list or a dict, from the text of an item on.
-- EqualItem list other op count position a: the comparison of a list with another, from the other's item on. AddItem other count position made a: a list and then another, from the other's item on.
-- AttributeCall receiver name arguments: an attribute and then its call. Inspect number: the methods of a cell.
-- A step ends at once, leaves the subset, or asks an operation and goes on as code.
mutual
  pub data Code : Type 0 where
    Node : Env → ℕ → Code
    Member : Env → ℕ → Code
    Perform : Operation → Code
    Give : Completion → Code
    Then : Code → (Completion → Code) → Code
    Go : Step → Code
    WhileTest : Env → ℕ → ℕ → Code
    ForNext : Env → ℕ → ℕ → Value → Completion → Code
    DrainNext : Container → Value → List Value → Completion → Code
    SearchNext : ℕ → ℕ → Value → Completion → Code
    ValuesNext : ℕ → ℕ → ℕ → Value → Completion → Code
    ListText : ℕ → ℕ → List ℕ → Completion → Code
    DictText : ℕ → ℕ → ℕ → List ℕ → Completion → Code
    EqualItem : ℕ → Value → CmpOp → ℕ → ℕ → Completion → Code
    AddItem : Value → ℕ → ℕ → List Value → Completion → Code
    AttributeCall : Value → List ℕ → List Value → Code
    Inspect : ℕ → Code

  pub data Step : Type 0 where
    Ends : Completion → Step
    Leaves : Beyond → Step
    Asks : Operation → (Completion → Code) → Step
