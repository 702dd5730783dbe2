-- What looks at the state, and reads a name.
use Rattle.std.proofs.Common.{◌≡◌, List, ℕ, Result, Ok, Err, sym, ap, subst}
use Rattle.rp_base.specs.declared.ends.OpEnd.{OpEnd}
use Rattle.rp_base.specs.declared.ends.OpEnd.TheVariants as op_end
use Rattle.rp_base.specs.declared.value.Value.{Value}
use Rattle.language_rules.specs.Answers.{gives}
use Rattle.language_rules.specs.AtOnce.{at_once, Comes, Computes}
use Rattle.language_rules.specs.Codes.{Env}
use Rattle.language_rules.specs.Going.{RuleTree, looks}
use Rattle.language_rules.specs.Names.{Place, place_of, reads_at, reads_name}
use Rattle.language_rules.specs.States.{State}

-- what is nothing but an end comes to it in every state
ends : (t : RuleTree) (s : State) (answer : Result Value OpEnd) → Computes t answer → Comes t s answer s s
ends t s (Ok v) e = ap (λ u. at_once u s) e
ends t s (Err (op_end.Raise r)) e = ap (λ u. at_once u s) e
ends t s (Err (op_end.Beyond b)) e = ap (λ u. at_once u s) e
ends t s (Err op_end.NoMemory) e = e

-- what looks at the state first
pub looked : (f : State → RuleTree) (s now kept : State) (answer : Result Value OpEnd) → Comes (f s) s answer now kept → Comes (looks f) s answer now kept
looked f s now kept (Ok v) e = e
looked f s now kept (Err (op_end.Raise r)) e = e
looked f s now kept (Err (op_end.Beyond b)) e = e
looked f s now kept (Err op_end.NoMemory) e = e

-- a name that is read at its place
pub read_there : (s : State) (env : Env) (name : List ℕ) (place : Place) (answer : Result Value OpEnd) → place_of s env name ≡ place → Computes (reads_at s name gives place) answer → Comes (reads_name env name gives) s answer s s
read_there s env name place answer is e =
    looked (λ now. reads_at now name gives (place_of now env name)) s s s answer (ends (reads_at s name gives (place_of s env name)) s answer (subst (λ p. Computes (reads_at s name gives p) answer) (sym is) e))
