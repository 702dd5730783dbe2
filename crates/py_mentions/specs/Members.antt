-- The table of the names that suites bind.
use Rattle.std.specs.Prelude.{◌≡◌, ℕ, Bool, ◌==◌, ◌&&◌, List, slice_get}
use Rattle.std.specs.Str.{bytes_eq}
use Rattle.std.specs.HashSet.{HashSet, contains_by}
use denote.Ref.{Bor}
use Rattle.py_ast.specs.declared.program.Program.{Program}
use Rattle.py_mentions.specs.Rules.{suite_binds}

abbrev pub MemberSet : Type 0 → Type 0
MemberSet S = HashSet (ℕ × Bor (List ℕ)) S

-- the table has this name for this suite
abbrev pub has_member : {S : Type 0} → MemberSet S → ℕ → List ℕ → Bool
has_member set suite t = contains_by (λ k. (suite == k.0) && bytes_eq t k.1.now) set

-- the table has the names that suites bind
abbrev pub Knows : {S : Type 0} → Program → MemberSet S → Type 0
Knows p set = (suite : ℕ) → (t : List ℕ) → has_member set suite t ≡ suite_binds p t (slice_get p.nodes suite)
