-- The laws of a whole text, for any builder.
use Rattle.std.proofs.Common.{◌≡◌, sym, refl, subst, true, ◌||◌, nat_le, zero-le, le-leb, ◌&&◌, [], ◌∷◌}
use Rattle.py_grammar.specs.declared.symbol.Limits.{Limits}
use Rattle.py_grammar.specs.declared.symbol.Start.{Start}
use Rattle.py_grammar.specs.declared.symbol.Start.TheVariants as starts
use Rattle.py_grammar.specs.declared.terminal.Terminal.TheVariants as t
use Rattle.py_grammar.specs.declared.word.Word.TheVariants as w
use Rattle.py_grammar.specs.Building.{Builder}
use Rattle.py_grammar.specs.Deriving.{Derives}
use Rattle.py_grammar.specs.Laws.{ReadsExactly, RefusesExactly, StopsInside, TellsTheRule, HasOneTree, PiecesAgree}
use Rattle.py_grammar.specs.Reading.{nullable, in_reach}
use Rattle.py_grammar.specs.Refusals.{any_depth, unlimited}
use Rattle.py_grammar.specs.Sets.{first, follow}
use Rattle.py_grammar.specs.Soundness.{placed}
use Rattle.py_grammar.specs.Table.{opening, empty}
use Rattle.py_grammar.proofs.SetLaws.{and, or-left, or-right}
use Rattle.py_grammar.proofs.TakenLaws.{done-derives}
use Rattle.py_grammar.proofs.ExactLaws.{Good, good-start, derives-done}
use Rattle.py_grammar.proofs.RefusalLaws.{stuck-fits, stuck-stops, one-tree}
use Rattle.py_grammar.proofs.EndLaws.{HasPlace, stuck-places}
use Rattle.py_grammar.proofs.RuleLaws.{is-refused}
use Rattle.py_grammar.proofs.PieceLaws.{written, derived}

start-placed : (start : Start) → placed (t.End ∷ []) (opening start) ≡ true
unfolding empty first follow
start-placed starts.Script = refl
start-placed starts.Expression = refl

pub start-good : (start : Start) → Good (opening start)
start-good start = good-start (opening start) (start-placed start)

there : nullable w.Statements ≡ true
unfolding empty
there = refl

line-end : nullable w.LineEnd ≡ true
unfolding empty
line-end = refl

pub start-reach : (lim : Limits) (start : Start) → in_reach lim (opening start) ≡ true
start-reach lim starts.Script = and (nat_le 0 lim.levels || nullable w.Statements) true (or-right (nat_le 0 lim.levels) (nullable w.Statements) there) refl
start-reach lim starts.Expression =
    and (nat_le 0 lim.levels || nullable w.Expr) ((nat_le 0 lim.levels || nullable w.LineEnd) && true) (or-left (nat_le 0 lim.levels) (nullable w.Expr) (le-leb 0 lim.levels zero-le))
    (and (nat_le 0 lim.levels || nullable w.LineEnd) true (or-right (nat_le 0 lim.levels) (nullable w.LineEnd) line-end) refl)

module _ (B : Type 0) (m : Builder B) where
  pub reads-exactly : ReadsExactly B m
  reads-exactly = λ lim start b out ts. (done-derives B m lim ts (opening start) b out, derives-done B m lim ts (opening start) b out (start-good start))

  pub refuses-exactly : RefusesExactly B m
  refuses-exactly = λ lim start b ts n u e i. (stuck-fits B m lim ts (opening start) b n (start-reach lim start) e, stuck-stops B m lim ts (opening start) b n u (start-good start) e i)

  pub stops-inside : StopsInside B m
  unfolding HasPlace
  stops-inside = λ lim start b ts e n k h. stuck-places B m lim e k ts (opening start) b n (start-good start) h

  pub tells-the-rule : TellsTheRule B m
  tells-the-rule = λ lim start b ts n u e i.
      is-refused B m lim (opening start) b ts n u (start-good start) (start-reach lim start) (start-reach (any_depth lim) start) (start-reach unlimited start) e i

  pub has-one-tree : HasOneTree B m
  has-one-tree = λ lim start b one two ts. one-tree B m lim ts (opening start) b one two (start-good start)

  pub pieces-agree : PiecesAgree B m
  pieces-agree = λ lim ss b out ts.
      (λ r. written B m lim r, λ y. subst (λ x. Derives B m lim ss b x out) (sym y.3) (derived B m lim ss b out y.0 y.1 y.2 y.4))
