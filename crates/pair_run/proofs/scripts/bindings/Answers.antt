use Rattle.std.proofs.Common.{subst, sym, All, ◌≡◌, ◌++◌, ◌∷◌, [], ◌+◌, List, map, ap, arith, ◌∙◌}
use Rattle.std.proofs.lemmas.List.Elements.{All-push}
use Rattle.pair_run.specs.declared.scripts.Binding.{Binding}
use Rattle.pair_run.specs.Scripts.{lines_of, binding_line, IsBinding}
use Rattle.pair_run.proofs.Lines.{lines_more, read_binding_gives, binds_nothing}
use Rattle.pair_run.proofs.scripts.bindings.Goals as goal

pub lines-preserved : goal.lines-preserved
lines-preserved c =
    let h = c.lines.invariant in
    let read = read_binding_gives c.split_line.result.0.now c.in-Some.binding (sym c.in-Some.ensures) in
    let Kept : List Binding → Type 0 = λ xs. (lines_of c.args.text.now ≡ map binding_line xs ++ lines_of c.split_line.result.1.now) × All IsBinding xs in
    subst Kept (sym c.in_ok-push.ensures.items) (
      lines_more binding_line (lines_of c.args.text.now) (lines_of c.lines.rest.now) (lines_of c.split_line.result.1.now) c.split_line.result.0.now c.lines.bindings.items c.in-Some.binding h.0 c.split_line.ensures.lines read.1,
      All-push IsBinding c.lines.bindings.items c.in-Some.binding h.1 read.0,
    )

pub returns-in_default-clause-refused : goal.returns-in_default-clause-refused
returns-in_default-clause-refused c = λ line e.
    let h = c.lines.invariant in
    let place : line ≡ c.len.result + 1 = cc in
    record {
      before = c.lines.bindings.items;
      other = c.split_line.result.0.now;
      after = lines_of c.split_line.result.1.now;
      lines = h.0 ∙ ap (λ ms. map binding_line c.lines.bindings.items ++ ms) c.split_line.ensures.lines;
      in_range = h.1;
      place = omega (arith, place, c.len.ensures, c.lines.bindings.ok.0);
      refused = binds_nothing c.split_line.result.0.now c.in_default.ensures;
    }
