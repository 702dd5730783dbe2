use Rattle.std.proofs.Common.{◌≡◌, ◌∙◌, ◌+◌, ◌<◌, ℕ, ℤ, List, sym, refl, length, take, drop, get_or, subst, arith, min, Some, None, Option, is_some, IsSome, false, suc}
use Rattle.std.proofs.lemmas.List.{length-take, take_all}
use Rattle.std.proofs.Math.Seq.{split_at}
use Rattle.pair_run.specs.Scripts.{number_of}
use Rattle.pair_run.proofs.scripts.first_unbound.Goals as goal

missing : (o : Option ℤ) → is_some o ≡ false → o ≡ None
missing None h = refl
missing (Some n) h = cc

place_of : (at line n : ℕ) (letters : List ℕ) → at < n → n ≡ length letters → Some (at + 1) ≡ Some line → line ≡ length (take at letters) + 1
place_of at line n letters h m e = let k : at + 1 ≡ line = cc in let l : length (take at letters) ≡ min at (length letters) = length-take at letters in omega arith

pub returns-then-is_none-clause-found : goal.returns-then-is_none-clause-found
returns-then-is_none-clause-found c = λ line e.
    record {
      before = take c.loop-index.index c.args.letters.now;
      letter = get_or c.args.letters.now c.loop-index.index 0;
      after = drop (suc c.loop-index.index) c.args.letters.now;
      asked = split_at c.args.letters.now c.loop-index.index 0 c.loop-index-test.true;
      bound = c.loop-index.invariant;
      place = place_of c.loop-index.index line (length c.args.letters.now) c.args.letters.now c.loop-index-test.true refl e;
      unbound = sym c.number_of.ensures ∙ missing c.number_of.result c.if-is_none.ensures;
    }

pub returns-clause-none : goal.returns-clause-none
returns-clause-none c = λ k d h.
    let all : take c.loop-index.index c.args.letters.now ≡ c.args.letters.now = take_all c.loop-index.index c.args.letters.now c.loop-index-test.false in
    let P : List ℕ → Type 0 = λ letters. IsSome (number_of c.args.bindings.now (get_or letters k d)) in
    subst P all (c.loop-index.invariant k d (let Q : List ℕ → Type 0 = λ letters. k < length letters in subst Q (sym all) h))
