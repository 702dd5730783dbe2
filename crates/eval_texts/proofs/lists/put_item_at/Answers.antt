use Rattle.std.proofs.Common.{◌≡◌, ◌∙◌, ◌∷◌, ap, drop, refl, string_bytes, suc, sym}
use Rattle.std.proofs.Math.Seq.{drop-cons}
use Rattle.rp_base.specs.declared.value.Value.{Value}
use Rattle.eval_texts.proofs.PartLaws.{item_placed}
use Rattle.eval_texts.proofs.lists.put_item_at.Goals as goal

pub returns : goal.returns
returns c =
    let is : drop c.args.at c.args.items.now ≡ c.index-items-at.result ∷ drop (suc c.args.at) c.args.items.now
    = drop-cons c.args.items.now c.args.at c.index-items-at.result c.requires ∙ ap (λ (v : Value). v ∷ drop (suc c.args.at) c.args.items.now) (sym c.index-items-at.is) in
    record {
      makes = λ n. item_placed n c.args.at c.index-items-at.result c.args.items.now (drop (suc c.args.at) c.args.items.now) (string_bytes c.args.made.now) (string_bytes c.put_item.new.made) c.put_item.result is refl (c.put_item.ensures.makes n (drop (suc c.args.at) c.args.items.now));
    }
