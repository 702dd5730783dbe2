use Rattle.std.proofs.Common.{◌<◌, length, chars, sym, eqb-true}
use Rattle.py_strs.proofs.Cuts.{characters_some}
use Rattle.language_rules.specs.TextFunctions.{replaced}
use Rattle.text_methods.proofs.Making.{nothing_replaced, remade, replaces, some_bytes}
use Rattle.text_methods.proofs.changing.replace.Goals as goal

pub returns-then-is_empty : goal.returns-then-is_empty
returns-then-is_empty c = nothing_replaced (chars c.args.text.now) c.args.old.now (chars c.args.new.now) (eqb-true (length c.args.old.now) 0 (sym c.if-is_empty.ensures))

pub returns : goal.returns
returns c =
    let some : 0 < length (chars c.args.old.now) = characters_some c.args.old.now c.utf8.old (some_bytes c.args.old.now c.if-is_empty.ensures) in
    replaces (chars c.args.text.now) (chars c.args.old.now) (chars c.args.new.now) c.made.result some
    (c.made.ensures (replaced (chars c.args.text.now) (chars c.args.old.now) (chars c.args.new.now))
    (remade (chars c.args.text.now) (chars c.args.old.now) (chars c.args.new.now) c.replace_text.result some c.replace_text.ensures.ok c.replace_text.ensures.size c.replace_text.ensures.no_sep))
