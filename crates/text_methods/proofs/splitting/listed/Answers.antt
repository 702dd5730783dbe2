use Rattle.std.proofs.Common.{◌≤◌, length, arith}
use Rattle.language_rules.specs.Draining.{most_items}
use Rattle.text_methods.proofs.Making.{lists}
use Rattle.text_methods.proofs.splitting.listed.Goals as goal

pub returns-in-Ok : goal.returns-in-Ok
returns-in-Ok c =
    let few : length c.args.pieces.now ≤ most_items = omega (arith, c.if-pieces-gt-MOST_ITEMS.false) in
    lists c.args.pieces.now c.in-Ok.items few c.in-Ok.ensures
