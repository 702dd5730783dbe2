use Rattle.std.proofs.lemmas.Option.{slice_get_read}
use Rattle.host_api.proofs.Lists.{says}
use Rattle.host_api.proofs.list.has_at.Goals as goal

pub returns : goal.returns
returns g c =
    let there = slice_get_read c.args.hosts.now.items _ _ c.index.result.now c.args.hosts.now.ok.0 c.requires c.index.ensures in
    says _ _ _ _ _ _ _ _ c.index.result.now there c.has.ensures
