use Rattle.std.proofs.lemmas.Option.{slice_get_read}
use Rattle.host_api.proofs.Lists.{taken}
use Rattle.host_api.proofs.list.call_at.Goals as goal

pub returns-clause-taken : goal.returns-clause-taken
returns-clause-taken g c =
    let there = slice_get_read c.args.hosts.now.items _ _ c.index_mut-host.result.now c.args.hosts.now.ok.0 c.requires.there c.index_mut-host.ensures.value in
    taken _ _ _ _ _ _ _ _ _ c.index_mut-host.result.now _ there c.call.ensures.title c.call.ensures.functions c.call.ensures.rule c.call.ensures.taken
