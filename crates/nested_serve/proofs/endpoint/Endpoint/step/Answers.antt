use Rattle.std.proofs.Common.{◌+◌, ◌-◌, sym, subst}
use Rattle.nested_serve.specs.declared.endpoint.Turn.{Turn}
use Rattle.nested_serve.specs.Endpoints.{StandsAt}
use Rattle.nested_serve.proofs.endpoint.Endpoint.step.Goals as goal

pub returns-clause-stands : goal.returns-clause-stands
returns-clause-stands c = λ program spent stands.
    let before : StandsAt program spent c.args.self.now.machine c.replace-turn.result = subst (λ (t : Turn). StandsAt program spent c.args.self.now.machine t) (sym c.replace-turn.ensures.value) stands in
    subst (λ (t : Turn). StandsAt program (spent + (c.args.fuel.now - c.take_turn-turn.new.fuel)) c.take_turn-turn.new.machine t) (sym c.replace.ensures.after) (c.take_turn-turn.ensures.stands program spent before)
