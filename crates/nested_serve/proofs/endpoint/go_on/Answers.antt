use Rattle.nested_serve.proofs.Endpoints.{answers_after, stands_after}
use Rattle.nested_serve.proofs.endpoint.go_on.Goals as goal

pub returns-in-Ok-clause-stands : goal.returns-in-Ok-clause-stands
returns-in-Ok-clause-stands c = λ program spent stands.
    stands_after program spent c.args.fuel.now c.advance.new.fuel c.args.machine.now c.advance.new.machine c.args.next c.in-Ok.progress c.turn_after.result.0 stands c.advance.ensures.spent c.in-Ok.ensures.run c.turn_after.ensures.turn

pub returns-in-Ok-clause-goes : goal.returns-in-Ok-clause-goes
returns-in-Ok-clause-goes c =
    answers_after c.args.fuel.now c.advance.new.fuel c.args.machine.now c.advance.new.machine c.args.next c.in-Ok.progress c.turn_after.result.0 c.turn_after.result.1 c.in-Ok.ensures.run c.turn_after.ensures.turn c.turn_after.ensures.answer
