use Rattle.nested_serve.proofs.Endpoints.{beyond_subset, ended, idle, only_idle, out_of_fuel}
use Rattle.nested_serve.proofs.laws.an_endpoint_ends_as_a_run_alone.Goals as goal

pub returns : goal.returns
returns c = record {
  ended = λ program spent more e end stands is. ended program spent more e.machine e.turn end stands is;
  no_fuel = λ program spent e stands is. out_of_fuel program spent e.machine e.turn stands is;
  beyond = λ program spent more e b stands is. beyond_subset program spent more e.machine e.turn b stands is;
  idle = λ e is. idle e.turn is;
  only_idle = λ e end is. only_idle e.turn end is;
}
