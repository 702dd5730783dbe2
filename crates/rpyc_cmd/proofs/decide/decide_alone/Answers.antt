use Rattle.rpyc_cmd.proofs.Outcomes.{runs_alone, alone_text_refused}
use Rattle.rpyc_cmd.proofs.decide.decide_alone.Goals as goal

pub returns-in-Ok-run_program-clause-decided : goal.returns-in-Ok-run_program-clause-decided
returns-in-Ok-run_program-clause-decided g c =
    runs_alone c.args.name.now c.args.fuel (g.F.Files.held c.args.files.now) c.in_ok-bytes.bytes c.as_slice.result.now c.in-Ok.program c.in-Ok-run_program.decided.status c.in-Ok-run_program.decided.text
    c.in_ok-bytes.ensures.read c.as_slice.ensures c.in-Ok.ensures.accepted c.in-Ok-run_program.ensures

pub returns-clause-refused : goal.returns-clause-refused
returns-clause-refused g c =
    alone_text_refused c.in-Err.stop c.args.name.now (g.F.Files.held c.args.files.now) c.in_ok-bytes.bytes c.as_slice.result.now (g.F.Files.fault_count c.args.files.now) (g.F.Files.fault_count c.read_file.new.files)
    c.in_ok-bytes.ensures.read c.as_slice.ensures c.in-Err.ensures.refused
