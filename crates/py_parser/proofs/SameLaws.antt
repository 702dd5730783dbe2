use Rattle.std.proofs.Common.{◌≡◌}
use denote.Enum.Bare.{sameb}
use Rattle.py_grammar.specs.contracts.terminal.Terminal as code
use Rattle.py_grammar.specs.declared.terminal.Terminal.{Terminal}
use Rattle.py_grammar.specs.Terminals.{same}
use Rattle.py_grammar.proofs.TerminalLaws.{same-code}

pub same_code : (k l : Terminal) → sameb code.the_type k l ≡ same k l
same_code = same-code
