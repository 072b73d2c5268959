use Rattle.codex32_calls.proofs.Inputs.{identifier_fault-not_utf8}
use Rattle.codex32_calls.proofs.input.identifier_of.Goals as goal

pub returns-in-Err : goal.returns-in-Err
returns-in-Err c = identifier_fault-not_utf8 c.args.characters.now c.in-Err.ensures.1
