use Rattle.line_program.specs.Words.{words}
use Rattle.mend.specs.Request.{descriptor_request_of, first_request, liquid_request_of, mend_request_of, mend_request_of_command}
use Rattle.mend.proofs.OtherCommands.{first-none, first-some, reads-behind}
use Rattle.mend.proofs.other_command.command_in.Goals as goal

pub returns-in-Some : goal.returns-in-Some
returns-in-Some c =
    let line = c.args.line.now in
    first-some (descriptor_request_of line) (first_request (liquid_request_of (words line)) (mend_request_of line)) (mend_request_of_command c.in-Some.command) c.in-Some.ensures

pub returns-in-Some-liquid_command : goal.returns-in-Some-liquid_command
returns-in-Some-liquid_command c =
    let line = c.args.line.now in
    first-none (descriptor_request_of line) (first_request (liquid_request_of (words line)) (mend_request_of line)) _ c.in_default.ensures
    (first-some (liquid_request_of (words line)) (mend_request_of line) (mend_request_of_command c.in-Some-liquid_command.command) c.in-Some-liquid_command.ensures)

pub returns : goal.returns
returns c =
    let line = c.args.line.now in
    reads-behind mend_request_of_command (descriptor_request_of line) (first_request (liquid_request_of (words line)) (mend_request_of line)) c.parse.result c.in_default.ensures
    (reads-behind mend_request_of_command (liquid_request_of (words line)) (mend_request_of line) c.parse.result c.in_default-liquid_command.ensures c.parse.ensures)
