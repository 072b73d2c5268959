use Rattle.std.proofs.Common.{arith, string_bytes}
use Rattle.bech32_hrp.specs.HrpBytes.{hrp_bytes}
use Rattle.b32_replies.specs.LongRequest.{code_of_long}
use Rattle.b32_replies.proofs.Fronts.{of_front}
use Rattle.b32_replies.proofs.LongAnswers.{long-code}
use Rattle.b32_replies.proofs.long.written_of_front.Goals as goal

pub returns : goal.returns
returns g c = λ values size there.
    let long = long-code c.args.asked.0 in
    of_front (λ s. string_bytes s) c.args.kind (code_of_long c.args.asked.0) (hrp_bytes c.args.asked.1) (omega (arith, long)) c.args.room.now c.front_of.result.now values c.args.size
    c.written.result (omega (arith, long, c.requires)) c.front_of.ensures.fits c.front_of.ensures.whole c.written.ensures size there
