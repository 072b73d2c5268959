use Rattle.std.proofs.Common.{Bool, map, ap, option_to_list}
use Rattle.bech32_hrp.specs.HrpBytes.{hrp_bytes}
use Rattle.bech32_checksum.specs.Encoded.{char_of_element}
use Rattle.bech32_encode.specs.TextFrom.{text_front}
use Rattle.bech32_encode.specs.TextLeft.{front_left}
use Rattle.bech32_encode.proofs.TextPieces.{puts_none, puts_then}
use Rattle.bech32_encode.proofs.pieces.put_start.Goals as goal

pub returns-then-begun : goal.returns-then-begun
returns-then-begun c =
    let hrp = hrp_bytes c.args.hrp.now in
    puts_none (front_left c.args.begun hrp c.args.version) c.args.buffer.now 0 (ap (λ (b : Bool). front_left b hrp c.args.version) c.if-begun.true)

pub returns : goal.returns
returns c =
    let hrp = hrp_bytes c.args.hrp.now in
    puts_then (text_front hrp) (map char_of_element (option_to_list c.args.version)) (front_left c.args.begun hrp c.args.version) _ _ _ _ _ _
    (ap (λ (b : Bool). front_left b hrp c.args.version) c.if-begun.false) c.put_front-count.ensures c.put_optional.ensures
