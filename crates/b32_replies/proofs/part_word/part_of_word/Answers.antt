use Rattle.bech32_hrp.proofs.HrpTexts.{hrp_refusal-none}
use Rattle.b32_replies.proofs.part_word.part_of_word.Goals as goal

pub returns-then-is_part : goal.returns-then-is_part
returns-then-is_part c =
    let part = c.is_part.ensures.0 c.if-is_part.true in
    let same = c.as_bytes-part.ensures.value in
    (rw same at (hrp_refusal-none c.as_bytes-part.result.now part), same, part)
