use Rattle.std.proofs.Common.{refl}
use Rattle.std.proofs.lemmas.Result.{err_from_is_err_and}
use Rattle.line_program.proofs.Replied.{adds_or_refuses-weaker}
use Rattle.b32_replies.specs.Numbers.{number_of_reply}
use Rattle.b32_replies.specs.Request.{code_of_name}
use Rattle.b32_replies.proofs.Contents.{answers-content}
use Rattle.b32_replies.proofs.CorrectReplies.{says-at, says-refused_locations}
use Rattle.b32_replies.proofs.reply.execute_command.Goals as goal

pub returns-in-Bech32-clause-answer : goal.returns-in-Bech32-clause-answer
returns-in-Bech32-clause-answer g c = rw c.in-Encode.is (rw c.in-Bech32.is c.encode.ensures.answer)

pub returns-in-Bech32m-clause-answer : goal.returns-in-Bech32m-clause-answer
returns-in-Bech32m-clause-answer g c = rw c.in-Encode.is (rw c.in-Bech32m.is c.encode-in-Bech32m.ensures.answer)

pub returns-in-Decode-clause-answer : goal.returns-in-Decode-clause-answer
returns-in-Decode-clause-answer g c = rw c.in-Decode.is c.decode.ensures.answer

pub returns-in-DecodeBy-clause-answer : goal.returns-in-DecodeBy-clause-answer
returns-in-DecodeBy-clause-answer g c =
    rw c.in-DecodeBy.is (adds_or_refuses-weaker _ _ number_of_reply c.decode_by.result _ _
    (answers-content c.in-DecodeBy.content c.in-DecodeBy.checksum c.in-DecodeBy.text.now)
    c.decode_by.ensures.answer)

pub returns-in-Bech32-checksum-clause-answer : goal.returns-in-Bech32-checksum-clause-answer
returns-in-Bech32-checksum-clause-answer g c = rw c.in-EncodeElements.is (rw c.in-Bech32-checksum.is c.encode_elements.ensures.answer)

pub returns-in-Bech32m-checksum-clause-answer : goal.returns-in-Bech32m-checksum-clause-answer
returns-in-Bech32m-checksum-clause-answer g c = rw c.in-EncodeElements.is (rw c.in-Bech32m-checksum.is c.encode_elements-in-Bech32m-checksum.ensures.answer)

pub returns-in-SegwitEncode-clause-answer : goal.returns-in-SegwitEncode-clause-answer
returns-in-SegwitEncode-clause-answer g c = rw c.in-SegwitEncode.is c.segwit_encode.ensures.answer

pub returns-in-SegwitDecode-clause-answer : goal.returns-in-SegwitDecode-clause-answer
returns-in-SegwitDecode-clause-answer g c = rw c.in-SegwitDecode.is c.segwit_decode.ensures.answer

pub returns-in-Correct-clause-answer : goal.returns-in-Correct-clause-answer
returns-in-Correct-clause-answer g c = rw c.in-Correct.is c.correct.ensures.answer

pub returns-in_err-given-in-CorrectAt-clause-answer : goal.returns-in_err-given-in-CorrectAt-clause-answer
returns-in_err-given-in-CorrectAt-clause-answer g c =
    let p = err_from_is_err_and c.from_residual.result c.from_residual.ensures.1 in
    let code = code_of_name c.in-CorrectAt.checksum in
    let word = c.in-CorrectAt.locations.now in
    rw p.1 (rw p.2 (rw c.in-CorrectAt.is (says-refused_locations code c.in-CorrectAt.text.now word c.in_err-given-in-CorrectAt.field-0.0 c.in_err-given-in-CorrectAt.ensures, refl)))

pub returns-in_ok-given-in-CorrectAt-clause-answer : goal.returns-in_ok-given-in-CorrectAt-clause-answer
returns-in_ok-given-in-CorrectAt-clause-answer g c =
    let code = code_of_name c.in-CorrectAt.checksum in
    let text = c.in-CorrectAt.text.now in
    let word = c.in-CorrectAt.locations.now in
    rw c.in-CorrectAt.is (adds_or_refuses-weaker _ _ number_of_reply c.correct-in-CorrectAt.result _ _
    (λ said h. says-at code text word c.in_ok-given-in-CorrectAt.given said c.in_ok-given-in-CorrectAt.ensures (rw c.as_slice.ensures at h))
    c.correct-in-CorrectAt.ensures.answer)
