use Rattle.b32_replies.proofs.long_reply.execute_long.Goals as goal

pub returns-in-Encode-clause-answer : goal.returns-in-Encode-clause-answer
returns-in-Encode-clause-answer g c = rw c.in-Encode.is c.encode_long.ensures.answer

pub returns-in-Decode-clause-answer : goal.returns-in-Decode-clause-answer
returns-in-Decode-clause-answer g c = rw c.in-Decode.is c.decode_long.ensures.answer

pub returns-in-LiquidEncode-clause-answer : goal.returns-in-LiquidEncode-clause-answer
returns-in-LiquidEncode-clause-answer g c = rw c.in-LiquidEncode.is c.liquid_encode.ensures.answer

pub returns-in-LiquidDecode-clause-answer : goal.returns-in-LiquidDecode-clause-answer
returns-in-LiquidDecode-clause-answer g c = rw c.in-LiquidDecode.is c.liquid_decode.ensures.answer
