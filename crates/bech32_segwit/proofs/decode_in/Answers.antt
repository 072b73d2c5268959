use Rattle.bech32_segwit.proofs.SegwitDecoding.{accepts-from_refusal, spelling-from_value}
use Rattle.bech32_segwit.proofs.decode_in.Goals as goal

pub returns-clause-accepts : goal.returns-clause-accepts
returns-clause-accepts g c = accepts-from_refusal c.args.s.now c.utf8.s c.decoded_in.result c.decoded_in.ensures.refused

pub returns-clause-spelling : goal.returns-clause-spelling
returns-clause-spelling g c = spelling-from_value (λ v. v.items) c.args.s.now c.decoded_in.result c.decoded_in.ensures.value
