use Rattle.bech32.proofs.Decoding.{decoded-from_refusal}
use Rattle.bech32.proofs.RoundTrip.{back-from_outcome}
use Rattle.bech32.proofs.decode_in.Goals as goal

pub returns-clause-accepts : goal.returns-clause-accepts
returns-clause-accepts g c = decoded-from_refusal c.args.s.now c.utf8.s _ c.decoded_in.ensures.refused

pub returns-clause-back : goal.returns-clause-back
returns-clause-back g c = back-from_outcome (λ v. v.items) c.args.s.now c.utf8.s c.decoded_in.result c.decoded_in.ensures.value c.decoded_in.ensures.refused
