use Rattle.std.proofs.Common.{string_bytes}
use Rattle.bech32_hrp.specs.HrpBytes.{hrp_bytes}
use Rattle.bech32_segwit.proofs.SegwitEncoding.{exists-from_outcome, spelling-from_outcome}
use Rattle.bech32_segwit.proofs.encode_in.Goals as goal

pub returns-clause-exists : goal.returns-clause-exists
returns-clause-exists g c = exists-from_outcome (hrp_bytes c.args.hrp) c.args.witness_version c.args.witness_program.now c.encoded_in.result c.encoded_in.ensures.refused

pub returns-clause-spelling : goal.returns-clause-spelling
returns-clause-spelling g c =
    spelling-from_outcome string_bytes (hrp_bytes c.args.hrp) c.args.witness_version c.args.witness_program.now c.encoded_in.result c.encoded_in.ensures.text
    c.encoded_in.ensures.refused
