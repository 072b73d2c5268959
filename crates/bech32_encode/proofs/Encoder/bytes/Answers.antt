use Rattle.std.proofs.Common.{ℕ, List, ◌++◌, option_to_list, subst}
use Rattle.bech32_checksum.specs.Encoded.{IsEncodedText}
use Rattle.bech32_hrp.specs.HrpBytes.{hrp_bytes}
use Rattle.bech32_encode.proofs.Encoder.bytes.Goals as goal

pub returns-clause-walk : goal.returns-clause-walk
returns-clause-walk g c text d = c.chars.ensures.walk text (c.new.ensures.walk text d)

pub returns-clause-runs : goal.returns-clause-runs
returns-clause-runs g c p seen at =
    let (q, start, (ends, same)) = c.new.ensures.runs p seen at in
    let (r, start_inside, (ends_inside, holds)) = c.chars.ensures.runs q q.seen start in (
      r,
      start_inside,
      (
        λ whole. ends_inside (ends whole),
        λ whole. subst (λ (t : List ℕ). IsEncodedText g.Ck.Checksum.code (hrp_bytes c.args.self.hrp.now) (option_to_list c.args.self.version ++ r.items) t) same (holds (ends whole)),
      ),
    )
