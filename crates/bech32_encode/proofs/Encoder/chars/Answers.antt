use Rattle.std.proofs.Common.{List, subst}
use Rattle.bech32_gf.specs.declared.gf32.Fe32.{Fe32 as Element}
use Rattle.bech32_checksum.specs.Encoded.{IsEncodedText}
use Rattle.bech32_hrp.specs.HrpBytes.{hrp_bytes}
use Rattle.bech32_encode.proofs.Encoder.chars.Goals as goal

pub returns-clause-walk : goal.returns-clause-walk
returns-clause-walk g c text d =
    let (all, taken, holds) = c.new-2.ensures.walk text d in
    let (xs, taken_inside, gave) = c.new.ensures.walk all taken in
    (xs, taken_inside, subst (λ (l : List Element). IsEncodedText g.Ck.Checksum.code (hrp_bytes c.args.self.hrp.now) l text) gave holds)

pub returns-clause-runs : goal.returns-clause-runs
returns-clause-runs g c p seen at =
    let (q, start, (ends, holds)) = c.new-2.ensures.runs p seen at in
    let (r, start_inside, (ends_inside, gave)) = c.new.ensures.runs q q.seen start in (
      r,
      start_inside,
      (
        λ whole. ends_inside (ends whole),
        λ whole. subst (λ (l : List Element). IsEncodedText g.Ck.Checksum.code (hrp_bytes c.args.self.hrp.now) l p.items) (gave (ends whole)) (holds whole),
      ),
    )
