use Rattle.std.proofs.Common.{◌≡◌, ◌<◌, ◌≤◌, drop, ⊎_elim, true}
use Rattle.std.proofs.lemmas.Bool.{cases_lt}
use Rattle.bech32_gf.specs.Fe32.{elements_of}
use Rattle.bech32_decode.proofs.Versions.{first-element}
use Rattle.bech32_decode.proofs.version.first_version.Goals as goal
use Rattle.bech32_refusals.specs.SegwitRules.{max_witness_version}

pub returns-then-not-is_valid_witness_version : goal.returns-then-not-is_valid_witness_version
returns-then-not-is_valid_witness_version c =
    let v = c.from_char_unchecked-version.result in (
      elements_of (drop 1 c.args.characters.now),
      first-element c.args.characters.now c.in-Some.first.now v c.in-Some.ensures.value c.from_char_unchecked-version.ensures,
      ⊎_elim
          (λ (over : max_witness_version < v.value). over)
          (λ (fits : v.value ≤ max_witness_version). absurd (let ok : c.is_valid_witness_version.result ≡ true = c.is_valid_witness_version.ensures.1 fits in let no_ = c.if-not-is_valid_witness_version.true in cc))
          (cases_lt 16 v.value),
    )
