use Rattle.std.proofs.Common.{◌≡◌, ◌<◌, ◌+◌, ◌-◌, ℕ, sym, subst, arith}
use Rattle.bech32_bch.proofs.Candidates.{apart_inside}
use Rattle.bech32_detect.specs.Texts.{AreTextsFar}
use Rattle.bech32_detect.proofs.Distances.{far_from_others}
use Rattle.bech32_detect.proofs.distance.accepted_texts_are_far.Goals as goal

pub returns : goal.returns
returns g c some lawful n =
    let o = g.Ck.CorrectionField.Arithmetic.ops in
    let embed = g.Ck.CorrectionField.Extension.embed in
    let laws = g.met.Ck.Checksum in
    let code = g.Ck.Checksum.code in
    let start : ℕ = g.Ck.Checksum.ROOT_EXPONENTS_START in
    let end : ℕ = g.Ck.Checksum.ROOT_EXPONENTS_END in
    let into = g.met.Ck.CorrectionField.LocatorField.embeds_law in
    let apart = apart_inside embed g.Ck.CorrectionField.Extension.retract g.met.Ck.CorrectionField.Extension.retract_law in
    let same : end - start + 1 ≡ g.Ck.Checksum.bound = omega (arith, laws.bound_law) in
    subst (λ (bound : ℕ). AreTextsFar code n bound) same
    (far_from_others g.met.Ck.CorrectionField.Arithmetic.laws into apart code g.Ck.Checksum.ROOT_GENERATOR start end
    (laws.lawful_law.0 lawful (subst (λ k. 0 < k) (sym laws.degree_law) some)) n)
