use Rattle.std.proofs.Common.{ap, refl, inl, inr, arith}
use Rattle.std.proofs.lemmas.Result.{err_from_is_err_and}
use Rattle.bech32_checksum.specs.Code.{Code, bech32, bech32m}
use Rattle.bech32_checksum.specs.laws.CodeLaws.{bech32_is_packed, bech32m_is_packed}
use Rattle.bech32_decode.proofs.Checksums.{has_target, no_target, residue_error}
use Rattle.bech32_decode.proofs.either.validate_either.Goals.{then-residue-eq-TARGET_RESIDUE-via-then-residue-eq-TARGET_RESIDUE, then-residue-eq-TARGET_RESIDUE-via-else-residue-eq-TARGET_RESIDUE+then-residue-eq-TARGET_RESIDUE-2}
use Rattle.bech32_decode.proofs.either.validate_either.Goals as goal

pub returns-in_err-validate_lengths : goal.returns-in_err-validate_lengths
returns-in_err-validate_lengths c =
    let p = err_from_is_err_and c.from_residual.result c.from_residual.ensures.1 in
    let refused = c.in_err-validate_lengths.ensures in
    rw (p.1, p.2) (refused.0, λ valid. refused.1 (valid.0, valid.1))

pub returns-then-residue-eq-TARGET_RESIDUE : goal.returns-then-residue-eq-TARGET_RESIDUE
returns-then-residue-eq-TARGET_RESIDUE c =
    let lengths = c.in_ok-validate_lengths.ensures in
    let residue = c.residue_of-residue.result in
    let left = rw (c.part.ensures, c.data_part_ascii.ensures.value) at c.residue_of-residue.ensures.residue in
    elim c.then-residue-eq-TARGET_RESIDUE.branch [
      | then-residue-eq-TARGET_RESIDUE-via-then-residue-eq-TARGET_RESIDUE w ↦
          inl (lengths.0, lengths.1, has_target bech32m 6 0x2bc830a3 refl (ap (λ (k : Code). k.target) bech32m_is_packed) residue _ w.if-residue-eq-TARGET_RESIDUE.true left)
      | then-residue-eq-TARGET_RESIDUE-via-else-residue-eq-TARGET_RESIDUE+then-residue-eq-TARGET_RESIDUE-2 w ↦
          inr (lengths.0, lengths.1, has_target bech32 6 1 refl (ap (λ (k : Code). k.target) bech32_is_packed) residue _ w.if-residue-eq-TARGET_RESIDUE-2.true left)
    ]

pub returns : goal.returns
returns c =
    let lengths = c.in_ok-validate_lengths.ensures in
    let residue = c.residue_of-residue.result in
    let clear = c.residue_of-residue.ensures.clear in
    let left = rw (c.part.ensures, c.data_part_ascii.ensures.value) at c.residue_of-residue.ensures.residue in (
      (
        lengths.0,
        lengths.1,
        residue_error bech32m 6 0x2bc830a3 refl (ap (λ (k : Code). k.target) bech32m_is_packed) residue _ c.new.result clear (omega arith) c.if-residue-eq-TARGET_RESIDUE.false left
            c.new.ensures.actual c.new.ensures.target,
      ),
      λ valid. no_target bech32 6 1 refl (ap (λ (k : Code). k.target) bech32_is_packed) residue _ clear (omega arith) c.if-residue-eq-TARGET_RESIDUE-2.false left valid.2,
    )
