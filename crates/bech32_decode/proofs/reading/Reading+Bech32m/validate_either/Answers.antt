use Rattle.std.proofs.Common.{ap, refl, inl, inr, ℕ, arith}
use Rattle.std.proofs.lemmas.Result.{err_from_is_err_and}
use Rattle.bech32_checksum.specs.Code.{Code, bech32, bech32m}
use Rattle.bech32_checksum.specs.laws.CodeLaws.{bech32_is_packed}
use Rattle.bech32_decode.proofs.Checksums.{has_target, no_target}
use Rattle.bech32_decode.proofs.Decoding.{refused_by_both}
use Rattle.bech32_decode.proofs.Readings.{residue-from_reading}
use Rattle.bech32_decode.proofs.reading.Reading+Bech32m.validate_either.Goals as goal

pub returns-in_err-validate_lengths : goal.returns-in_err-validate_lengths
returns-in_err-validate_lengths c =
    let s = c.args.self.now in
    let p = err_from_is_err_and c.from_residual.result c.from_residual.ensures.1 in
    let refused = c.in_err-validate_lengths.ensures in
    rw (p.1, p.2) (refused_by_both s.text.now s.hrp.now s.data_part.now _ s.is_reading.grammar (refused.0 s.hrp.now s.data_part.now refl) (λ valid. refused.1 (valid.0, valid.1)))

pub returns-then-self-eq-TARGET_RESIDUE : goal.returns-then-self-eq-TARGET_RESIDUE
returns-then-self-eq-TARGET_RESIDUE c =
    let s = c.args.self.now in
    let lengths = c.in_ok-validate_lengths.ensures in
    let leaves = residue-from_reading (λ (n : ℕ). n) bech32m s.text.now s.hrp.now s.data_part.now s.residue s.is_reading in
    inr (record {
      grammar = s.is_reading.grammar;
      text_length = lengths.0;
      data_length = lengths.1;
      has_target = has_target bech32 6 1 refl (ap (λ (k : Code). k.target) bech32_is_packed) s.residue _ c.if-self-eq-TARGET_RESIDUE.true leaves;
    })

pub returns-in-Ok : goal.returns-in-Ok
returns-in-Ok c =
    let s = c.args.self.now in
    let lengths = c.in_ok-validate_lengths.ensures in
    let leaves = residue-from_reading (λ (n : ℕ). n) bech32m s.text.now s.hrp.now s.data_part.now s.residue s.is_reading in
    inl (record { grammar = s.is_reading.grammar; text_length = lengths.0; data_length = lengths.1; has_target = c.in-Ok.ensures _ leaves })

pub returns-in-Err : goal.returns-in-Err
returns-in-Err c =
    let s = c.args.self.now in
    let lengths = c.in_ok-validate_lengths.ensures in
    let leaves = residue-from_reading (λ (n : ℕ). n) bech32m s.text.now s.hrp.now s.data_part.now s.residue s.is_reading in
    refused_by_both s.text.now s.hrp.now s.data_part.now _ s.is_reading.grammar (lengths.0, lengths.1, c.in-Err.ensures _ leaves)
    (λ valid. no_target bech32 6 1 refl (ap (λ (k : Code). k.target) bech32_is_packed) s.residue _ s.is_reading.clear (omega arith) c.if-self-eq-TARGET_RESIDUE.false leaves valid.2)
