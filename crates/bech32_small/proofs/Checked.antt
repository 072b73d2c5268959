-- Why a text that was read by Bech32m is not accepted by a code of its generator, as a number.
use Rattle.std.proofs.Common.{◌≡◌, ◌≢◌, ◌<◌, ◌≤◌, ◌+◌, ◌^◌, ℕ, List, length, refl, sym, ap, subst, lt_of_lt_of_le, arith}
use Rattle.std.proofs.Math.Pow.{pow_mono}
use Rattle.bech32_gf.specs.Fe32.{elements_of, ops}
use Rattle.bech32_gf.specs.declared.gf32.Fe32.{Fe32}
use Rattle.bech32_gf.specs.laws.Fe32Laws.{is_field}
use Rattle.bech32_poly.specs.Polynomial.{coefficient}
use Rattle.bech32_poly.specs.Remainder.{IsRemainder}
use Rattle.bech32_poly.proofs.Remainder.{remainder_exists}
use Rattle.bech32_checksum.specs.Code.{Code, bech32m}
use Rattle.bech32_checksum.specs.Packed.{digit_of, digits}
use Rattle.bech32_checksum.specs.TextPolynomial.{text_polynomial}
use Rattle.bech32_checksum.proofs.DigitRows.{coefficient-digits}
use Rattle.bech32_checksum.proofs.Digits.{length-tabulate}
use Rattle.bech32_decode.specs.Reading.{IsReading}
use Rattle.bech32_decode.proofs.Checksums.{has_target, residue_error}
use Rattle.bech32_refusals.specs.declared.error.ChecksumError.TheVariants.{CodeLength, InvalidLength, InvalidResidue}
use Rattle.bech32_refusals.specs.declared.error.InvalidResidueError.{InvalidResidueError}
use Rattle.bech32_refusals.specs.declared.residue.Residue.{Residue}
use Rattle.bech32_calls.specs.Check.{IsCheckedAs, IsCheckFault}
use Rattle.bech32_calls.specs.Faults.{IsNumberOf}
use Rattle.bech32_calls.specs.declared.refusal.Refusal.TheVariants.{Checksum}
use Rattle.bech32_calls.proofs.Checking.{refused_there}
use Rattle.bech32_small.specs.Target.{PacksTarget}

-- a row as a residue error has it
abbrev carried : ℕ → Residue
carried n = record { digits = digits 25 n; full = length-tabulate 25 (digit_of n) }

coefficient-carried : (n i : ℕ) → n < 2 ^ 30 → coefficient ops (carried n).digits i ≡ digit_of n i
coefficient-carried n i small = coefficient-digits 25 n i (lt_of_lt_of_le small (pow_mono {i = 30} {j = 125} (omega arith)))

module _ (target most : ℕ) (code : Code) (has : PacksTarget target code) (most_is : code.code_length ≡ most)
    (text hrp data_part : List ℕ) (residue : ℕ) (reading : IsReading bech32m text hrp data_part residue) where
  six : length code.generator ≡ 6
  six = ap (λ (l : List Fe32). length l) has.generator

  -- the remainder of the text by the code
  left : IsRemainder ops code.generator (text_polynomial hrp (elements_of data_part)) (digits (length code.generator) residue)
  left =
      let p = text_polynomial hrp (elements_of data_part) in
      subst (λ (g : List Fe32). IsRemainder ops g p (digits (length g) residue)) (sym has.generator)
      (subst (IsRemainder ops bech32m.generator p) (sym reading.leaves) (remainder_exists is_field bech32m.generator p))

  pub too_long : most < length text → IsNumberOf (IsCheckFault text code) 31
  too_long over = record {
    refusal = Checksum (CodeLength (record { encoded_length = length text; code_length = most }));
    holds = refused_there text hrp data_part code (CodeLength (record { encoded_length = length text; code_length = most })) reading.grammar
        (omega (arith, over, most_is), λ i. record { encoded_length = length text; code_length = sym most_is i });
    number = refl;
  }

  pub too_short : length text ≤ most → length data_part < 6 → IsNumberOf (IsCheckFault text code) 32
  too_short fits short = record {
    refusal = Checksum InvalidLength;
    holds = refused_there text hrp data_part code InvalidLength reading.grammar (omega (arith, fits, most_is), omega (arith, short, six));
    number = refl;
  }

  pub wrong : length text ≤ most → 6 ≤ length data_part → target < 2 ^ 30 → residue ≢ target → IsNumberOf (IsCheckFault text code) 33
  wrong fits room small differ =
      let e : InvalidResidueError = record { actual = carried residue; target = carried target } in
      let refusal = residue_error code 6 target six has.target_is residue (text_polynomial hrp (elements_of data_part)) e reading.clear small differ left
      (λ i. coefficient-carried residue i reading.clear) (λ i. coefficient-carried target i small) in
      record {
        refusal = Checksum (InvalidResidue e);
        holds = refused_there text hrp data_part code (InvalidResidue e) reading.grammar (omega (arith, fits, most_is), omega (arith, room, six), refusal);
        number = refl;
      }

  pub right : (hrp_length data_length : ℕ) → length text ≤ most → hrp_length ≡ length hrp → data_length + 6 ≡ length data_part → residue ≡ target
      → IsCheckedAs text hrp_length data_length code
  right hrp_length data_length fits part rest same = record {
    hrp = hrp;
    data_part = data_part;
    accepted = record {
      grammar = reading.grammar;
      text_length = omega (arith, fits, most_is);
      data_length = omega (arith, rest, six);
      has_target = has_target code 6 target six has.target_is residue (text_polynomial hrp (elements_of data_part)) same left;
    };
    hrp_length_is = part;
    data_length_is = omega (arith, rest, six);
  }
