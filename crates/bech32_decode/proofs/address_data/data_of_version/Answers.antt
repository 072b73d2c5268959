use Rattle.std.proofs.Common.{◌∙◌, ℕ, ◌∷◌, List, length, drop, sym, ap, subst}
use Rattle.std.proofs.lemmas.List.{take_rest}
use Rattle.std.proofs.lemmas.Result.{err_from_is_err_and}
use Rattle.bech32_bits.specs.Bits.{to_bytes}
use Rattle.bech32_gf.specs.Fe32.{elements_of}
use Rattle.bech32_refusals.specs.SegwitRules.{IsLengthRefusal}
use Rattle.bech32_decode.specs.SegwitPadding.{IsPaddingRefusal, IsPadded}
use Rattle.bech32_decode.proofs.address_data.data_of_version.Goals as goal

pub returns-in_err-validate_padding : goal.returns-in_err-validate_padding
returns-in_err-validate_padding c n few =
    let p = err_from_is_err_and c.from_residual.result c.from_residual.ensures.1 in
    let rest = take_rest c.args.characters.now 1 in
    rw p.1 (rw p.2 (
      few,
      c.args.version,
      elements_of (drop 1 c.args.characters.now),
      c.requires.versioned,
      subst (λ (l : List ℕ). IsPaddingRefusal (elements_of l) c.in_err-validate_padding.field-0.0) rest c.in_err-validate_padding.ensures,
    ))

pub returns-in_err-validate_program_length : goal.returns-in_err-validate_program_length
returns-in_err-validate_program_length c n few =
    let p = err_from_is_err_and c.from_residual-in_err-validate_program_length.result c.from_residual-in_err-validate_program_length.ensures.1 in
    let rest = take_rest c.args.characters.now 1 in
    rw p.1 (rw p.2 (
      few,
      c.args.version,
      elements_of (drop 1 c.args.characters.now),
      c.requires.versioned,
      subst (λ (l : List ℕ). IsPadded (elements_of l)) rest c.in_ok-validate_padding.ensures,
      subst (λ (l : List ℕ). IsLengthRefusal c.args.version (length (to_bytes (elements_of l))) c.in_err-validate_program_length.field-0.0) rest c.in_err-validate_program_length.ensures,
    ))

pub returns : goal.returns
returns c n few =
    let rest = take_rest c.args.characters.now 1 in
    let version = c.args.version in
    record {
      elements = c.requires.versioned.parts ∙ ap (λ (l : List ℕ). version ∷ elements_of l) (sym rest);
      characters = rest;
      lawful = record {
        text_length = few;
        version_fits = c.requires.versioned.fits;
        padded = c.in_ok-validate_padding.ensures;
        program_length = c.in_ok-validate_program_length.ensures;
      };
    }
