-- The refusal of a text by one checksum, as an error of decoding by it.
use Rattle.bech32_refusals.specs.declared.error.CheckedHrpstringError.{CheckedHrpstringError}
use Rattle.bech32_refusals.specs.declared.error.CheckedHrpstringError.TheVariants.{
  Parse as NoText,
  Checksum as NotAccepted,
}
use Rattle.bech32_refusals.specs.declared.texts.TextError.{TextError}
use Rattle.bech32_refusals.specs.declared.texts.TextError.TheVariants.{
  Parse as TextParse,
  Checksum as TextChecksum,
}

-- why a checksum does not accept a text, as an error of decoding by it
abbrev pub of_checked_text : CheckedHrpstringError → TextError
of_checked_text (NoText e) = TextParse e
of_checked_text (NotAccepted e) = TextChecksum e
