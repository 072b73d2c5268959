use Rattle.std.proofs.Common.{drop, arith}
use Rattle.bech32_gf.specs.Fe32.{elements_of}
use Rattle.bech32_decode.proofs.Versions.{first-element}
use Rattle.liquid.proofs.reading.version_in.Goals as goal

pub returns-then-number-gt-MAX_WITNESS_VERSION : goal.returns-then-number-gt-MAX_WITNESS_VERSION
returns-then-number-gt-MAX_WITNESS_VERSION c = (
  elements_of (drop 1 c.args.data_part.now),
  first-element c.args.data_part.now c.in-Some.first.now c.from_char_unchecked-version.result c.in-Some.ensures.value c.from_char_unchecked-version.ensures,
  omega (arith, c.to_u8-number.ensures, c.if-number-gt-MAX_WITNESS_VERSION.true),
)

pub returns-then-number-ne0 : goal.returns-then-number-ne0
returns-then-number-ne0 c = (
  elements_of (drop 1 c.args.data_part.now),
  first-element c.args.data_part.now c.in-Some.first.now c.from_char_unchecked-version.result c.in-Some.ensures.value c.from_char_unchecked-version.ensures,
  omega (arith, c.to_u8-number.ensures, c.if-number-ne0.true),
  omega (arith, c.to_u8-number.ensures, c.if-number-gt-MAX_WITNESS_VERSION.false),
)

pub returns : goal.returns
returns c = (
  record {
    parts = first-element c.args.data_part.now c.in-Some.first.now c.from_char_unchecked-version.result c.in-Some.ensures.value c.from_char_unchecked-version.ensures;
    fits = omega (arith, c.to_u8-number.ensures, c.if-number-gt-MAX_WITNESS_VERSION.false);
  },
  omega (arith, c.to_u8-number.ensures, c.if-number-ne0.false),
)
