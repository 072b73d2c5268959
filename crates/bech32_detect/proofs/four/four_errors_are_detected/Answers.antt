use Rattle.std.proofs.Common.{arith}
use Rattle.bech32_checksum.specs.Code.{bech32, bech32m}
use Rattle.bech32_detect.proofs.Texts.{texts_far}
use Rattle.bech32_detect.proofs.Law.{detects_four_below}
use Rattle.bech32_detect.proofs.four.four_errors_are_detected.Goals as goal

pub returns : goal.returns
returns c = record {
  bech32 = detects_four_below;
  bech32m = detects_four_below;
  bech32_texts = texts_far bech32 89 (detects_four_below 89 (omega arith));
  bech32m_texts = texts_far bech32m 89 (detects_four_below 89 (omega arith));
}
