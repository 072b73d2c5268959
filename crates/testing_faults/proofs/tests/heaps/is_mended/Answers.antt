use Rattle.std.proofs.Common.{[], rules}
use Rattle.bech32_checksum.specs.Code.{bech32}
use Rattle.bech32_correction.specs.Mistyped.{IsListingOf}
use Rattle.bech32_correction.proofs.MendedText.{placed-from_listing}
use Rattle.testing_faults.proofs.tests.heaps.is_mended.Goals as goal

pub mended_by-requires : goal.mended_by-requires
mended_by-requires c =
    let is : IsListingOf bech32 3 c.args.text.now [] c.in-Mended.listing = rw c.in-Mended.is at c.in_ok-listing.ensures.value in
    (search rules, placed-from_listing bech32 3 c.args.text.now [] c.in-Mended.listing is)
