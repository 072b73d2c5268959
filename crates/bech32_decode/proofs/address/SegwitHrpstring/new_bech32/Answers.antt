use Rattle.std.proofs.Common.{ℕ, List, drop, refl, subst}
use Rattle.bech32_gf.specs.Fe32.{elements_of}
use Rattle.bech32_checksum.specs.Code.{bech32}
use Rattle.bech32_decode.specs.Segwit.{IsVersioned}
use Rattle.bech32_decode.proofs.Addresses.{outcome-from_checksum}
use Rattle.bech32_decode.proofs.address.SegwitHrpstring.new_bech32.Goals as goal

pub returns : goal.returns
returns c =
    let u = c.in_ok-unchecked.unchecked in
    let parts = c.in_ok-unchecked.ensures.parts in
    let version = c.in_ok-first_version.field-0 in
    outcome-from_checksum (λ _. bech32) c.args.s.now u version (elements_of (drop 1 u.data_part_ascii.now)) parts.0 parts.1
    (subst (λ (l : List ℕ). IsVersioned (elements_of l) version (elements_of (drop 1 l))) c.data_part_ascii.ensures.value c.in_ok-first_version.ensures)
    bech32 refl c.of_unchecked.result c.of_unchecked.ensures
