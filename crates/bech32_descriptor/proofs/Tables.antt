-- The tables of places, computed over all bytes.
use Rattle.std.specs.Prelude.{nat_lt}
use Rattle.std.proofs.Common.{◌≡◌, ◌<◌, ◌==◌, ℕ, get_or, refl}
use Rattle.std.proofs.lemmas.Bool.{eqb-true, ltb-true}
use Rattle.bech32_gf.specs.laws.Below.{each_below-at}
use Rattle.bech32_descriptor.specs.Descriptor.{checksum_place_of, place_of}
use Rattle.bech32_descriptor.specs.declared.alphabet.TheConstants.{CHECKSUM_PLACES, PLACES}

pub places : (b : ℕ) → b < 256 → get_or PLACES b 0 ≡ place_of b
unfolding place_of
places b h = eqb-true _ _ (each_below-at 256 (λ b. get_or PLACES b 0 == place_of b) refl b h)

pub places-below : (b : ℕ) → b < 256 → get_or PLACES b 0 < 96
places-below b h = ltb-true _ _ (each_below-at 256 (λ b. nat_lt (get_or PLACES b 0) 96) refl b h)

pub checksum_places : (b : ℕ) → b < 256 → get_or CHECKSUM_PLACES b 0 ≡ checksum_place_of b
unfolding checksum_place_of
checksum_places b h = eqb-true _ _ (each_below-at 256 (λ b. get_or CHECKSUM_PLACES b 0 == checksum_place_of b) refl b h)

pub checksum_places-below : (b : ℕ) → b < 256 → get_or CHECKSUM_PLACES b 0 < 33
checksum_places-below b h = ltb-true _ _ (each_below-at 256 (λ b. nat_lt (get_or CHECKSUM_PLACES b 0) 33) refl b h)
