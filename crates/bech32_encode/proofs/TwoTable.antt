-- The table of two characters, computed over all pairs.
use Rattle.std.proofs.Common.{◌≡◌, ◌<◌, ◌+◌, ◌*◌, ◌/◌, ◌%◌, ◌==◌, ℕ, get_or, refl}
use Rattle.std.proofs.lemmas.Bool.{eqb-true}
use Rattle.bech32_gf.specs.Alphabet.{char_of}
use Rattle.bech32_gf.specs.laws.Below.{each_below-at}
use Rattle.bech32_encode.specs.declared.pairs.TheConstants.{PAIRS}

pub first : (v : ℕ) → v < 1024 → get_or PAIRS (2 * v) 0 ≡ char_of (v / 32)
first v h = eqb-true _ _ (each_below-at 1024 (λ i. get_or PAIRS (2 * i) 0 == char_of (i / 32)) refl v h)

pub second : (v : ℕ) → v < 1024 → get_or PAIRS (2 * v + 1) 0 ≡ char_of (v % 32)
second v h = eqb-true _ _ (each_below-at 1024 (λ i. get_or PAIRS (2 * i + 1) 0 == char_of (i % 32)) refl v h)
