-- What stands at the front of a buffer.
use Rattle.std.proofs.Common.{◌≡◌, ℕ, List, subst}
use Rattle.bech32_encode.specs.Buffers.{IsPut}

pub put-same : (bytes bytes' old new : List ℕ) (count count' : ℕ) → bytes ≡ bytes' → count ≡ count' → IsPut bytes old new count → IsPut bytes' old new count'
put-same bytes bytes' old new count count' e f h = subst (λ (n : ℕ). IsPut bytes' old new n) f (subst (λ (b : List ℕ). IsPut b old new count) e h)
