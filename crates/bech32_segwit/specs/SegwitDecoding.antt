-- Reading segwit addresses (BIP-173, Segwit address format; BIP-350): why a text is not decoded.
use Rattle.std.specs.Prelude.{◌≡◌, ◌⊎◌, ℕ, List}
use Rattle.bech32_decode.specs.Segwit.{IsAddressText, IsSegwitRefusal}
use Rattle.bech32_refusals.specs.declared.error.SegwitHrpstringError.TheVariants.{Memory}
use Rattle.bech32_segwit.specs.declared.error.DecodeError.{DecodeError}

-- the text is not an address, or out of memory where it is one
abbrev pub IsSegwitDecodeRefusal : List ℕ → DecodeError → Type 0
IsSegwitDecodeRefusal text e = IsSegwitRefusal text e.0 ⊎ ((e.0 ≡ Memory) × IsAddressText text)
