-- Which forms of segwit addresses are in use. An output of another form has no rule for spending:
-- by today's consensus anyone may take it.
use Rattle.std.specs.Prelude.{◌≡◌, ◌⊎◌, ℕ, List, length}
use Rattle.bech32_gf.specs.Fe32.{value}
use Rattle.bech32_gf.specs.declared.gf32.Fe32.{Fe32}
use Rattle.bech32_decode.specs.Segwit.{IsDecodedAddress}
use Rattle.bech32_refusals.specs.SegwitRules.{key_hash_length, script_hash_length}

-- version 0 with a program of 20 bytes or of 32 (BIP-141, Witness program); version 1 with one of
-- 32 (BIP-341, Script validation rules)
abbrev pub IsFormInUse : Fe32 → List ℕ → Type 0
IsFormInUse version program =
    ((value version ≡ 0)
    × ((length program ≡ key_hash_length) ⊎ (length program ≡ script_hash_length)))
    ⊎ ((value version ≡ 1) × (length program ≡ 32))

-- the text is a segwit address, of a form in use
abbrev pub IsAddressInUse : List ℕ → Type 0
IsAddressInUse text = (hrp : List ℕ) × (version : Fe32) × (program : List ℕ)
    × IsDecodedAddress text hrp version program × IsFormInUse version program
