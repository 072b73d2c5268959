-- The version that stands before a checksum.
use Rattle.std.proofs.Common.{◌≡◌, ◌≢◌, ◌∙◌, ℕ, Bool, cond, nat_lt, List, [], ◌∷◌, None, Some, drop, refl, sym, ap}
use Rattle.bech32_gf.specs.Fe32.{elements_of}
use Rattle.bech32_gf.specs.declared.gf32.Fe32.{Fe32}
use Rattle.bech32_checksum.specs.Code.{Code}
use Rattle.bech32_decode.specs.BeforeChecksum.{IsBeforeChecksum}
use Rattle.bech32_decode.specs.Segwit.{IsVersioned}
use Rattle.bech32_decode.specs.Version.{version_of}
use Rattle.bech32_decode.proofs.Addresses.{versioned-before}
use Rattle.bech32_refusals.specs.SegwitRules.{max_witness_version}

-- a version is found in characters that are some
pub some_characters : (characters : List ℕ) (v : Fe32) → version_of (elements_of characters) ≡ Some v → characters ≢ []
some_characters [] v h = absurd cc
some_characters (b ∷ bs) v h = λ none. cc none

-- version 0 is found
found : (fes : List Fe32) (version : Fe32) (others : List Fe32) → fes ≡ version ∷ others → version.value ≡ 0 → version_of fes ≡ Some version
found fes version others is zero_ = ap version_of is ∙ at version zero_
  where
    at : (v : Fe32) → v.value ≡ 0 → version_of (v ∷ others) ≡ Some v
    at v e = ap (λ (b : Bool). cond b None (Some v)) (ap (λ (n : ℕ). nat_lt max_witness_version n) e)

-- where none is found before the checksum of a text that begins with version 0, nothing stands there
pub none_before : (code : Code) (data_part characters : List ℕ) (version : Fe32) (others : List Fe32) → IsBeforeChecksum code data_part characters
    → IsVersioned (elements_of data_part) version others → version.value ≡ 0 → version_of (elements_of characters) ≡ None → elements_of characters ≡ []
none_before code data_part [] version others before versioned zero_ h = refl
none_before code data_part (b ∷ bs) version others before versioned zero_ h =
    let begins = versioned-before code data_part (b ∷ bs) version others before versioned (λ none. cc none) in
    let some = found (elements_of (b ∷ bs)) version (elements_of (drop 1 (b ∷ bs))) begins.parts zero_ in
    absurd (let both : None ≡ Some version = sym h ∙ some in cc both)
