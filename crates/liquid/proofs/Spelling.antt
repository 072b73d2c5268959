-- A confidential address has one spelling in each case.
use Rattle.std.proofs.Common.{◌≡◌, ℕ, List, ◌∷◌, ◌++◌, ◌∙◌, map, sym, ap, ⊎_elim}
use Rattle.std.specs.Char.{to_ascii_uppercase}
use Rattle.bech32_gf.specs.declared.gf32.Fe32.{Fe32}
use Rattle.bech32_bits.specs.Bits.{to_fes}
use Rattle.bech32_hrp.specs.Hrp.{lowered}
use Rattle.bech32_checksum.specs.Code.{Code}
use Rattle.bech32_checksum.proofs.Uniqueness.{lower_encoded, lower_raised, one_text}
use Rattle.liquid.specs.Confidential.{IsConfidential}

module _ (code : Code) (version : Fe32) (key program : List ℕ) where
  -- in lower case it is the lower-case one
  pub lowered-address : (hrp text : List ℕ) (a : IsConfidential code hrp version key program text) → lowered text ≡ a.lower
  lowered-address hrp text a =
      let low : lowered a.lower ≡ a.lower = lower_encoded code hrp (version ∷ to_fes (key ++ program)) a.lower a.address.encoded in
      ⊎_elim
      (λ (same : text ≡ a.lower). ap lowered same ∙ low)
      (λ (same : text ≡ map to_ascii_uppercase a.lower). ap lowered same ∙ lower_raised a.lower low)
      a.in_one_case

  -- two of the same parts have the same spelling in lower case
  pub one_spelling : (hrp other text again : List ℕ) → lowered hrp ≡ lowered other
      → IsConfidential code hrp version key program text → IsConfidential code other version key program again → lowered text ≡ lowered again
  one_spelling hrp other text again same a b =
      lowered-address hrp text a
      ∙ one_text code hrp other (version ∷ to_fes (key ++ program)) a.lower b.lower same a.address.encoded b.address.encoded
      ∙ sym (lowered-address other again b)
