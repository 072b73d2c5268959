-- Strings of a checksum, as the lemmas on strings take them.
use Rattle.std.proofs.Common.{ℕ, List, [], ◌∷◌}
use Rattle.bech32_gf.specs.Fe32 as fe32
use Rattle.bech32_gf.specs.declared.gf32.Fe32.{Fe32}
use Rattle.bech32_checksum.specs.Code.{Code}
use Rattle.bech32_checksum.specs.TextPolynomial.{hrp_elements, IsChecksumOf, EndsInChecksum}
use Rattle.codex32_steady.specs.shares.Shares.{IsShareText, AreShareTexts}
use Rattle.codex32_steady.proofs.Strings.{Ends}

module _ (code : Code) (hrp : List ℕ) (header : List Fe32) (n : ℕ) where
  pub one : (x : Fe32) (p t : List Fe32) → IsShareText (EndsInChecksum (IsChecksumOf code hrp)) header n x p t → IsShareText (Ends fe32.ops (hrp_elements hrp) code.generator code.target) header n x p t
  one x p t h = record {
    size = h.size;
    ends = record { checksum = h.ends.checksum; size = h.ends.is_checksum.size; remains = h.ends.is_checksum.has_target; given_is = h.ends.given_is };
  }

  pub all : (xs : List Fe32) (ps texts : List (List Fe32)) → AreShareTexts (EndsInChecksum (IsChecksumOf code hrp)) header n xs ps texts → AreShareTexts (Ends fe32.ops (hrp_elements hrp) code.generator code.target) header n xs ps texts
  all [] [] [] are = tt
  all [] [] (t ∷ texts) are = absurd are
  all [] (p ∷ ps) texts are = absurd are
  all (x ∷ xs) [] texts are = absurd are
  all (x ∷ xs) (p ∷ ps) [] are = absurd are
  all (x ∷ xs) (p ∷ ps) (t ∷ texts) are = (one x p t are.0, all xs ps texts are.1)

  pub back : (x : Fe32) (p t : List Fe32) → IsShareText (Ends fe32.ops (hrp_elements hrp) code.generator code.target) header n x p t → IsShareText (EndsInChecksum (IsChecksumOf code hrp)) header n x p t
  back x p t h = record {
    size = h.size;
    ends = record { checksum = h.ends.checksum; is_checksum = record { size = h.ends.size; has_target = h.ends.remains }; given_is = h.ends.given_is };
  }

  pub back_all : (xs : List Fe32) (ps texts : List (List Fe32)) → AreShareTexts (Ends fe32.ops (hrp_elements hrp) code.generator code.target) header n xs ps texts → AreShareTexts (EndsInChecksum (IsChecksumOf code hrp)) header n xs ps texts
  back_all [] [] [] are = tt
  back_all [] [] (t ∷ texts) are = absurd are
  back_all [] (p ∷ ps) texts are = absurd are
  back_all (x ∷ xs) [] texts are = absurd are
  back_all (x ∷ xs) (p ∷ ps) [] are = absurd are
  back_all (x ∷ xs) (p ∷ ps) (t ∷ texts) are = (back x p t are.0, back_all xs ps texts are.1)
