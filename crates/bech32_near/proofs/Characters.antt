-- The elements of characters, one by one.
use Rattle.std.proofs.Common.{◌≡◌, ℕ, zero, suc, ◌+◌, ◌<◌, true, List, [], ◌∷◌, length, take, get_or, sym, ap, ◌∙◌, arith}
use Rattle.std.proofs.lemmas.Bool.{and_parts}
use Rattle.std.proofs.lemmas.List.{get_or-map, map-append, take_more}
use Rattle.bech32_gf.specs.Alphabet.{is_data, is_of_alphabet}
use Rattle.bech32_gf.specs.Fe32 as fe32
use Rattle.bech32_gf.specs.Fe32.{element_of, elements_of}
use Rattle.bech32_gf.specs.declared.gf32.Fe32.{Fe32}
use Rattle.bech32_checksum.specs.TextPolynomial.{text_polynomial}
use Rattle.bech32_near.proofs.Sums.{polynomial-parts}

pub of_alphabet_at : (characters : List ℕ) (i d : ℕ) → is_data characters ≡ true → i < length characters → is_of_alphabet (get_or characters i d) ≡ true
of_alphabet_at [] i d h low = absurd (omega (arith, low))
of_alphabet_at (c ∷ cs) zero d h low = (and_parts (is_of_alphabet c) (is_data cs) h).0
of_alphabet_at (c ∷ cs) (suc i) d h low = of_alphabet_at cs i d (and_parts (is_of_alphabet c) (is_data cs) h).1 (omega (arith, low))

pub element_at : (characters : List ℕ) (i d : ℕ) → i < length characters → get_or (elements_of characters) i fe32.zero ≡ element_of (get_or characters i d)
element_at characters i d low = get_or-map element_of characters i d fe32.zero low

-- one more character
pub polynomial-more : (hrp characters : List ℕ) (i d : ℕ) (x : Fe32) → i < length characters → x ≡ element_of (get_or characters i d)
    → text_polynomial hrp (elements_of (take (i + 1) characters)) ≡ x ∷ text_polynomial hrp (elements_of (take i characters))
polynomial-more hrp characters i d x low is =
    ap (λ (l : List ℕ). text_polynomial hrp (elements_of l)) (take_more characters i d low)
    ∙ ap (text_polynomial hrp) (map-append element_of (take i characters) (get_or characters i d ∷ []))
    ∙ polynomial-parts hrp (elements_of (take i characters)) (element_of (get_or characters i d) ∷ [])
    ∙ ap (λ (y : Fe32). y ∷ text_polynomial hrp (elements_of (take i characters))) (sym is)
