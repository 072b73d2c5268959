-- The elements of a word, one character after another.
use Rattle.std.proofs.Common.{◌≡◌, ℕ, true, List, [], ◌∷◌, ◌++◌, map, sym, ap, subst, ◌∙◌, refl}
use Rattle.std.proofs.lemmas.List.{map-append}
use Rattle.std.proofs.lemmas.List.Elements.{All-nil, All-push}
use Rattle.bech32_gf.specs.Alphabet.{is_of_alphabet}
use Rattle.bech32_gf.specs.Fe32.{element_of}
use Rattle.bech32_gf.specs.declared.gf32.Fe32.{Fe32}
use Rattle.print_block.specs.Words.{AreElementsOf, IsOfAlphabet}

pub elements_start : (elements : List Fe32) → elements ≡ [] → AreElementsOf [] elements
elements_start elements e =
    subst (AreElementsOf []) (sym e) (record { of_alphabet = All-nil (λ c. is_of_alphabet c ≡ true); elements_are = refl })

pub elements_next : (front front' : List ℕ) (elements elements' : List Fe32) (c : ℕ) (x : Fe32) → AreElementsOf front elements
    → is_of_alphabet c ≡ true → x ≡ element_of c → front' ≡ front ++ (c ∷ []) → elements' ≡ elements ++ (x ∷ [])
    → AreElementsOf front' elements'
elements_next front front' elements elements' c x are is_one is more pushed = record {
  of_alphabet = subst IsOfAlphabet (sym more) (All-push (λ b. is_of_alphabet b ≡ true) front c are.of_alphabet is_one);
  elements_are =
      pushed
      ∙ ap (λ es. es ++ (x ∷ [])) are.elements_are
      ∙ ap (λ y. map element_of front ++ (y ∷ [])) is
      ∙ sym (ap (map element_of) more ∙ map-append element_of front (c ∷ []));
}
