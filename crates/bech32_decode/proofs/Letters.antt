-- The characters of a data part are ASCII, and the separator is none of them.
use Rattle.std.proofs.Common.{◌≡◌, ℕ, Bool, true, false, List, [], ◌∷◌, ◌&&◌, refl, sym, ap, ◌∙◌, take, drop}
use Rattle.std.proofs.lemmas.List.{take-append-drop}
use Rattle.std.proofs.lemmas.List.Folds.{list_all-append}
use Rattle.std.proofs.lemmas.Bool.{and_parts}
use Rattle.std.specs.Str.{IsAscii}
use Rattle.std.proofs.lemmas.Str.Ascii.{IsAscii-nil, IsAscii-cons}
use Rattle.bech32_gf.specs.Alphabet.{is_of_alphabet, is_data}
use Rattle.bech32_gf.proofs.Characters.{below-from_alphabet}

pub separator_is_none : is_of_alphabet 49 ≡ false
unfolding is_of_alphabet
separator_is_none = refl

pub IsAscii-from_data : (bs : List ℕ) → is_data bs ≡ true → IsAscii bs
IsAscii-from_data [] h = IsAscii-nil
IsAscii-from_data (b ∷ bs) h =
    let parts = and_parts (is_of_alphabet b) (is_data bs) h in
    IsAscii-cons b bs (below-from_alphabet b parts.0) (IsAscii-from_data bs parts.1)

pub is_data-more : (c : ℕ) (behind : List ℕ) → is_of_alphabet c ≡ true → is_data behind ≡ true → is_data (c ∷ behind) ≡ true
is_data-more c behind p q = ap (λ (t : Bool). t && is_data behind) p ∙ q

-- the front and the rest of a data part are of the alphabet
pub is_data-take : (n : ℕ) (bytes : List ℕ) → is_data bytes ≡ true → is_data (take n bytes) ≡ true
is_data-take n bytes h =
    (and_parts (is_data (take n bytes)) (is_data (drop n bytes)) (sym (list_all-append is_of_alphabet (take n bytes) (drop n bytes)) ∙ ap is_data (take-append-drop n bytes) ∙ h)).0

pub is_data-drop : (n : ℕ) (bytes : List ℕ) → is_data bytes ≡ true → is_data (drop n bytes) ≡ true
is_data-drop n bytes h =
    (and_parts (is_data (take n bytes)) (is_data (drop n bytes)) (sym (list_all-append is_of_alphabet (take n bytes) (drop n bytes)) ∙ ap is_data (take-append-drop n bytes) ∙ h)).1
