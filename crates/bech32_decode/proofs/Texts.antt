-- A text around its last character that is not of the alphabet.
use Rattle.std.proofs.Common.{◌≡◌, ◌≢◌, ℕ, Bool, true, false, List, [], ◌∷◌, ◌++◌, Option, Some, None, length, take, cond, eqb, refl, sym, ap, subst, ◌∙◌, arith}
use Rattle.std.proofs.lemmas.Bool.{ne_eqb, and_parts}
use Rattle.std.proofs.lemmas.List.{take_at}
use Rattle.std.proofs.lemmas.Str.{IsUtf8-append, IsUtf8-encode, IsUtf8-from_ascii, IsUtf8-take, IsCharBoundary-at_seam, chars-append, chars_past_char, chars-IsAscii, encode_ascii}
use Rattle.std.proofs.Math.Utf8.{encode}
use Rattle.std.specs.Str.{chars, IsUtf8}
use Rattle.std.specs.Char.{IsScalar}
use Rattle.bech32_refusals.specs.declared.error.CharError.TheVariants.{InvalidChar}
use Rattle.bech32_gf.specs.Alphabet.{is_of_alphabet, is_data}
use Rattle.bech32_hrp.specs.Hrp.{first_of}
use Rattle.bech32_decode.specs.Text.{last_stranger, split_at_last, before_byte, invalid_character, unless_separator}
use Rattle.bech32_decode.proofs.Letters.{separator_is_none, IsAscii-from_data}

not_separator : (b : ℕ) → is_of_alphabet b ≡ true → eqb b 49 ≡ false
not_separator b h = ne_eqb b 49 (λ e. let k : is_of_alphabet 49 ≡ true = ap is_of_alphabet (sym e) ∙ h in let none = separator_is_none in cc)

pub split_at_last-data : (bs : List ℕ) → is_data bs ≡ true → split_at_last bs ≡ None
unfolding split_at_last
split_at_last-data [] h = refl
split_at_last-data (b ∷ bs) h =
    let parts = and_parts (is_of_alphabet b) (is_data bs) h in
    ap (λ (o : Option (List ℕ × List ℕ)). before_byte b o bs) (split_at_last-data bs parts.1)
    ∙ ap (λ (t : Bool). cond t (Some ([], bs)) None) (not_separator b parts.0)

pub split_at_last-at : (front behind : List ℕ) → is_data behind ≡ true → split_at_last (front ++ 49 ∷ behind) ≡ Some (front, behind)
unfolding split_at_last
split_at_last-at [] behind h = ap (λ (o : Option (List ℕ × List ℕ)). before_byte 49 o behind) (split_at_last-data behind h)
split_at_last-at (b ∷ bs) behind h = ap (λ (o : Option (List ℕ × List ℕ)). before_byte b o (bs ++ 49 ∷ behind)) (split_at_last-at bs behind h)

pub last_stranger-data : (cs : List ℕ) → is_data cs ≡ true → last_stranger cs ≡ None
unfolding last_stranger
last_stranger-data [] h = refl
last_stranger-data (c ∷ cs) h =
    let parts = and_parts (is_of_alphabet c) (is_data cs) h in
    ap (λ (o : Option ℕ). first_of o (cond (is_of_alphabet c) None (Some c))) (last_stranger-data cs parts.1)
    ∙ ap (λ (t : Bool). cond t None (Some c)) parts.0

pub last_stranger-at : (front behind : List ℕ) (c : ℕ) → is_data behind ≡ true → is_of_alphabet c ≡ false → last_stranger (front ++ c ∷ behind) ≡ Some c
unfolding last_stranger
last_stranger-at [] behind c h n =
    ap (λ (o : Option ℕ). first_of o (cond (is_of_alphabet c) None (Some c))) (last_stranger-data behind h)
    ∙ ap (λ (t : Bool). cond t None (Some c)) n
last_stranger-at (b ∷ bs) behind c h n =
    ap (λ (o : Option ℕ). first_of o (cond (is_of_alphabet b) None (Some b))) (last_stranger-at bs behind c h n)

-- the characters of a text whose end is of the alphabet
pub chars-at : (text front behind : List ℕ) (c : ℕ) → IsUtf8 text → IsScalar c → text ≡ front ++ (encode c ++ behind) → is_data behind ≡ true
    → chars text ≡ chars front ++ c ∷ behind
chars-at text front behind c u s e h =
    let ascii = IsAscii-from_data behind h in
    let rest : IsUtf8 (encode c ++ behind) = IsUtf8-append (encode c) behind (IsUtf8-encode c s) (IsUtf8-from_ascii behind ascii) in
    let before : IsUtf8 front =
    subst IsUtf8 (ap (take (length front)) e ∙ take_at front (encode c ++ behind) (length front) refl)
    (IsUtf8-take text (length front) u (IsCharBoundary-at_seam text front (encode c ++ behind) e rest)) in
    ap chars e ∙ chars-append front (encode c ++ behind) before
    ∙ ap (λ (x : List ℕ). chars front ++ x) (chars_past_char (encode c ++ behind) behind c rest refl ∙ ap (λ (x : List ℕ). c ∷ x) (chars-IsAscii behind ascii))

pub invalid_character-at : (text front behind : List ℕ) (c : ℕ) → IsUtf8 text → IsScalar c → text ≡ front ++ (encode c ++ behind) → is_data behind ≡ true
    → is_of_alphabet c ≡ false → c ≢ 49 → invalid_character text ≡ Some (InvalidChar c)
invalid_character-at text front behind c u s e h n ne =
    ap (λ (x : List ℕ). unless_separator (last_stranger x)) (chars-at text front behind c u s e h)
    ∙ ap unless_separator (last_stranger-at (chars front) behind c h n)
    ∙ ap (λ (t : Bool). cond t None (Some (InvalidChar c))) (ne_eqb c 49 ne)

-- where the last such character is a `1`, or there is none
pub separator-at : (text front behind : List ℕ) → IsUtf8 text → text ≡ front ++ (49 ∷ behind) → is_data behind ≡ true → invalid_character text ≡ None
separator-at text front behind u e h =
    let e' : text ≡ front ++ (encode 49 ++ behind) = e ∙ ap (λ (x : List ℕ). front ++ (x ++ behind)) (sym (encode_ascii 49 (omega arith))) in
    ap (λ (x : List ℕ). unless_separator (last_stranger x)) (chars-at text front behind 49 u refl e' h)
    ∙ ap unless_separator (last_stranger-at (chars front) behind 49 h separator_is_none)

pub separator-none : (text : List ℕ) → is_data text ≡ true → invalid_character text ≡ None
separator-none text h =
    ap (λ (x : List ℕ). unless_separator (last_stranger x)) (chars-IsAscii text (IsAscii-from_data text h))
    ∙ ap unless_separator (last_stranger-data text h)
