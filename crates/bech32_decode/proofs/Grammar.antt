-- A text is refused by no fault exactly where it is in the grammar.
use Rattle.std.proofs.Common.{◌≡◌, ℕ, ◌+◌, true, false, List, [], ◌∷◌, ◌++◌, Option, Some, None, length, refl, sym, ap, ◌∙◌, take, drop, ◌-◌, append_assoc, length-append}
use Rattle.std.proofs.lemmas.Bool.{cond-false}
use Rattle.std.proofs.lemmas.List.{take_rest, drop_at}
use Rattle.std.proofs.lemmas.Option.{some_pair_parts}
use Rattle.std.specs.Str.{IsUtf8}
use Rattle.bech32_gf.specs.Alphabet.{is_data}
use Rattle.bech32_hrp.specs.Hrp.{is_mixed_case, first_of, hrp_refusal}
use Rattle.bech32_refusals.specs.declared.error.CharError.{CharError}
use Rattle.bech32_refusals.specs.declared.error.CharError.TheVariants.{MixedCase}
use Rattle.bech32_refusals.specs.declared.error.UncheckedHrpstringError.{UncheckedHrpstringError}
use Rattle.bech32_decode.specs.Text.{IsText, IsInGrammar, text_refusal, as_char, as_hrp, mixed_case, bad_hrp, missing_separator, invalid_character, split_at_last}
use Rattle.bech32_decode.proofs.Texts.{separator-at, split_at_last-at}
use Rattle.bech32_hrp.proofs.HrpTexts.{hrp_refusal-none}

pub none_first : {A : Type 0} (f r : Option A) → first_of f r ≡ None → (f ≡ None) × (r ≡ None)
none_first None r h = (refl, h)
none_first (Some e) r h = absurd (cc)

text_refusal-from_parts : (text hrp behind : List ℕ) → invalid_character text ≡ None → is_mixed_case text ≡ false → split_at_last text ≡ Some (hrp, behind) → hrp_refusal hrp ≡ None → text_refusal text ≡ None
text_refusal-from_parts text hrp behind valid one cut fine =
    ap (λ (f : Option CharError). first_of (as_char f) (first_of (as_char (mixed_case text)) (first_of (as_char (missing_separator (split_at_last text))) (as_hrp (bad_hrp (split_at_last text)))))) valid
    ∙ ap (λ (f : Option CharError). first_of (as_char f) (first_of (as_char (missing_separator (split_at_last text))) (as_hrp (bad_hrp (split_at_last text))))) (cond-false (is_mixed_case text) (Some MixedCase) None one)
    ∙ ap (λ (p : Option (List ℕ × List ℕ)). first_of (as_char (missing_separator p)) (as_hrp (bad_hrp p))) cut
    ∙ ap as_hrp fine

-- the bytes behind the separator
pub behind-slice : (bytes text front behind : List ℕ) → bytes ≡ text → text ≡ front ++ 49 ∷ behind → take (length bytes - (length front + 1)) (drop (length front + 1) bytes) ≡ behind
behind-slice bytes text front behind b e =
    let whole : bytes ≡ (front ++ 49 ∷ []) ++ behind = b ∙ e ∙ sym (append_assoc front (49 ∷ []) behind) in
    let at : length (front ++ 49 ∷ []) ≡ length front + 1 = length-append front (49 ∷ []) in
    take_rest bytes (length front + 1) ∙ ap (drop (length front + 1)) whole ∙ drop_at (front ++ 49 ∷ []) behind (length front + 1) at

pub text_refusal-none : (text : List ℕ) → IsUtf8 text → IsInGrammar text → text_refusal text ≡ None
text_refusal-none text u g =
    let (hrp, behind, is) = g in
    let cut : split_at_last text ≡ Some (hrp, behind) = ap split_at_last is.split ∙ split_at_last-at hrp behind is.data_bytes in
    let fine : hrp_refusal hrp ≡ None = hrp_refusal-none hrp is.is_hrp in
    text_refusal-from_parts text hrp behind (separator-at text hrp behind u is.split is.data_bytes) is.one_case cut fine

-- there is one way to cut a text
pub only-from_IsText : (text hrp behind : List ℕ) → IsText text hrp behind → (h d : List ℕ) → text ≡ h ++ 49 ∷ d → is_data d ≡ true → (h ≡ hrp) × (d ≡ behind)
only-from_IsText text hrp behind is h d e k =
    let same : ◌≡◌ {A = Option (List ℕ × List ℕ)} (Some (h, d)) (Some (hrp, behind)) = sym (ap split_at_last e ∙ split_at_last-at h d k) ∙ (ap split_at_last is.split ∙ split_at_last-at hrp behind is.data_bytes) in
    some_pair_parts h hrp d behind same

-- a text that is refused is not in the grammar
pub not_in_grammar : (text : List ℕ) (e : UncheckedHrpstringError) → IsUtf8 text → text_refusal text ≡ Some e → IsInGrammar text → ⊥
not_in_grammar text e u h g = absurd (let none = text_refusal-none text u g in cc)
