-- Headers of words.
use Rattle.std.specs.Prelude.{◌==◌, ◌&&◌, not, MatchResult}
use Rattle.std.specs.Char.{to_ascii_lowercase}
use Rattle.std.proofs.Common.{◌≡◌, ℕ, Bool, true, false, cond, List, [], ◌∷◌, Option, Some, None, Result, Ok, Err, refl, sym, ap, ◌∙◌}
use Rattle.bech32_gf.specs.Alphabet.{is_of_alphabet}
use Rattle.bech32_gf.specs.Fe32.{elements_of}
use Rattle.bech32_gf.specs.declared.gf32.Fe32.{Fe32}
use Rattle.bech32_hrp.specs.Hrp.{first_of}
use Rattle.codex32.specs.Header.{identifier_of_header, share_index_of_header, threshold_of_header}
use Rattle.codex32.specs.HeaderParts.{header_word_fault, identifier_elements, identifier_word_fault, share_index_of_word, share_index_word_fault, threshold_word, threshold_word_fault, unshared_fault, unshared_word_fault}
use Rattle.codex32.specs.declared.error.HeaderError.{HeaderError}
use Rattle.codex32.specs.declared.error.HeaderError.TheVariants as refusals
use Rattle.codex32.specs.declared.header.Header.{Header}
use Rattle.codex32.specs.declared.identifier.Identifier.{Identifier}
use Rattle.codex32.specs.declared.threshold.Threshold.{Threshold}
use Rattle.codex32.proofs.Digits.{s_test, zero_test}

past_words : (tw iw xw : List ℕ) → threshold_word_fault tw ≡ None → identifier_word_fault iw ≡ None → share_index_word_fault xw ≡ None → header_word_fault tw iw xw ≡ unshared_word_fault tw xw
past_words tw iw xw h k l =
    ap (λ (o : Option HeaderError). first_of o (first_of (identifier_word_fault iw) (first_of (share_index_word_fault xw) (unshared_word_fault tw xw)))) h
    ∙ ap (λ (o : Option HeaderError). first_of o (first_of (share_index_word_fault xw) (unshared_word_fault tw xw))) k
    ∙ ap (λ (o : Option HeaderError). first_of o (unshared_word_fault tw xw)) l

letter_of : (b : Bool) → cond b None (Some refusals.ShareIndex) ≡ None → b ≡ true
letter_of true h = refl
letter_of false h = absurd cc

same_unshared : (t : Threshold) (xw : List ℕ) → share_index_word_fault xw ≡ None → unshared_word_fault (threshold_word t) xw ≡ unshared_fault t (share_index_of_word xw)
same_unshared t [] h = absurd (let k = letter_of false h in cc)
same_unshared t (c ∷ d ∷ ds) h = absurd (let k = letter_of false h in cc)
same_unshared t (c ∷ []) h =
    let letter : is_of_alphabet c ≡ true = letter_of (is_of_alphabet c) h in
    ap (λ (b : Bool). cond (b && not (to_ascii_lowercase c == 115)) (Some refusals.Unshared) None) (zero_test t.number)
    ∙ ap (λ (b : Bool). cond (t.number == 0 && not b) (Some refusals.Unshared) None) (s_test c letter)

pub header-from_parts : (tw iw xw : List ℕ) (t : Threshold) (i : Identifier) (x : Fe32) (r : Result Header HeaderError)
    → (threshold_word_fault tw ≡ None) × (tw ≡ threshold_word t) → (identifier_word_fault iw ≡ None) × (identifier_elements i ≡ elements_of iw)
    → (share_index_word_fault xw ≡ None) × (x ≡ share_index_of_word xw)
    → MatchResult r (λ h. (unshared_fault t x ≡ None) × (threshold_of_header h ≡ t) × (identifier_of_header h ≡ i) × (share_index_of_header h ≡ x)) (λ e. unshared_fault t x ≡ Some e)
    → MatchResult r
    (λ h. (header_word_fault tw iw xw ≡ None) × (tw ≡ threshold_word (threshold_of_header h)) × (identifier_elements (identifier_of_header h) ≡ elements_of iw) × (share_index_of_header h ≡ share_index_of_word xw))
    (λ e. header_word_fault tw iw xw ≡ Some e)
header-from_parts tw iw xw t i x (Ok h) a b c made = (
  whole ∙ made.0,
  a.1 ∙ ap threshold_word (sym made.1),
  ap identifier_elements made.2 ∙ b.1,
  made.3 ∙ c.1,
)
  where
    whole : header_word_fault tw iw xw ≡ unshared_fault t x
    whole =
        past_words tw iw xw a.0 b.0 c.0 ∙ ap (λ (w : List ℕ). unshared_word_fault w xw) a.1 ∙ same_unshared t xw c.0 ∙ ap (unshared_fault t) (sym c.1)
header-from_parts tw iw xw t i x (Err e) a b c made =
    past_words tw iw xw a.0 b.0 c.0 ∙ ap (λ (w : List ℕ). unshared_word_fault w xw) a.1 ∙ same_unshared t xw c.0 ∙ ap (unshared_fault t) (sym c.1) ∙ made
