-- The places at which a text is cut.
use Rattle.std.proofs.Common.{◌≡◌, ◌+◌, ◌<◌, ◌≤◌, ◌∙◌, ℕ, List, [], ◌∷◌, ◌++◌, length, take, drop, sym, ap, subst, append_assoc, refl, arith, ⊎_elim}
use Rattle.std.proofs.lemmas.Bool.{cases_lt}
use Rattle.std.proofs.lemmas.List.{take_at, drop_at, length-append}
use Rattle.bech32_checksum.specs.Code.{Code}
use Rattle.bech32_decode.specs.Acceptance.{IsAccepted}

-- the parts of a text by the place of the separator
front-is : (text front behind : List ℕ) → text ≡ front ++ 49 ∷ behind → front ≡ take (length front) text
front-is text front behind e = sym (ap (take (length front)) e ∙ take_at front (49 ∷ behind) (length front) refl)

behind-is : (text front behind : List ℕ) → text ≡ front ++ 49 ∷ behind → behind ≡ drop (length front + 1) text
behind-is text front behind e =
    let whole : text ≡ (front ++ 49 ∷ []) ++ behind = e ∙ sym (append_assoc front (49 ∷ []) behind) in
    sym (ap (drop (length front + 1)) whole ∙ drop_at (front ++ 49 ∷ []) behind (length front + 1) (length-append front (49 ∷ [])))

-- where no part that ends before this place is accepted, nor the one that ends here, none up to it is
pub none_up_to : (code : Code) (text : List ℕ) (at : ℕ)
    → ((h d : List ℕ) → length h < at → IsAccepted code text h d → ⊥)
    → (IsAccepted code text (take at text) (drop (at + 1) text) → ⊥)
    → (h d : List ℕ) → length h < at + 1 → IsAccepted code text h d → ⊥
none_up_to code text at before here h d lt is =
    ⊎_elim
    (λ (below : length h < at). before h d below is)
    (λ (above : at ≤ length h).
    let same : length h ≡ at = omega arith in
    let front : h ≡ take at text = front-is text h d is.grammar.split ∙ ap (λ (n : ℕ). take n text) same in
    let behind : d ≡ drop (at + 1) text = behind-is text h d is.grammar.split ∙ ap (λ (n : ℕ). drop (n + 1) text) same in
    here (subst (λ (x : List ℕ). IsAccepted code text x (drop (at + 1) text)) front (subst (λ (x : List ℕ). IsAccepted code text h x) behind is)))
    (cases_lt (length h) at)
