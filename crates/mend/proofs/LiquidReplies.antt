-- What may be said of confidential addresses.
use Rattle.std.specs.Prelude.{OnOk, flat_map}
use Rattle.std.proofs.Common.{◌≡◌, ◌⊎◌, ◌++◌, ◌∷◌, ◌∙◌, map, ℕ, true, inl, inr, is_ok, List, Option, Some, None, MatchOption, MatchResult, Result, Ok, Err, refl, sym, ap, subst, codes}
use Rattle.bech32_gf.specs.declared.gf32.Fe32.{Fe32}
use Rattle.bech32_checksum.specs.Roots.{singleton_bound}
use Rattle.bech32_correction.specs.declared.error.CorrectError.{CorrectError}
use Rattle.bech32_correction.specs.declared.error.CorrectError.TheVariants.{Memory}
use Rattle.bech32_near.specs.NearTexts.{AreNearTexts}
use Rattle.blech32.specs.Words.{blech32_code}
use Rattle.line_program.specs.Refused.{SaysRefusal, err}
use Rattle.bech32_numbers.specs.Numbers.{number_of_correct_error}
use Rattle.bech32_more_calls.specs.confidential.Nearest.{IsLiquidAsked}
use Rattle.mend.specs.Reply.{IsLiquidAnswer, IsLiquidNearAnswer, IsNearTextsRefusal, SaysLiquid}
use Rattle.mend.specs.Request.{liquid_errors_of_word}
use Rattle.mend.proofs.Replies.{spaced_of}

pub says-liquid-found : {A : Type 0} (f : A → List (ℕ × Fe32) × List ℕ) (text given : List ℕ) (errors : ℕ) (near shown : List A) (said : List ℕ) → shown ≡ near
    → AreNearTexts blech32_code (singleton_bound 1 6) text given errors (map f near) → said ≡ codes "ok" ++ flat_map (λ m. 32 ∷ (f m).1) shown → SaysLiquid text given errors said
says-liquid-found {A} f text given errors near shown said same are is = record {
  found = map f near;
  near = are;
  spelling =
      is
      ∙ ap (λ (l : List A). codes "ok" ++ flat_map (λ m. 32 ∷ (f m).1) l) same
      ∙ ap (λ (l : List ℕ). codes "ok" ++ l) (sym (spaced_of f near));
}

abbrev SaysBy : List ℕ → List ℕ → List ℕ → Option ℕ → Type 0
SaysBy text given said o =
    MatchOption o (said ≡ err 4) (λ errors. IsLiquidNearAnswer text given errors said)

module _ (text given word : List ℕ) where
  pub liquid-bad_word : liquid_errors_of_word word ≡ None → IsLiquidAnswer text given word (err 4)
  liquid-bad_word is = subst (SaysBy text given (err 4)) (sym is) refl

  module _ (errors : ℕ) (is : liquid_errors_of_word word ≡ Some errors) where
    pub liquid-not_asked : (IsLiquidAsked given errors → ⊥) → IsLiquidAnswer text given word (err 4)
    liquid-not_asked unasked = subst (SaysBy text given (err 4)) (sym is) (inl (unasked, refl))

  module _ (errors : ℕ) (is : liquid_errors_of_word word ≡ Some errors) (asked : IsLiquidAsked given errors) where
    pub liquid-near : (said : List ℕ) → SaysLiquid text given errors said → IsLiquidAnswer text given word said
    liquid-near said h = subst (SaysBy text given said) (sym is) (inr (asked, inl h))

    pub liquid-refused : (e : CorrectError) → IsNearTextsRefusal blech32_code text e → IsLiquidAnswer text given word (err (number_of_correct_error e))
    liquid-refused e h = subst (SaysBy text given (err (number_of_correct_error e))) (sym is) (inr (asked, inr (record { error = e; is_refusal = h; spelling = refl })))

    pub liquid-no_memory : (said : List ℕ) → SaysLiquid text given errors said → IsLiquidAnswer text given word (err 91)
    liquid-no_memory said h = let l = h.near.listings in liquid-refused Memory (l.hrp, l.data_part, l.residue, l.read)

    -- of what is said, of memory for it, or of why nothing is
    pub liquid-answer : {A : Type 0} (items : A → List ℕ) (r : Result A CorrectError) (t : List ℕ) → MatchResult r (λ s. SaysLiquid text given errors (items s)) (IsNearTextsRefusal blech32_code text)
        → MatchResult r (λ s. (t ≡ items s) ⊎ (t ≡ err 91)) (λ e. t ≡ err (number_of_correct_error e)) → IsLiquidAnswer text given word t
    liquid-answer items (Ok s) t h (inl e) = subst (λ (x : List ℕ). IsLiquidAnswer text given word x) (sym e) (liquid-near (items s) h)
    liquid-answer items (Ok s) t h (inr e) = subst (λ (x : List ℕ). IsLiquidAnswer text given word x) (sym e) (liquid-no_memory (items s) h)
    liquid-answer items (Err x) t h e = subst (λ (x : List ℕ). IsLiquidAnswer text given word x) (sym e) (liquid-refused x h)

-- what holds of what was added
pub on-ok : {T E : Type 0} (r : Result T E) (P : Type 0) → is_ok r ≡ true → OnOk r P → P
on-ok (Ok x) P is h = h
on-ok (Err e) P is h = absurd cc
