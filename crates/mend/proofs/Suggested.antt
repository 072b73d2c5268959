-- What may be said of suggestions.
use Rattle.std.specs.Prelude.{flat_map}
use Rattle.std.proofs.Common.{◌≡◌, ◌≢◌, ◌++◌, ◌∷◌, [], ◌∙◌, map, ℕ, inl, inr, List, None, refl, sym, ap, subst, codes}
use Rattle.bech32_near.specs.declared.edits.error.EditsError.{EditsError}
use Rattle.bech32_near.specs.declared.edits.error.EditsError.TheVariants.{Memory}
use Rattle.bech32_hrp.specs.Hrp.{hrp_refusal}
use Rattle.bech32_suggest.specs.Suggestions.{AreSuggestions, IsSuggestRefusal, Suggested}
use Rattle.bech32_suggest.proofs.Adding.{some_tried}
use Rattle.line_program.specs.Refused.{err}
use Rattle.bech32_numbers.specs.Numbers.{number_of_edits_error}
use Rattle.mend.specs.Reply.{IsSuggestAnswer, IsSuggestionsAnswer, said_of_suggestion}

module _ {A : Type 0} (f : A → Suggested) where
  said_each : (found : List A) → flat_map said_of_suggestion (map f found) ≡ flat_map (λ s. said_of_suggestion (f s)) found
  said_each [] = refl
  said_each (s ∷ ss) = ap (λ (l : List ℕ). said_of_suggestion (f s) ++ l) (said_each ss)

  pub says-suggestions : (hrp text : List ℕ) (found : List A) (said : List ℕ) → AreSuggestions text hrp (map f found) → said ≡ codes "ok" ++ flat_map (λ s. said_of_suggestion (f s)) found
      → IsSuggestionsAnswer hrp text said
  says-suggestions hrp text found said are is = inl (record { found = map f found; are = are; spelling = is ∙ ap (λ (l : List ℕ). codes "ok" ++ l) (sym (said_each found)) })

  -- where there are some, out of memory may be said
  pub no-room : (hrp text : List ℕ) (found : List A) → AreSuggestions text hrp (map f found) → found ≢ [] → IsSuggestRefusal text Memory
  no-room hrp text [] are some = absurd (some refl)
  no-room hrp text (s ∷ ss) are some = some_tried text hrp (f s) (map f ss) are

pub says-no_suggestions : (hrp text : List ℕ) (e : EditsError) → IsSuggestRefusal text e → IsSuggestionsAnswer hrp text (err (number_of_edits_error e))
says-no_suggestions hrp text e h = inr (record { error = e; is_refusal = h; spelling = refl })

-- the word for the human-readable part was read
pub says-suggested : {hrp : List ℕ} (part text said : List ℕ) → (hrp_refusal part ≡ None) × (hrp ≡ part) → IsSuggestionsAnswer hrp text said → IsSuggestAnswer part text said
says-suggested part text said parsed h = inr (parsed.0, subst (λ (p : List ℕ). IsSuggestionsAnswer p text said) parsed.1 h)
