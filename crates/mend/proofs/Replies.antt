-- What may be said of a line.
use Rattle.std.specs.Prelude.{IfOk, drop, flat_map}
use Rattle.std.proofs.Common.{◌≡◌, ◌≢◌, ◌++◌, ◌∷◌, [], ◌∙◌, append-nil, map, ℕ, zero, suc, ◌<◌, ◌≤◌, inl, inr, List, Option, Some, None, Result, Ok, Err, MatchOption, length, take, refl, sym, ap, subst, codes, arith}
use Rattle.std.proofs.lemmas.List.{drop_all, take_all}
use Rattle.bech32_gf.specs.declared.gf32.Fe32.{Fe32}
use Rattle.bech32_checksum.specs.Code.{Code}
use Rattle.bech32_checksum.specs.Roots.{singleton_bound}
use Rattle.bech32_correction.specs.declared.error.CorrectError.{CorrectError}
use Rattle.bech32_correction.specs.declared.error.CorrectError.TheVariants.{Memory, Refused}
use Rattle.bech32_near.specs.NearTexts.{AreNearTexts, IsNearestRefusal}
use Rattle.bech32_near.specs.declared.edits.edit.Edit.{Edit}
use Rattle.bech32_near.specs.declared.edits.error.EditsError.{EditsError}
use Rattle.bech32_near.specs.declared.edits.error.EditsError.TheVariants as edits
use Rattle.bech32_near.specs.edits.NearEdits.{AreNearEdits, IsEditsRefusal}
use Rattle.line_program.specs.Added.{AddsOrSaysNumber}
use Rattle.line_program.specs.Refused.{err}
use Rattle.bech32_numbers.specs.Numbers.{number_of_correct_error, number_of_edits_error}
use Rattle.mend.specs.Reply.{IsEditsAnswer, IsNearTextsAnswer, IsNearTextsRefusal, SaysNear, most_said, said_of_edit, said_of_more, spaced}
use Rattle.mend.specs.Request.{errors_of_word}
use Rattle.mend.proofs.Few.{SaysBy}

-- what is added may be said more widely
pub adds-wider : (Says Wider : List ℕ → Type 0) (r : Result (Unit {0}) ℕ) (old new : List ℕ) → ((said : List ℕ) → Says said → Wider said) → AddsOrSaysNumber Says r old new → AddsOrSaysNumber Wider r old new
adds-wider Says Wider (Ok _) old new more h = (h.0, more h.0 h.1, h.2)
adds-wider Says Wider (Err number) old new more h = (more (err number) h.0, h.1)

-- ---- near texts

-- why none are listed is why none are said
pub refused_near : (code : Code) (bound : ℕ) (text given : List ℕ) (errors : ℕ) (e : CorrectError) → IsNearestRefusal code bound text given errors e → IsNearTextsRefusal code text e
refused_near code bound text given errors (Refused e) h = h
refused_near code bound text given errors Memory h = (h.hrp, h.data_part, h.residue, h.read)

module _ (code : Code) (text given word : List ℕ) where
  pub says-bad_word : errors_of_word word ≡ None → IsNearTextsAnswer code text given word (err 4)
  says-bad_word is = subst (SaysBy code text given (err 4)) (sym is) refl

  module _ (errors : ℕ) (is : errors_of_word word ≡ Some errors) where
    pub says-near : (said : List ℕ) → SaysNear code text given errors said → IsNearTextsAnswer code text given word said
    says-near said h = subst (SaysBy code text given said) (sym is) (inl h)

    pub says-refused : (e : CorrectError) → IsNearTextsRefusal code text e → IsNearTextsAnswer code text given word (err (number_of_correct_error e))
    says-refused e h = subst (SaysBy code text given (err (number_of_correct_error e))) (sym is) (inr (record { error = e; is_refusal = h; spelling = refl }))

    pub says-no_memory : (said : List ℕ) → SaysNear code text given errors said → IsNearTextsAnswer code text given word (err 91)
    says-no_memory said h = let l = h.near.listings in says-refused Memory (l.hrp, l.data_part, l.residue, l.read)

-- ---- what is said of texts

pub spaced_of : {A : Type 0} (f : A → List (ℕ × Fe32) × List ℕ) (near : List A) → spaced (map (λ m. m.1) (map f near)) ≡ flat_map (λ m. 32 ∷ (f m).1) near
spaced_of f [] = refl
spaced_of f (m ∷ ms) = ap (λ (l : List ℕ). (32 ∷ (f m).1) ++ l) (spaced_of f ms)

-- of more than are said, the first, and that there are more
spaced_first : {A : Type 0} (f : A → List (ℕ × Fe32) × List ℕ) (n : ℕ) (near : List A) → spaced (take n (map (λ m. m.1) (map f near))) ≡ flat_map (λ m. 32 ∷ (f m).1) (take n near)
spaced_first f zero near = refl
spaced_first f (suc n) [] = refl
spaced_first f (suc n) (m ∷ ms) = ap (λ (l : List ℕ). (32 ∷ (f m).1) ++ l) (spaced_first f n ms)

more_first : {A : Type 0} (f : A → List (ℕ × Fe32) × List ℕ) (n : ℕ) (near : List A) → said_of_more (drop n (map (λ m. m.1) (map f near))) ≡ said_of_more (drop n near)
more_first f zero [] = refl
more_first f zero (m ∷ ms) = refl
more_first f (suc n) [] = refl
more_first f (suc n) (m ∷ ms) = more_first f n ms

pub more_there : {A : Type 0} (n : ℕ) (near : List A) → n < length near → said_of_more (drop n near) ≡ codes " more"
more_there zero [] some = absurd (omega (arith, some))
more_there zero (m ∷ ms) some = refl
more_there (suc n) [] some = absurd (omega (arith, some))
more_there (suc n) (m ∷ ms) some = more_there n ms (omega (arith, some))

-- few are all said
few_said : {A : Type 0} (spelling : A → List ℕ) (near : List A) → length near ≤ most_said
    → flat_map spelling near ≡ flat_map spelling (take most_said near) ++ said_of_more (drop most_said near)
few_said {A} spelling near few =
    sym (append-nil (flat_map spelling near))
    ∙ ap (λ (l : List A). flat_map spelling l ++ []) (sym (take_all most_said near few))
    ∙ ap (λ (l : List A). flat_map spelling (take most_said near) ++ said_of_more l) (sym (drop_all most_said near few))

pub all-said : {A V E : Type 0} (spelling : A → List ℕ) (items : V → List ℕ) (near : List A) (r : Result V E) → length near ≤ most_said
    → IfOk r (λ v. items v ≡ codes "ok" ++ flat_map spelling near)
    → IfOk r (λ v. items v ≡ codes "ok" ++ (flat_map spelling (take most_said near) ++ said_of_more (drop most_said near)))
all-said spelling items near (Ok v) few is = is ∙ ap (λ (l : List ℕ). codes "ok" ++ l) (few_said spelling near few)
all-said spelling items near (Err e) few is = is

pub says-found : {A : Type 0} (f : A → List (ℕ × Fe32) × List ℕ) (code : Code) (text given : List ℕ) (errors : ℕ) (near shown : List A) (said : List ℕ) → shown ≡ near
    → AreNearTexts code (singleton_bound 24 26) text given errors (map f near)
    → said ≡ codes "ok" ++ (flat_map (λ m. 32 ∷ (f m).1) (take most_said shown) ++ said_of_more (drop most_said shown)) → SaysNear code text given errors said
says-found {A} f code text given errors near shown said same are is = record {
  found = map f near;
  near = are;
  spelling =
      is
      ∙ ap (λ (l : List A). codes "ok" ++ (flat_map (λ m. 32 ∷ (f m).1) (take most_said l) ++ said_of_more (drop most_said l))) same
      ∙ ap (λ (l : List ℕ). codes "ok" ++ (l ++ said_of_more (drop most_said near))) (sym (spaced_first f most_said near))
      ∙ ap (λ (l : List ℕ). codes "ok" ++ (spaced (take most_said (map (λ m. m.1) (map f near))) ++ l)) (sym (more_first f most_said near));
}

-- ---- what is said of edits

module _ {A : Type 0} (f : A → Edit × List ℕ) where
  said_each : (found : List A) → flat_map (λ m. said_of_edit m.0 m.1) (map f found) ≡ flat_map (λ m. said_of_edit (f m).0 (f m).1) found
  said_each [] = refl
  said_each (m ∷ ms) = ap (λ (l : List ℕ). said_of_edit (f m).0 (f m).1 ++ l) (said_each ms)

  pub says-edits : (code : Code) (text : List ℕ) (found : List A) (said : List ℕ) → AreNearEdits code text (map f found) → said ≡ codes "ok" ++ flat_map (λ m. said_of_edit (f m).0 (f m).1) found
      → IsEditsAnswer code text said
  says-edits code text found said are is = inl (record { found = map f found; are = are; spelling = is ∙ ap (λ (l : List ℕ). codes "ok" ++ l) (sym (said_each found)) })

  -- where there are some, out of memory may be said
  pub no-room : (code : Code) (text : List ℕ) (found : List A) → AreNearEdits code text (map f found) → found ≢ [] → IsEditsRefusal code text edits.Memory
  no-room code text [] are some = absurd (some refl)
  no-room code text (m ∷ ms) are some = ((f m).0, (f m).1, are.each.0.0, are.each.0.1)

pub says-no_edits : (code : Code) (text : List ℕ) (e : EditsError) → IsEditsRefusal code text e → IsEditsAnswer code text (err (number_of_edits_error e))
says-no_edits code text e h = inr (record { error = e; is_refusal = h; spelling = refl })
