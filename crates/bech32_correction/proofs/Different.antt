-- Locations of which none stands twice are the erasures themselves.
use Rattle.std.specs.Prelude.{◌≢◌}
use Rattle.std.proofs.Common.{◌≡◌, ◌⊎◌, inl, inr, ℕ, Bool, true, false, cond, eqb, List, [], ◌∷◌, ◌++◌, subst, sym, ap, ◌∙◌, refl}
use Rattle.std.proofs.lemmas.Bool.{cond-false}
use Rattle.std.proofs.lemmas.Bool.Decides.{eqb_tells}
use Rattle.std.proofs.lemmas.List.{append-nil, append_assoc}
use Rattle.bech32_poly.specs.Distinct.{IsNotAmong, IsOnce}
use Rattle.bech32_bch.specs.Erasures.{has, with_erasures}

not_has : (s : List ℕ) (i : ℕ) (more : List ℕ) → IsOnce (s ++ (i ∷ more)) → has s i ≡ false
not_has [] i more h = refl
not_has (m ∷ s) i more h = step (eqb_tells i m) (not_has s i more h.1)
  where
    last : (t : List ℕ) → IsNotAmong m (t ++ (i ∷ more)) → m ≢ i
    last [] n = n.0
    last (u ∷ t) n = last t n.1

    step : ((eqb i m ≡ true) × (i ≡ m)) ⊎ ((eqb i m ≡ false) × (i ≢ m)) → has s i ≡ false → cond (eqb i m) true (has s i) ≡ false
    step (inl e) r = absurd (last s h.0 (sym e.1))
    step (inr e) r = cond-false (eqb i m) true (has s i) e.0 ∙ r

erasures_after : (s more : List ℕ) → IsOnce (s ++ more) → with_erasures s more ≡ s ++ more
erasures_after s [] h = sym (append-nil s)
erasures_after s (i ∷ more) h =
    let new : has s i ≡ false = not_has s i more h in
    let moved : (s ++ (i ∷ [])) ++ more ≡ s ++ (i ∷ more) = append_assoc s (i ∷ []) more in
    ap (λ (b : Bool). with_erasures (cond b s (s ++ (i ∷ []))) more) new
    ∙ erasures_after (s ++ (i ∷ [])) more (subst IsOnce (sym moved) h)
    ∙ moved

pub erasures_are : (s : List ℕ) → IsOnce s → with_erasures [] s ≡ s
erasures_are s h = erasures_after [] s h
