-- Listed locations are those of characters of the data part.
use Rattle.std.specs.Prelude.{◌≢◌, ◌*◌, Bool, true, false, cond}
use Rattle.std.specs.List.{AllByRecursion}
use Rattle.std.proofs.Common.{◌≡◌, ℕ, ◌+◌, ◌<◌, ◌≤◌, List, [], ◌∷◌, ◌++◌, length, length-append, inl, inr, subst, sym, ap, ◌∙◌, arith}
use Rattle.std.proofs.lemmas.List.{length-map}
use Rattle.bech32_gf.specs.Field.{Ops, IsField}
use Rattle.bech32_poly.specs.Distinct.{IsAmong}
use Rattle.bech32_poly.specs.Pattern.{value_of_pattern_at}
use Rattle.bech32_bch.specs.Listing.{IsSound}
use Rattle.bech32_bch.specs.Erasures.{has, with_erasures}
use Rattle.bech32_bch.specs.Pattern.{errors_outside, locations}
use Rattle.bech32_bch.proofs.Alone.{mem_or_not}
use Rattle.bech32_bch.proofs.Counting.{located_outside, outside}
use Rattle.bech32_bch.proofs.Patterns.{all_located, at_absent, locations_listed, outside_count}
use Rattle.bech32_bch.proofs.Places.{all_of, all_push, look, mem_split, once_fits}
use Rattle.bech32_bch.proofs.Rising.{once_in_order}

all_locations : {F : Type 0} (P : ℕ → Type 0) (e : List (ℕ × F)) → AllByRecursion (λ (p : ℕ × F). P p.0) e → AllByRecursion P (locations e)
all_locations P [] h = tt
all_locations P (p ∷ e) h = (h.0, all_locations P e h.1)

module _ {F : Type 0} {f : Ops F} (fl : IsField f) where
  -- a location whose value is not zero is one of the pattern's
  valued : (e : List (ℕ × F)) (i : ℕ) → value_of_pattern_at f e i ≢ f.zero → IsAmong i (locations e)
  valued e i n = elim (mem_or_not i (locations e)) [ inl m ↦ m | inr k ↦ absurd (n (at_absent fl e i k)) ]

  pub listed_inside : (g residue : List F) (s : List ℕ) (w bound : ℕ) (listing : List (ℕ × F)) → IsSound f g residue s w bound listing
      → AllByRecursion (λ i. i < w) s → AllByRecursion (λ (p : ℕ × F). p.0 < w) listing
  listed_inside g residue s w bound listing h within =
      all_located (λ i. i < w) listing (subst (λ u. AllByRecursion (λ i. i < w) u) (sym places) (all_of (λ i. i < w) (s ++ h.listing.errors) below))
    where
      places : locations listing ≡ s ++ h.listing.errors
      places = ap locations h.listing.items_are ∙ locations_listed (value_of_pattern_at f h.pattern) (s ++ h.listing.errors)

      below : (i : ℕ) → IsAmong i (s ++ h.listing.errors) → i < w
      below i m = elim (mem_split i s h.listing.errors m) [
        | inl k ↦ look (λ j. j < w) i s within k
        | inr k ↦ look (λ j. j < w) i (locations h.pattern) (all_locations (λ j. j < w) h.pattern h.solves.pattern.below) (valued h.pattern i ((h.listing.are_errors i).0 k).0)
      ]

  -- no more are listed than the bound allows
  pub listed_few : (g residue : List F) (s : List ℕ) (w bound : ℕ) (listing : List (ℕ × F)) → IsSound f g residue s w bound listing → length listing ≤ bound
  listed_few g residue s w bound listing h =
      let e : List (ℕ × F) = h.pattern in
      let size : length listing ≡ length (s ++ h.listing.errors) = ap length h.listing.items_are ∙ length-map (s ++ h.listing.errors) (λ i. (i, value_of_pattern_at f h.pattern i)) in
      let parts : length (s ++ h.listing.errors) ≡ length s + length h.listing.errors = length-append s h.listing.errors in
      let errors : length h.listing.errors ≤ length (outside s h.pattern) =
      once_fits h.listing.errors (outside s h.pattern) (once_in_order h.listing.errors h.listing.in_order)
      (λ i m. located_outside s h.pattern i (valued h.pattern i ((h.listing.are_errors i).0 m).0) ((h.listing.are_errors i).0 m).1) in
      let counted : length (outside s h.pattern) ≡ errors_outside s h.pattern = outside_count s h.pattern in
      let few : 2 * errors_outside s h.pattern + length s ≤ bound = h.solves.few in
      omega arith

-- what holds of a list and of further locations holds of both, each once
pub all-with_erasures : (P : ℕ → Type 0) (s given : List ℕ) → AllByRecursion P s → AllByRecursion P given → AllByRecursion P (with_erasures s given)
all-with_erasures P s [] h k = h
all-with_erasures P s (i ∷ more) h k = all-with_erasures P (cond (has s i) s (s ++ i ∷ [])) more (kept (has s i)) k.1
  where
    kept : (b : Bool) → AllByRecursion P (cond b s (s ++ i ∷ []))
    kept true = h
    kept false = all_push P s i h k.0
