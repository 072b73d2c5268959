-- The listing of a pattern that has the residue as remainder within the bound is the only one.
use Rattle.std.specs.Prelude.{◌↔◌, ◌≢◌}
use Rattle.std.proofs.Common.{◌≡◌, ◌<◌, ◌≤◌, ℕ, List, [], ◌∷◌, ◌++◌, length, sym, subst, ◌∙◌, refl, arith}
use Rattle.std.proofs.Math.Decide.{dec_lt}
use Rattle.bech32_gf.specs.Field.{Ops, IsField}
use Rattle.bech32_gf.specs.Fe32.{ops, zero}
use Rattle.bech32_gf.specs.declared.gf32.Fe32.{Fe32}
use Rattle.bech32_gf.specs.laws.Fe32Laws.{is_field}
use Rattle.bech32_poly.specs.Distinct.{IsAmong}
use Rattle.bech32_poly.specs.Division.{remainder_of}
use Rattle.bech32_poly.specs.Embedding.{Embeds}
use Rattle.bech32_poly.specs.Pattern.{pattern_polynomial, value_of_pattern_at}
use Rattle.bech32_poly.proofs.Remainder.{remainder_of-itself, remainder_of-same, remainder_unique}
use Rattle.bech32_checksum.specs.Code.{Code}
use Rattle.bech32_bch.specs.Erasures.{AreErasures}
use Rattle.bech32_bch.specs.Listing.{IsListing, IsSound}
use Rattle.bech32_bch.specs.Pattern.{HasRemainder, Solves, errors_outside}
use Rattle.bech32_bch.specs.Search.{AreUsableRoots, IsCandidate}
use Rattle.bech32_bch.proofs.Accepted.{sound}
use Rattle.bech32_bch.proofs.Counting.{alone}
use Rattle.bech32_bch.proofs.Patterns.{listed_same, outside_count}
use Rattle.bech32_lookup.specs.Question.{IsOnlyListing}
use Rattle.bech32_lookup.proofs.Mends.{mends}
use Rattle.bech32_lookup.proofs.Remainders.{remainder_left}

same_rest : (g residue : List Fe32) (e e' : List (ℕ × Fe32)) → HasRemainder ops g residue e → HasRemainder ops g residue e' → remainder_of ops g (pattern_polynomial ops e) ≡ remainder_of ops g (pattern_polynomial ops e')
same_rest g residue e e' r r' =
    sym (remainder_unique is_field g (pattern_polynomial ops e) r.0 r.1)
    ∙ sym (remainder_of-itself is_field g r.0 r.1.short) ∙ remainder_of-same is_field g r.0 r'.0 (λ i. r.2 i ∙ sym (r'.2 i)) ∙ remainder_of-itself is_field g r'.0 r'.1.short
    ∙ remainder_unique is_field g (pattern_polynomial ops e') r'.0 r'.1

-- patterns of the same values have one listing
same_listing : (s : List ℕ) (e e' listing : List (ℕ × Fe32)) → ((i : ℕ) → value_of_pattern_at ops e i ≡ value_of_pattern_at ops e' i) → IsListing ops s e listing → IsListing ops s e' listing
same_listing s e e' listing same is = record {
  errors = is.errors;
  in_order = is.in_order;
  are_errors = λ i. subst (λ (x : Fe32). IsAmong i is.errors ↔ ((x ≢ zero) × (IsAmong i s → ⊥))) (same i) (is.are_errors i);
  items_are = is.items_are ∙ listed_same (value_of_pattern_at ops e) (value_of_pattern_at ops e') same (s ++ is.errors);
}

module _ {K : Type 0} {o : Ops K} (l : IsField o) {embed : Fe32 → K} (into : Embeds ops o embed) (apart : (x y : Fe32) → embed x ≡ embed y → x ≡ y)
    (b : K) (start count w : ℕ) (g residue : List Fe32) (s : List ℕ) (usable : AreUsableRoots ops o embed g b start count w) (erased : AreErasures w s) where
  -- the second has no more errors
  fewer : (e e' : List (ℕ × Fe32)) → Solves ops g residue s w count e → Solves ops g residue s w count e' → errors_outside s e' ≤ errors_outside s e → (i : ℕ) → value_of_pattern_at ops e i ≡ value_of_pattern_at ops e' i
  fewer e e' h h' less =
      alone is_field l into b usable.order.order w start count g (remainder_of ops g (pattern_polynomial ops e')) s e e' apart usable.order.is_order usable.order.not_zero usable.order.long_enough usable.roots erased.below
      h.pattern.below h'.pattern.below (same_rest g residue e e' h.remainder h'.remainder) refl
      (omega (arith, h.few, outside_count s e)) (omega (arith, less, outside_count s e, outside_count s e'))

  same_pattern : (e e' : List (ℕ × Fe32)) → Solves ops g residue s w count e → Solves ops g residue s w count e' → (i : ℕ) → value_of_pattern_at ops e i ≡ value_of_pattern_at ops e' i
  same_pattern e e' h h' i = elim (dec_lt (errors_outside s e) (errors_outside s e')) [
    | yes k ↦ sym (fewer e' e h' h (omega arith) i)
    | no k ↦ fewer e e' h h' (omega arith) i
  ]

  pub only_other : (e e' listing : List (ℕ × Fe32)) → Solves ops g residue s w count e → IsListing ops s e listing → Solves ops g residue s w count e' → IsListing ops s e' listing
  only_other e e' listing h is h' = same_listing s e e' listing (same_pattern e e' h h') is

-- a candidate that has the residue as remainder is the only listing
pub only_listing : {K : Type 0} {o : Ops K} (l : IsField o) {embed : Fe32 → K} (into : Embeds ops o embed) (apart : (x y : Fe32) → embed x ≡ embed y → x ≡ y)
    (b : K) (start count w : ℕ) (code : Code) (residue : List Fe32) (s : List ℕ) (listing : List (ℕ × Fe32))
    → AreUsableRoots ops o embed code.generator b start count w → AreErasures w s → IsCandidate ops w s count listing → length code.target ≡ length code.generator
    → HasRemainder ops code.generator residue listing → IsOnlyListing code count (record { residue = residue; window = w; erasures = s }) listing
only_listing {K} {o} l {embed} into apart b start count w code residue s listing usable erased candidate size leaves =
    let is : IsSound ops code.generator residue s w count listing =
    sound is_field l into b start count w code.generator residue s listing apart usable erased candidate (remainder_left is_field code.generator residue listing leaves) in
    record {
      pattern = is.pattern;
      explains = is.solves;
      lists = is.listing;
      only = λ e h. only_other l into apart b start count w code.generator residue s usable erased is.pattern e listing is.solves is.listing h;
      alone = is.alone;
      mends = mends is_field (λ x. refl) code.generator code.target residue listing size leaves;
    }

-- no errors, and one
pub none_listed : (w count : ℕ) → IsCandidate ops w [] count []
none_listed w count = record {
  errors = [];
  are_errors = record { in_order = tt; below = tt; outside = tt; few = omega arith };
  placed = refl;
  values = tt;
}

pub one_listed : (w count : ℕ) (p : ℕ × Fe32) → 2 ≤ count → p.0 < w → p.1 ≢ zero → IsCandidate ops w [] count (p ∷ [])
one_listed w count p room within some = record {
  errors = p.0 ∷ [];
  are_errors = record { in_order = (tt, tt); below = (within, tt); outside = (λ h. h, tt); few = omega (arith, room) };
  placed = refl;
  values = (some, tt);
}

pub no_erasures : (w : ℕ) → AreErasures w []
no_erasures w = record { once = tt; below = tt }
