-- The list of rows, as the loops fill it.
use Rattle.std.specs.Prelude.{◌≢◌}
use Rattle.std.specs.List.{Contains}
use Rattle.std.proofs.Common.{◌≡◌, ℕ, suc, ◌+◌, ◌-◌, ◌<◌, ◌≤◌, List, [], ◌∷◌, ◌++◌, length, ◌⊎◌, inl, inr, sym, ap, subst, arith}
use Rattle.std.proofs.Math.Decide.{dec_lt}
use Rattle.std.proofs.lemmas.List.Elements.{Contains-append_left, Contains-push, Contains-push_cases}
use Rattle.bech32_gf.specs.Fe32 as fe32
use Rattle.bech32_gf.specs.declared.gf32.Fe32.{Fe32}
use Rattle.bech32_poly.specs.Division.{zeros}
use Rattle.bech32_poly.specs.Pattern.{monomial}
use Rattle.bech32_checksum.specs.Code.{Code, IsResidueOf}
use Rattle.bech32_checksum.specs.Packed.{IsRowOf}
use Rattle.bech32_detect.specs.Rows.{AreTermRows, HasRow, HasTermsAdded, IsTermRow, term}
use Rattle.bech32_detect.proofs.RowDigits.{zero_row}

has_kept : (d : ℕ) (old new : List ℕ) (r : List Fe32) → ((number : ℕ) → Contains old number → Contains new number) → HasRow d old r → HasRow d new r
has_kept d old new r kept h = record { number = h.number; among = kept h.number h.among; row = h.row }

none_there : (number : ℕ) → Contains [] number → ⊥
none_there number (k, below, is) = omega arith

-- ---- the terms of one value

-- `new` has what `old` has, the rows of the terms of v above location 0 and below c, and none but those below n
pub record TermsBelow (g : List Fe32) (n : ℕ) (v : Fe32) (old new : List ℕ) (c : ℕ) : Type 0 where
  pub kept : (number : ℕ) → Contains old number → Contains new number
  pub each : (i : ℕ) → 0 < i → i < c → HasRow (length g) new (term fe32.ops g i v)
  pub no_other : (number : ℕ) → Contains new number → Contains old number ⊎ IsTermRow g n v number

pub terms_start : (g : List Fe32) (n : ℕ) (v : Fe32) (rows : List ℕ) → TermsBelow g n v rows rows 1
terms_start g n v rows = record {
  kept = λ number h. h;
  each = λ i lo hi. absurd (omega arith);
  no_other = λ number h. inl h;
}

pub terms_more : (g : List Fe32) (n : ℕ) (v : Fe32) (old new longer : List ℕ) (c number : ℕ) → TermsBelow g n v old new c → 0 < c → c < n
    → IsRowOf (length g) (term fe32.ops g c v) number → longer ≡ new ++ (number ∷ []) → TermsBelow g n v old longer (c + 1)
terms_more g n v old new longer c number t lo hi row e = record {
  kept = λ m h. stays m (t.kept m h);
  each = λ i l u. elim (dec_lt i c) [
    | yes p ↦ has_kept (length g) new longer _ stays (t.each i l p)
    | no p ↦ let same : c ≡ i = omega arith in subst (λ j. HasRow (length g) longer (term fe32.ops g j v)) same newest
  ];
  no_other = λ m h. elim (Contains-push_cases new number m (subst (λ rows. Contains rows m) e h)) [
    | inl k ↦ t.no_other m k
    | inr k ↦ inr (record { location = c; positive = lo; below = hi; row = subst (IsRowOf (length g) (term fe32.ops g c v)) k row })
  ];
}
  where
    stays : (m : ℕ) → Contains new m → Contains longer m
    stays m h = subst (λ rows. Contains rows m) (sym e) (Contains-append_left new (number ∷ []) m h)

    newest : HasRow (length g) longer (term fe32.ops g c v)
    newest = record { number = number; among = subst (λ rows. Contains rows number) (sym e) (Contains-push new number); row = row }

pub terms_end : (g : List Fe32) (n : ℕ) (v : Fe32) (old new : List ℕ) (c : ℕ) → TermsBelow g n v old new c → n ≤ c → HasTermsAdded g n v old new
terms_end g n v old new c t all = record {
  kept = t.kept;
  each = λ i lo hi. t.each i lo (omega arith);
  no_other = t.no_other;
}

-- ---- the terms of the values below k

pub record ValuesBelow (g : List Fe32) (n : ℕ) (rows : List ℕ) (k : ℕ) : Type 0 where
  pub nothing : HasRow (length g) rows (zeros fe32.ops (length g))
  pub each : (v : Fe32) → v ≢ fe32.zero → v.value < k → (i : ℕ) → 0 < i → i < n → HasRow (length g) rows (term fe32.ops g i v)
  pub no_other : (number : ℕ) → Contains rows number
      → IsRowOf (length g) (zeros fe32.ops (length g)) number ⊎ ((v : Fe32) × (v ≢ fe32.zero) × IsTermRow g n v number)

pub values_start : (g : List Fe32) (n : ℕ) (rows : List ℕ) → rows ≡ [] ++ (0 ∷ []) → ValuesBelow g n rows 1
values_start g n rows e = record {
  nothing = record { number = 0; among = subst (λ u. Contains u 0) (sym e) (Contains-push [] 0); row = zero_row g };
  each = λ v not_zero below. absurd (not_zero (fe32.path v fe32.zero (omega arith)));
  no_other = λ m h. elim (Contains-push_cases [] 0 m (subst (λ u. Contains u m) e h)) [
    | inl k ↦ absurd (none_there m k)
    | inr k ↦ inl (subst (IsRowOf (length g) (zeros fe32.ops (length g))) k (zero_row g))
  ];
}

pub values_more : (g : List Fe32) (n : ℕ) (rows longer : List ℕ) (k : ℕ) (v : Fe32) → ValuesBelow g n rows k → 0 < k → v.value ≡ k
    → HasTermsAdded g n v rows longer → ValuesBelow g n longer (k + 1)
values_more g n rows longer k v t lo is added = record {
  nothing = has_kept (length g) rows longer _ added.kept t.nothing;
  each = λ u not_zero below i l h. elim (dec_lt u.value k) [
    | yes p ↦ has_kept (length g) rows longer _ added.kept (t.each u not_zero p i l h)
    | no p ↦ let same : v.value ≡ u.value = omega arith in subst (λ w. HasRow (length g) longer (term fe32.ops g i w)) (fe32.path v u same) (added.each i l h)
  ];
  no_other = λ m h. elim (added.no_other m h) [
    | inl old ↦ t.no_other m old
    | inr new ↦ inr (v, v_not_zero, new)
  ];
}
  where
    v_not_zero : v ≢ fe32.zero
    v_not_zero e = let none : v.value ≡ 0 = ap (λ (u : Fe32). u.value) e in absurd (omega arith)

pub values_end : (g : List Fe32) (n : ℕ) (rows : List ℕ) (k : ℕ) → ValuesBelow g n rows k → 32 ≤ k → AreTermRows g n rows
values_end g n rows k t all = record {
  nothing = t.nothing;
  each = λ v not_zero i lo hi. let small : v.value < 32 = v.in_field in t.each v not_zero (omega arith) i lo hi;
  no_other = t.no_other;
}

-- ---- an engine that goes one place up at a time

-- what stands at location c after a zero was put in below what stood one place down
pub risen : {R : Type 0} (number : R → ℕ) (code : Code) (residue : R) (c : ℕ) (v : Fe32) → 0 < c
    → IsResidueOf number code residue (fe32.zero ∷ monomial fe32.ops (c - 1) v) → IsResidueOf number code residue (monomial fe32.ops c v)
risen number code residue c v lo h = let up : suc (c - 1) ≡ c = omega arith in subst (λ j. IsResidueOf number code residue (monomial fe32.ops j v)) up h

pub next_turn : {R : Type 0} (number : R → ℕ) (code : Code) (residue : R) (c : ℕ) (v : Fe32)
    → IsResidueOf number code residue (monomial fe32.ops c v) → IsResidueOf number code residue (monomial fe32.ops (c + 1 - 1) v)
next_turn number code residue c v h = let same : c ≡ c + 1 - 1 = omega arith in subst (λ j. IsResidueOf number code residue (monomial fe32.ops j v)) same h
