-- What follows from the number of a call that lists texts.
use Rattle.std.proofs.Common.{◌≡◌, ◌≢◌, ◌⊎◌, ℕ, Bool, true, false, inl, inr, arith}

module _ (n : ℕ) (fit : Bool) where
  pub all-put : ((n ≡ 0) × (fit ≡ true)) ⊎ ((n ≡ 92) × (fit ≡ false)) → n ≡ 0 → fit ≡ true
  all-put (inl h) is = h.1
  all-put (inr h) is = absurd (let other : n ≡ 92 = h.0 in omega (arith, is, other))

  pub not_all-put : ((n ≡ 0) × (fit ≡ true)) ⊎ ((n ≡ 92) × (fit ≡ false)) → n ≡ 92 → fit ≡ false
  not_all-put (inl h) is = absurd (let other : n ≡ 0 = h.0 in omega (arith, is, other))
  not_all-put (inr h) is = h.1

  pub zero_or_92 : ((n ≡ 0) × (fit ≡ true)) ⊎ ((n ≡ 92) × (fit ≡ false)) → (n ≡ 0) ⊎ ((n ≡ 92) ⊎ (n ≡ 91))
  zero_or_92 (inl h) = inl h.0
  zero_or_92 (inr h) = inr (inl h.0)

  pub no_other : ((n ≡ 0) × (fit ≡ true)) ⊎ ((n ≡ 92) × (fit ≡ false)) → n ≢ 0 → n ≢ 92 → ⊥
  no_other (inl h) some other = some h.0
  no_other (inr h) some other = other h.0
