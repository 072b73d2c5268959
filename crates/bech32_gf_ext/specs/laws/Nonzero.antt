-- The norm of an element other than zero is not zero: computed over all pairs of values.
use Rattle.std.specs.Prelude.{◌≡◌, ℕ, true, bit_xor, nat_lt, ◌+◌, ◌==◌, ◌||◌}
use Rattle.std.proofs.Common.{refl}
use Rattle.bech32_gf.specs.laws.Below.{each_below}
use Rattle.bech32_gf.specs.Gf32.{product}

-- the norm of a + b z, where z^2 = z + 1, on values
abbrev pub norm₂ : ℕ → ℕ → ℕ
norm₂ a b = bit_xor (bit_xor (product a a) (product a b)) (product b b)

pub norm₂-not_zero :
    each_below 32 (λ a. each_below 32 (λ b. (a + b == 0) || nat_lt 0 (norm₂ a b))) ≡ true
unfolding product
norm₂-not_zero = refl

-- the norm of a + b z + c z^2, where z^3 = z + 1, on values
abbrev pub norm₃ : ℕ → ℕ → ℕ → ℕ
norm₃ a b c =
    let p = bit_xor (bit_xor (bit_xor (product a a) (product b b)) (product c c)) (product b c) in
    let q = bit_xor (product c c) (product a b) in
    let r = bit_xor (bit_xor (product b b) (product c c)) (product a c) in
    bit_xor (product a p) (bit_xor (product b r) (product c q))

-- where the last coefficient other than zero is one
pub norm₃-monic₂ : each_below 32 (λ a. each_below 32 (λ b. nat_lt 0 (norm₃ a b 1))) ≡ true
unfolding product
norm₃-monic₂ = refl

pub norm₃-monic₁ : each_below 32 (λ a. nat_lt 0 (norm₃ a 1 0)) ≡ true
unfolding product
norm₃-monic₁ = refl

pub norm₃-monic₀ : nat_lt 0 (norm₃ 1 0 0) ≡ true
unfolding product
norm₃-monic₀ = refl
