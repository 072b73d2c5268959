-- Rows of digits.
use Rattle.std.proofs.Common.{◌≡◌, ◌<◌, ◌+◌, ◌-◌, ◌*◌, ◌/◌, ◌%◌, ◌^◌, ℕ, zero, suc, get_or, refl, sym, ◌∙◌, ap, arith, mod-lt}
use Rattle.std.proofs.lemmas.Nat.{field_of, div-mul-add}
use Rattle.std.proofs.Math.Pow.{shr_mod, mod-mod-pow, pow-add, pow_pos}
use Rattle.std.proofs.Math.Nat.{div-div-eq-div-mul}
use Rattle.bech32_gf.specs.Fe32 as fe32
use Rattle.bech32_checksum.specs.Packed.{digit_of, tabulate}
pub use Rattle.bech32_checksum.specs.laws.WordLaws.{length-tabulate}

pub get_or-tabulate : {A : Type 0} → (n : ℕ) (f : ℕ → A) (k : ℕ) (d : A) → k < n → get_or (tabulate n f) k d ≡ f k
get_or-tabulate zero f k d h = absurd (omega arith)
get_or-tabulate (suc n) f zero d h = refl
get_or-tabulate (suc n) f (suc k) d h = get_or-tabulate n (λ i. f (suc i)) k d (omega arith)

pub shifted_lowest : (m e : ℕ) → e < 32 → (digit_of (m * 32 + e) 0).value ≡ e
shifted_lowest m e h = omega arith

pub shifted_higher : (a c e n : ℕ) → e < 32 → n < c → digit_of ((a % 2 ^ (5 * c)) * 32 + e) (suc n) ≡ digit_of a n
shifted_higher a c e n h below =
    let m : ℕ = a % 2 ^ (5 * c) in
    let r : ℕ = 5 * n in
    let place : 5 * suc n ≡ 5 + r = omega arith in
    let power : 2 ^ (5 * suc n) ≡ 32 * 2 ^ r = ap (λ j. 2 ^ j) place ∙ pow-add 2 5 r in
    let rest : ℕ = 5 * c - (5 + r) in
    let whole : 5 * c ≡ rest + (5 + r) = omega arith in
    let first : (m * 32 + e) / 2 ^ (5 * suc n) ≡ m / 2 ^ r =
    ap (λ j. (m * 32 + e) / j) power ∙ (sym (div-div-eq-div-mul (m * 32 + e) 32 (2 ^ r)) ∙ ap (λ j. j / 2 ^ r) (div-mul-add m 32 e h)) in
    let short : m % 2 ^ (5 + r) ≡ a % 2 ^ (5 + r) =
    ap (λ j. a % 2 ^ j % 2 ^ (5 + r)) whole ∙ mod-mod-pow a rest (5 + r) in
    let second : m / 2 ^ r % 32 ≡ a / 2 ^ r % 32 =
    sym (field_of m 5 r) ∙ (ap (λ j. j / 2 ^ r) short ∙ field_of a 5 r) in
    fe32.path _ _ (ap (λ j. j % 32) first ∙ second)

pub highest : (a c : ℕ) → a < 2 ^ (5 * suc c) → a / 2 ^ (5 * c) ≡ (digit_of a c).value
highest a c h =
    let place : 5 * suc c ≡ 5 + 5 * c = omega arith in
    let small : a < 2 ^ (5 + 5 * c) = rw place at h in
    sym (shr_mod {n = a} 5 (5 * c) small)

pub shifted-lt : (a c e : ℕ) → e < 32 → (a % 2 ^ (5 * c)) * 32 + e < 2 ^ (5 * suc c)
shifted-lt a c e h =
    let place : 5 * suc c ≡ 5 + 5 * c = omega arith in
    let power : 2 ^ (5 * suc c) ≡ 32 * 2 ^ (5 * c) = ap (λ j. 2 ^ j) place ∙ pow-add 2 5 (5 * c) in
    let low : a % 2 ^ (5 * c) < 2 ^ (5 * c) = mod-lt a (pow_pos (5 * c)) in
    rw power (omega arith)
