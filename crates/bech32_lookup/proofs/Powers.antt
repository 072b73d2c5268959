-- Powers of x as an engine comes to them.
use Rattle.std.proofs.Common.{◌≡◌, ◌<◌, ◌+◌, ℕ, zero, suc, ◌∷◌, replicate, ap, ◌∙◌, refl, arith}
use Rattle.bech32_gf.specs.Fe32 as fe32
use Rattle.bech32_poly.specs.Pattern.{monomial}
use Rattle.bech32_poly.specs.Polynomial.{appended}

-- this many zeros behind a power of x
pub appended-zeros : (k n : ℕ) (e : 0 < 32) → appended (monomial fe32.ops k fe32.one) (replicate n (record { value = 0; in_field = e })) ≡ monomial fe32.ops (k + n) fe32.one
appended-zeros k zero e = let k' : k ≡ k + 0 = omega arith in ap (λ i. monomial fe32.ops i fe32.one) k'
appended-zeros k (suc n) e =
    let more : suc k + n ≡ k + suc n = omega arith in
    ap (λ x. appended (x ∷ monomial fe32.ops k fe32.one) (replicate n (record { value = 0; in_field = e }))) (fe32.path (record { value = 0; in_field = e }) fe32.zero refl) ∙ appended-zeros (suc k) n e ∙ ap (λ i. monomial fe32.ops i fe32.one) more
