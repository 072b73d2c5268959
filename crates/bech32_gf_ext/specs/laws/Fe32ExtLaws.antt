-- When two elements of an extension field are equal.
use Rattle.std.specs.Prelude.{◌≡◌, ◌↔◌, ◌==◌, ℕ, Bool, IsTrue}
use Rattle.std.proofs.Common.{ap}
use lib.Pointwise.{pointwise, pointwise_decides}
use Rattle.bech32_gf.specs.laws.Fe32Laws as fe32_laws
use Rattle.bech32_gf_ext.specs.Fe32Ext.{path}
use Rattle.bech32_gf.specs.declared.gf32.Fe32.{Fe32}
use Rattle.bech32_gf_ext.specs.declared.Fe32Ext.{Fe32Ext}

-- tells whether their coefficients have the same values
abbrev pub are_equal : {n : ℕ} → Fe32Ext n → Fe32Ext n → Bool
are_equal x y = pointwise (λ (a b : Fe32). a.value == b.value) x.inner y.inner

-- they are where it says so
pub eq_is_equal : {n : ℕ} (x y : Fe32Ext n) → IsTrue (are_equal x y) ↔ (x ≡ y)
eq_is_equal {n} x y =
    let told = pointwise_decides fe32_laws.eq_is_equal x.inner y.inner in
    (λ h. path x y (told.0 h), λ e. told.1 (ap (λ (z : Fe32Ext n). z.inner) e))
