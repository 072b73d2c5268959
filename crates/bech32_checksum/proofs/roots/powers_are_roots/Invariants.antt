use Rattle.std.proofs.Common.{◌≡◌, ◌<◌, ◌≤◌, ℕ}
use Rattle.bech32_gf.specs.Field.{power}
use Rattle.bech32_checksum.specs.Roots.{generator_at}
use Rattle.bech32_checksum.proofs.roots.powers_are_roots.Given as goal

abbrev pub invariant-loop-exponent : goal.invariant-loop-exponent
invariant-loop-exponent g l =
    let o = g.Ck.CorrectionField.Arithmetic.ops in
    (e : ℕ) → g.Ck.Checksum.ROOT_EXPONENTS_START ≤ e → e < l.exponent
    → generator_at o g.Ck.CorrectionField.Extension.embed g.Ck.Checksum.code (power o g.Ck.Checksum.ROOT_GENERATOR e) ≡ o.zero
