use Rattle.std.proofs.Common.{◌≡◌, ◌/◌, ℕ, List, drop, map}
use Rattle.bech32_gf.specs.Fe32 as fe32
use Rattle.bech32_gf.specs.declared.gf32.Fe32.{Fe32 as Element}
use Rattle.bech32_poly.specs.Polynomial.{appended}
use Rattle.bech32_checksum.specs.Code.{IsResidueOf}
use Rattle.bech32_hrp.specs.Hrp.{lowered}
use Rattle.bech32_checksum.proofs.Engine.input_high_bits.Given as goal

abbrev pub invariant-loop-b : goal.invariant-loop-b
invariant-loop-b g l =
    let number = g.Ck.MidstateRepr.PackedFe32.number in
    let code = g.Ck.Checksum.code in
    let f = λ (b : ℕ). fe32.element (b / 32) in
    (p : List Element) → IsResidueOf number code l.initial.self p
    → (q : List Element) × (appended q (map f (lowered (drop l.b-index l.bytes))) ≡ appended p (map f (lowered l.bytes))) × IsResidueOf number code l.self q
