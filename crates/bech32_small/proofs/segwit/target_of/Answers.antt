use Rattle.std.specs.Prelude.{Bool, if◌then◌else◌}
use Rattle.std.proofs.Common.{◌≡◌, ◌∙◌, ap, subst, sym}
use Rattle.bech32_checksum.specs.Code.{Code, bech32, bech32m}
use Rattle.bech32_decode.specs.Segwit.{segwit_code}
use Rattle.bech32_small.specs.Target.{PacksTarget}
use Rattle.bech32_small.proofs.Codes.{bech32_target, bech32m_target}
use Rattle.bech32_small.proofs.segwit.target_of.Goals as goal

pub returns-then-eq : goal.returns-then-eq
returns-then-eq c =
    let is : segwit_code c.args.version ≡ bech32 = ap (λ (t : Bool). if t then bech32 else bech32m) (sym c.eq.ensures ∙ c.if-eq.true) in
    subst (λ (k : Code). PacksTarget 1 k) (sym is) bech32_target

pub returns-else-eq : goal.returns-else-eq
returns-else-eq c =
    let is : segwit_code c.args.version ≡ bech32m = ap (λ (t : Bool). if t then bech32 else bech32m) (sym c.eq.ensures ∙ c.if-eq.false) in
    subst (λ (k : Code). PacksTarget 0x2bc830a3 k) (sym is) bech32m_target
