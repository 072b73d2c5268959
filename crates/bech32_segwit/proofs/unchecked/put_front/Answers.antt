use Rattle.std.proofs.Common.{◌∙◌, ◌∷◌, Bool, cond, ap, sym}
use Rattle.bech32_bits.specs.Bits.{to_fes}
use Rattle.bech32_checksum.specs.Code.{bech32, bech32m}
use Rattle.bech32_hrp.specs.HrpBytes.{hrp_bytes}
use Rattle.bech32_segwit.proofs.Fronts.{front-from_put, bound-from_put}
use Rattle.bech32_segwit.proofs.unchecked.put_front.Goals as goal

pub returns-then-eq-clause-front : goal.returns-then-eq-clause-front
returns-then-eq-clause-front c =
    front-from_put c.args.upper bech32 (hrp_bytes c.args.hrp) c.args.version c.args.program.now c.args.buffer.now _ _ (sym (ap (λ (b : Bool). cond b bech32 bech32m) (sym c.eq.ensures ∙ c.if-eq.true))) c.requires
    c.put_front_of_text.ensures

pub returns-then-eq-clause-bound : goal.returns-then-eq-clause-bound
returns-then-eq-clause-bound c =
    bound-from_put c.args.upper bech32 (hrp_bytes c.args.hrp) (c.args.version ∷ to_fes c.args.program.now) c.args.buffer.now _ _ c.requires c.put_front_of_text.ensures

pub returns-else-eq-clause-front : goal.returns-else-eq-clause-front
returns-else-eq-clause-front c =
    front-from_put c.args.upper bech32m (hrp_bytes c.args.hrp) c.args.version c.args.program.now c.args.buffer.now _ _ (sym (ap (λ (b : Bool). cond b bech32 bech32m) (sym c.eq.ensures ∙ c.if-eq.false))) c.requires
    c.put_front_of_text-else-eq.ensures

pub returns-else-eq-clause-bound : goal.returns-else-eq-clause-bound
returns-else-eq-clause-bound c =
    bound-from_put c.args.upper bech32m (hrp_bytes c.args.hrp) (c.args.version ∷ to_fes c.args.program.now) c.args.buffer.now _ _ c.requires c.put_front_of_text-else-eq.ensures
