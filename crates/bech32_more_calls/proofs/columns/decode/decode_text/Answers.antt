use Rattle.std.proofs.Common.{IsTrue, ℕ, List, ap, refl, arith}
use Rattle.bech32_bits.specs.Bits.{to_bytes}
use Rattle.bech32_gf.specs.Fe32.{elements_of}
use Rattle.bech32_more_calls.proofs.Said.{parts-from_read, said-other, said-refused, said-wanted}
use Rattle.bech32_more_calls.proofs.columns.decode.decode_text.Goals as goal

pub returns-in-Err : goal.returns-in-Err
returns-in-Err c =
    let r = c.refused.ensures in
    rw (r.number, r.version, r.hrp_length) (said-refused c.args.hrp.now c.args.text.now c.in-Err.refusal (c.in-Err.ensures 83 40)
    c.number.result c.number.ensures.value (λ z. absurd (omega (arith, z, c.number.ensures.some))) _ (ap (λ (l : List ℕ). to_bytes (elements_of l)) r.characters))

pub returns-then-not-is_wanted : goal.returns-then-not-is_wanted
returns-then-not-is_wanted c =
    let r = c.refused-then-not-is_wanted.ensures in
    rw (r.number, r.version, r.hrp_length) (said-other c.args.hrp.now c.args.text.now c.in-Ok.found.0.now _ _ (parts-from_read c.args.text.now c.in-Ok.found.0.now c.in-Ok.found.1.version c.in-Ok.found.1.program.now c.in-Ok.ensures)
    (λ w. let t : IsTrue c.is_wanted.result = c.is_wanted.ensures.1 w in absurd (cc (t, c.if-not-is_wanted.true))) _ (ap (λ (l : List ℕ). to_bytes (elements_of l)) r.characters))

pub returns : goal.returns
returns c =
    rw c.to_u8.ensures (said-wanted c.args.hrp.now c.args.text.now c.in-Ok.found.0.now _ _ (parts-from_read c.args.text.now c.in-Ok.found.0.now c.in-Ok.found.1.version c.in-Ok.found.1.program.now c.in-Ok.ensures)
    _ refl (c.is_wanted.ensures.0 c.if-not-is_wanted.false))
