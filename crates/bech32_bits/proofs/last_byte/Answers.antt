use Rattle.std.proofs.Common.{◌∙◌, ◌-◌, ◌*◌, ◌%◌, ◌^◌, ◌<◌, ℕ, [], ◌∷◌, sym, ap, arith}
use Rattle.std.proofs.lemmas.Nat.{and_mask}
use Rattle.bech32_bits.specs.Bits.{bits, cut_bytes}
use Rattle.bech32_bits.proofs.ByteCuts.{filled, dropped, unfilled}
use Rattle.bech32_bits.proofs.last_byte.Goals as goal
use Rattle.bech32_bits.proofs.last_byte.Goals.{else-padded-via-then-padded+else-count-gt0, else-padded-via-else-padded}

pub returns-then-count-gt0-clause-byte : goal.returns-then-count-gt0-clause-byte
returns-then-count-gt0-clause-byte c =
    let some : 0 < c.args.count = omega arith in
    let few : c.args.count < 8 = omega arith in
    let shifted = c.args.value * 2 ^ (8 - c.args.count) in
    let mask = and_mask (shifted % 65536) 8 in
    ap (λ (n : ℕ). n ∷ []) (omega (arith, mask))
    ∙ sym (filled c.args.count c.args.value some few)
    ∙ ap (λ b. cut_bytes b (bits c.args.count c.args.value)) (sym c.if-padded.true)

pub returns-else-padded-clause-byte : goal.returns-else-padded-clause-byte
returns-else-padded-clause-byte c =
    elim c.else-padded.branch [
      | else-padded-via-then-padded+else-count-gt0 w ↦ sym (unfilled c.args.padded c.args.count c.args.value (omega arith))
      | else-padded-via-else-padded w ↦
          sym (ap (λ b. cut_bytes b (bits c.args.count c.args.value)) w.if-padded.false ∙ dropped c.args.count c.args.value (omega arith))
    ]
