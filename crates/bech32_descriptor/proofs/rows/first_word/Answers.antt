use Rattle.std.proofs.Common.{ℕ, ◌∷◌, [], sym, subst}
use Rattle.bech32_gf.specs.Fe32.{element}
use Rattle.bech32_gf.specs.declared.gf32.Fe32.{Fe32 as Element}
use Rattle.bech32_checksum.specs.Code.{IsResidueOf}
use Rattle.bech32_descriptor.specs.Code.{descriptor}
use Rattle.bech32_descriptor.proofs.rows.first_word.Goals as goal

pub returns : goal.returns
returns c =
    let held = c.input_fe.ensures [] c.zero-engine.ensures in
    record {
      residue = subst (λ (w : ℕ). IsResidueOf (λ (x : ℕ). x) descriptor w (element c.args.x ∷ [])) (sym c.residue.ensures.value)
          (subst (λ (e : Element). IsResidueOf (λ (x : ℕ). x) descriptor c.input_fe.new.self (e ∷ [])) c.from_low_bits.ensures held);
      clear = c.residue.ensures.clear;
    }
