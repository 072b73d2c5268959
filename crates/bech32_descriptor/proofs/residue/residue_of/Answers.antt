use Rattle.std.proofs.Common.{ℕ, ◌∷◌, [], sym, subst}
use Rattle.std.proofs.lemmas.List.{take_rest}
use Rattle.bech32_gf.specs.Fe32.{one}
use Rattle.bech32_checksum.specs.Code.{IsResidueOf}
use Rattle.bech32_descriptor.specs.Code.{descriptor}
use Rattle.bech32_descriptor.specs.Descriptor.{polynomial_of}
use Rattle.bech32_descriptor.proofs.residue.residue_of.Goals as goal

pub returns : goal.returns
returns c =
    let p = polynomial_of c.args.text.now in
    let left = c.input_checksum.ensures _ (c.input_characters.ensures (one ∷ []) c.new-engine.ensures) in
    record {
      residue = subst (λ (w : ℕ). IsResidueOf (λ (x : ℕ). x) descriptor w p) (sym c.residue.ensures.value) (rw take_rest at left);
      clear = c.residue.ensures.clear;
    }
