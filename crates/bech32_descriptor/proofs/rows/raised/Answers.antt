use Rattle.std.proofs.Common.{ℕ, ◌∷◌, refl, subst}
use Rattle.bech32_gf.specs.Fe32 as fe32
use Rattle.bech32_gf.specs.declared.gf32.Fe32.{Fe32 as Element}
use Rattle.bech32_checksum.specs.Code.{IsResidueOf}
use Rattle.bech32_descriptor.specs.Code.{descriptor}
use Rattle.bech32_descriptor.proofs.rows.raised.Goals as goal

pub after_one-requires : goal.after_one-requires
after_one-requires c = c.requires.1.clear

pub returns : goal.returns
returns c p h = record {
  residue = subst (λ (e : Element). IsResidueOf (λ (x : ℕ). x) descriptor c.after_one.result (e ∷ p)) (fe32.path _ fe32.zero refl) (c.after_one.ensures.after p h.residue);
  clear = c.after_one.ensures.clear;
}
