use Rattle.std.proofs.Common.{rules, ◌≡◌, ◌<◌, ◌∙◌, [], ℕ, List, length, arith}
use Rattle.bech32_gf.specs.declared.gf32.Fe32.{Fe32}
use Rattle.bech32_lookup.specs.Question.{Question}
use Rattle.bech32_correction.proofs.correctable.CorrectableError.correction_context_within.Goals as goal

pub new-requires : goal.new-requires
new-requires g c =
    let some : 0 < length g.Ck.Checksum.code.generator = omega (arith, g.met.Ck.Checksum.degree_law, c.CHECKSUM_LENGTH.ensures, c.if-CHECKSUM_LENGTH-eq0.false) in
    (search rules, ((c.requires.lawful, some), c.requires.within))

abbrev holds : List Fe32 → ℕ → List ℕ → Question
holds residue window erasures = record { residue = residue; window = window; erasures = erasures }

-- what a corrector with this residue holds
of_residue : (residue residue' : List Fe32) (window : ℕ) (v : Question) → v ≡ holds residue window [] → residue ≡ residue' → v ≡ holds residue' window []
of_residue residue residue' window v e k = e ∙ (λ i. holds (k i) window [])

pub returns : goal.returns
returns g c =
    (omega (arith, c.CHECKSUM_LENGTH.ensures, c.if-CHECKSUM_LENGTH-eq0.false), (c.in_ok-error.error.now, c.in_ok-error.ensures, of_residue c.residue.result _ c.args.window c.new.result c.new.ensures c.residue.ensures))
