use Rattle.std.proofs.Common.{ℕ, ◌∷◌, [], subst, sym}
use Rattle.bech32_gf.specs.declared.gf32.Fe32.{Fe32}
use Rattle.bech32_checksum.specs.Code.{bech32}
use Rattle.bech32_checksum.specs.OneError.{IsLeftBy}
use Rattle.bech32_checksum.proofs.checksums.beside.one_beside_by_rows.Goals as goal

pub returns-in-Absent : goal.returns-in-Absent
returns-in-Absent c = rw c.in-Absent.is at c.error_beside.ensures

pub returns-in-Absent-element_beside : goal.returns-in-Absent-element_beside
returns-in-Absent-element_beside c v i w below left =
    let error = c.in-Found.error in
    let same = (rw c.in-Found.is at c.error_beside.ensures).0 v i w below left in
    (rw c.in-Absent-element_beside.is at c.element_beside.ensures) v
    (subst (λ (u : Fe32). IsLeftBy bech32.generator c.args.residue.now ((c.args.location, v) ∷ (error.0, u) ∷ [])) (sym same.1)
    (subst (λ (n : ℕ). IsLeftBy bech32.generator c.args.residue.now ((c.args.location, v) ∷ (n, w) ∷ [])) (sym same.0) left))
