use Rattle.std.proofs.Common.{◌≡◌, List, [], ◌∷◌, refl, subst, map}
use Rattle.bech32_gf.specs.Fe32 as fe32
use Rattle.bech32_gf.specs.declared.gf32.Fe32.{Fe32}
use Rattle.bech32_poly.proofs.Lists.{same_cons}
use Rattle.bech32_checksum.specs.Code.{bech32, IsResidueAfter}
use Rattle.bech32_checksum.specs.Word.{row_elements}
use Rattle.bech32_checksum.proofs.checksums.Bech32mChecksum.after_target.Goals as goal

-- the target's elements, the highest first
target_is : row_elements 734539939 ≡ map fe32.element (21 ∷ 28 ∷ 16 ∷ 12 ∷ 5 ∷ 3 ∷ [])
target_is =
    same_cons _ _ _ _ (fe32.path _ (fe32.element 21) refl)
    (same_cons _ _ _ _ (fe32.path _ (fe32.element 28) refl)
    (same_cons _ _ _ _ (fe32.path _ (fe32.element 16) refl)
    (same_cons _ _ _ _ (fe32.path _ (fe32.element 12) refl)
    (same_cons _ _ _ _ (fe32.path _ (fe32.element 5) refl)
    (same_cons _ _ _ _ (fe32.path _ (fe32.element 3) refl) refl)))))

pub returns-clause-after : goal.returns-clause-after
returns-clause-after c =
    subst (λ (l : List Fe32). IsResidueAfter (λ n. n) bech32 c.args.residue l c.after_row_by_tables.result) target_is c.after_row_by_tables.ensures.after
