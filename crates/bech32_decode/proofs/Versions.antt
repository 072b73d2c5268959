-- The element that characters begin with.
use Rattle.std.proofs.Common.{◌≡◌, ◌∙◌, ℕ, List, [], ◌∷◌, Some, drop, slice_get, ap, sym}
use Rattle.bech32_gf.specs.Fe32.{element_of, elements_of}
use Rattle.bech32_gf.specs.declared.gf32.Fe32.{Fe32}

pub first-element : (characters : List ℕ) (c : ℕ) (v : Fe32) → Some c ≡ slice_get characters 0 → v ≡ element_of c
    → elements_of characters ≡ v ∷ elements_of (drop 1 characters)
first-element [] c v h e = absurd cc
first-element (b ∷ bs) c v h e =
    let same : c ≡ b = cc in
    ap (λ (x : Fe32). x ∷ elements_of bs) (ap element_of (sym same) ∙ sym e)
