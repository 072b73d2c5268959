-- The remainder after runs of elements, the elements of a list's items.
use Rattle.std.proofs.Common.{◌≡◌, ◌∙◌, ℕ, List, ◌++◌, take, drop, map, ap, sym, subst}
use Rattle.std.proofs.lemmas.List.{append_assoc, map-append, take-append-drop}
use Rattle.bech32_gf.specs.declared.gf32.Fe32.{Fe32}
use Rattle.bech32_poly.proofs.Appended.{appended-append}
use Rattle.bech32_poly.specs.Polynomial.{appended}
use Rattle.bech32_checksum.specs.Code.{Code, IsResidueAfter, IsResidueOf}

module _ {R : Type 0} (number : R → ℕ) (code : Code) where
  -- elements, and then others behind them
  pub residue_then : (old mid new : R) (xs ys : List Fe32)
      → IsResidueAfter number code old xs mid → IsResidueAfter number code mid ys new
      → IsResidueAfter number code old (xs ++ ys) new
  residue_then old mid new xs ys first second p h =
      subst (IsResidueOf number code new) (sym (appended-append p xs ys)) (second (appended p xs) (first p h))

  -- the elements of some of a list's items were taken, and its others are left
  abbrev pub Taken : (ℕ → Fe32) → List ℕ → R → List ℕ → R → Type 0
  Taken element all old left new =
      (taken : List ℕ) × (all ≡ taken ++ left) × IsResidueAfter number code old (map element taken) new

  -- then some more are taken
  pub taken_more : (element : ℕ → Fe32) (n : ℕ) (all left : List ℕ) (old mid new : R)
      → Taken element all old left mid → IsResidueAfter number code mid (map element (take n left)) new
      → Taken element all old (drop n left) new
  taken_more element n all left old mid new before more =
      let (taken, parts, held) = before in (
        taken ++ take n left,
        parts ∙ ap (λ (l : List ℕ). taken ++ l) (sym (take-append-drop n left)) ∙ sym (append_assoc taken (take n left) (drop n left)),
        subst (λ (l : List Fe32). IsResidueAfter number code old l new) (sym (map-append element taken (take n left)))
            (residue_then old mid new (map element taken) (map element (take n left)) held more),
      )
