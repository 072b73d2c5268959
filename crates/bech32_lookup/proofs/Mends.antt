-- What the listed pattern does to a polynomial.
use Rattle.std.proofs.Common.{◌≡◌, ℕ, List, length, sym, ap, subst, ◌∙◌}
use Rattle.bech32_gf.specs.Field.{Ops, IsField}
use Rattle.bech32_poly.specs.Division.{remainder_of}
use Rattle.bech32_poly.specs.Pattern.{pattern_polynomial}
use Rattle.bech32_poly.specs.Polynomial.{add, coefficient}
use Rattle.bech32_poly.specs.Remainder.{IsRemainder}
use Rattle.bech32_poly.proofs.Lists.{coefficient-add}
use Rattle.bech32_poly.proofs.Remainder.{length-remainder_of, remainder_of-add, remainder_of-itself, remainder_of-same, remainder_unique, remainder_exists}
use Rattle.bech32_bch.specs.Pattern.{HasRemainder, Mends}

module _ {F : Type 0} {f : Ops F} (fl : IsField f) (same : (x : F) → f.neg x ≡ x) where
  taken_twice : (x y : F) → f.add (f.add x y) y ≡ x
  taken_twice x y = fl.add_assoc x y y ∙ ap (f.add x) (ap (f.add y) (sym (same y)) ∙ fl.add_neg y) ∙ fl.add_zero x

  -- where no element differs from its negative, what has the residue as remainder mends
  pub mends : (g target residue : List F) (e : List (ℕ × F)) → length target ≡ length g → HasRemainder f g residue e → Mends f g target residue e
  mends g target residue e size leaves p r is joined = subst (IsRemainder f g (add f p q)) whole (remainder_exists fl g (add f p q))
    where
      q : List F
      q = pattern_polynomial f e

      -- the remainders of the two
      parts : List F
      parts = add f (remainder_of f g p) (remainder_of f g q)

      of_p : remainder_of f g p ≡ r
      of_p = sym (remainder_unique fl g p r is)

      of_q : remainder_of f g q ≡ leaves.0
      of_q = sym (remainder_unique fl g q leaves.0 leaves.1)

      at_place : (i : ℕ) → coefficient f parts i ≡ coefficient f target i
      at_place i =
          coefficient-add fl (remainder_of f g p) (remainder_of f g q) i
          ∙ ap (λ u. f.add (coefficient f u i) (coefficient f (remainder_of f g q) i)) of_p
          ∙ ap (λ x. f.add x (coefficient f (remainder_of f g q) i)) (joined i ∙ coefficient-add fl target residue i)
          ∙ ap (λ u. f.add (f.add (coefficient f target i) (coefficient f residue i)) (coefficient f u i)) of_q
          ∙ ap (f.add (f.add (coefficient f target i) (coefficient f residue i))) (leaves.2 i)
          ∙ taken_twice (coefficient f target i) (coefficient f residue i)

      itself : parts ≡ remainder_of f g parts
      itself = sym (remainder_of-itself fl g parts (ap (λ u. length u) (sym (remainder_of-add fl g p q)) ∙ length-remainder_of fl g (add f p q)))

      whole : remainder_of f g (add f p q) ≡ target
      whole = remainder_of-add fl g p q ∙ itself ∙ remainder_of-same fl g parts target at_place ∙ remainder_of-itself fl g target size
