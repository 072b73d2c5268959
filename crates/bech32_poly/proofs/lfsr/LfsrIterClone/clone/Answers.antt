use Rattle.std.proofs.Common.{◌≡◌, ◌<◌, ℕ, List, length, subst, sym, ap, ◌∙◌, refl}
use Rattle.bech32_poly.specs.FieldVec.{FitsInPlace}
use Rattle.bech32_poly.specs.Register.{Register, from_place}
use Rattle.bech32_poly.proofs.lfsr.LfsrIterClone.clone.Goals as goal

-- what the clone's parts are seen as
same_view : {F : Type 0} (cs cs' ring ring' : List F) (start : ℕ) (v : Register F) → record { coefficients = cs; coming = from_place start ring } ≡ v
    → cs ≡ cs' → ring ≡ ring' → v ≡ record { coefficients = cs'; coming = from_place start ring' }
same_view cs cs' ring ring' start v seen e f =
    sym seen ∙ ap (λ u. record { coefficients = u; coming = from_place start ring }) e ∙ ap (λ u. record { coefficients = cs'; coming = from_place start u }) f

-- vectors as long as one another fit in place together
fitted : {F : Type 0} (cs xs ring : List F) (start : ℕ) (v : Register F) → record { coefficients = cs; coming = from_place start ring } ≡ v
    → length xs ≡ length cs → (FitsInPlace (length xs) → ⊥) → FitsInPlace (length v.coefficients) → ⊥
fitted cs xs ring start v seen same not fits = not (subst FitsInPlace (ap (λ u. length u.coefficients) (sym seen) ∙ sym same) fits)

pub returns-in-Err : goal.returns-in-Err
returns-in-Err g c = record {
  cases = fitted c.self.inside.coefficients c.self.inside.coefficients c.self.inside.ring c.self.inside.start c.args.self.now c.self.view_is refl c.in-Err.ensures.cases;
}

pub returns-in-Err-clone : goal.returns-in-Err-clone
returns-in-Err-clone g c = record {
  cases = fitted c.self.inside.coefficients c.self.inside.ring c.self.inside.ring c.self.inside.start c.args.self.now c.self.view_is c.self.invariant.0 c.in-Err-clone.ensures.cases;
}

pub returns-in-Ok-clone : goal.returns-in-Ok-clone
returns-in-Ok-clone g c = record {
  cases = same_view c.self.inside.coefficients c.in-Ok.coefficients c.self.inside.ring c.in-Ok-clone.ring c.self.inside.start c.args.self.now c.self.view_is c.in-Ok.ensures.cases c.in-Ok-clone.ensures.cases;
}

-- a clone keeps the invariant
kept : {F : Type 0} (cs cs' ring ring' : List F) (start : ℕ) → (length ring ≡ length cs) × (0 < length ring → start < length ring) → cs ≡ cs' → ring ≡ ring'
    → (length ring' ≡ length cs') × (0 < length ring' → start < length ring')
kept cs cs' ring ring' start is e f = (ap (λ u. length u) (sym f) ∙ is.0 ∙ ap (λ u. length u) e, subst (λ u. 0 < length u → start < length u) f is.1)

pub invariant_of-result : goal.invariant_of-result
invariant_of-result g c =
    kept c.self.inside.coefficients c.in-Ok.coefficients c.self.inside.ring c.in-Ok-clone.ring c.self.inside.start c.self.invariant c.in-Ok.ensures.cases c.in-Ok-clone.ensures.cases
