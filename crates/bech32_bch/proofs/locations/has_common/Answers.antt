use Rattle.std.proofs.Common.{ℕ, [], ◌∷◌, get_or, take, inl, inr, subst, sym, ◌∙◌}
use Rattle.std.proofs.lemmas.List.{take_all, take_more}
use Rattle.bech32_poly.specs.Distinct.{IsAmong}
use Rattle.bech32_bch.proofs.Loops.{has-false, has-true}
use Rattle.bech32_bch.proofs.Places.{mem_at, mem_split}
use Rattle.bech32_bch.proofs.locations.has_common.Goals as goal

pub returns-then-contains-clause-yes : goal.returns-then-contains-clause-yes
returns-then-contains-clause-yes c = λ _.
    let k : ℕ = c.loop-location.location-index in
    let locations = c.args.locations.now in (
      get_or locations k 0,
      (mem_at locations k 0 c.loop-location-test.true, has-true c.args.others.now (get_or locations k 0) (sym c.contains.ensures ∙ c.if-contains.true)),
    )

pub loop-location-preserved : goal.loop-location-preserved
loop-location-preserved c = λ i m o.
    let k : ℕ = c.loop-location.location-index in
    let locations = c.args.locations.now in
    elim (mem_split i (take k locations) (get_or locations k 0 ∷ []) (subst (IsAmong i) (take_more locations k 0 c.loop-location-test.true) m)) [
      | inl h ↦ c.loop-location.invariant i h o
      | inr h ↦ elim h [ inl e ↦ has-false c.args.others.now (get_or locations k 0) (sym c.contains.ensures ∙ c.if-contains.false) (subst (λ x. IsAmong x c.args.others.now) e o) | inr n ↦ n ]
    ]

pub returns-clause-no : goal.returns-clause-no
returns-clause-no c = λ i m o.
    absurd (c.loop-location.invariant i (subst (IsAmong i) (sym (take_all c.loop-location.location-index c.args.locations.now c.loop-location-test.false)) m) o)
