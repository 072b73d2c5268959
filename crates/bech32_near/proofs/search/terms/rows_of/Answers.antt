use Rattle.std.proofs.Common.{◌≡◌, ◌∷◌, [], ℕ, List, inl, inr, min, sym, subst, take, get_or, arith}
use Rattle.std.proofs.lemmas.List.{take_all, take_more}
use Rattle.bech32_poly.specs.Distinct.{IsAmong}
use Rattle.bech32_bch.proofs.Places.{mem_split}
use Rattle.bech32_near.specs.search.Sketch.{AreForgotten, sketch_at}
use Rattle.bech32_near.proofs.search.terms.rows_of.Goals as goal

pub loop-location-preserved : goal.loop-location-preserved
loop-location-preserved g c = λ location m v.
    let erasures = c.args.erasures.now in
    let i : ℕ = c.loop-location.location-index in
    elim (mem_split location (take i erasures) (get_or erasures i 0 ∷ []) (subst (λ (s : List ℕ). IsAmong location s) (take_more erasures i 0 c.loop-location-test.true) m)) [
      | inl k ↦ c.in_ok-push_erasure.ensures.1 _ (c.loop-location.invariant location k v)
      | inr (inl e) ↦ subst (λ n. sketch_at c.push_erasure.new.rows.items (min g.Ck.Checksum.CHECKSUM_LENGTH 12) g.Ck.Checksum.code.generator n v ≡ 0) (sym e) (c.in_ok-push_erasure.ensures.0 v)
      | inr (inr k) ↦ absurd k
    ]

pub returns : goal.returns
returns g c =
    subst (λ (s : List ℕ). AreForgotten c.loop-location.rows.items (min g.Ck.Checksum.CHECKSUM_LENGTH 12) g.Ck.Checksum.code.generator s)
    (take_all c.loop-location.location-index c.args.erasures.now (omega arith)) c.loop-location.invariant
