use Rattle.std.specs.List.{Contains}
use Rattle.std.proofs.Common.{◌≡◌, ◌/◌, ℕ, List, length, subst, arith}
use Rattle.std.proofs.Math.Decide.{dec_lt}
use Rattle.std.proofs.lemmas.List.Sorted.{Contains-permutation}
use Rattle.bech32_near.specs.search.Sketch.{entry_number, five_of, key_of}
use Rattle.bech32_near.proofs.search.table.entries_of.Goals as goal

pub loop-location-init : goal.loop-location-init
loop-location-init g c = λ long location low. absurd (omega (arith, low))

pub loop-location-preserved : goal.loop-location-preserved
loop-location-preserved g c = λ long location low value some small.
    let new = c.push_entries.new.entries.items in
    elim (dec_lt location c.loop-location.location) [
      | yes p ↦ c.in_ok-push_entries.ensures.kept _ (c.loop-location.invariant long location p value some small)
      | no p ↦
          let same : c.loop-location.location ≡ location = omega (arith, p, low) in
          subst (λ n. Contains new (entry_number (key_of (five_of c.args.columns.now (length c.args.columns.now / 5) n) value) n value)) same
          (subst (λ (u : List ℕ). Contains new (entry_number (key_of u value) c.loop-location.location value)) (c.five_at.ensures (length c.args.columns.now / 5) long (omega arith)) (c.in_ok-push_entries.ensures.new value some small))
    ]

pub returns : goal.returns
returns g c = λ window long.
    let sorted : List ℕ = c.sort_unstable.new.self.items in
    let same : length c.args.columns.now / 5 ≡ window = omega (arith, long) in
    record {
      sorted = c.sort_unstable.ensures.sorted;
      all = λ location low value some small.
          let there = c.loop-location.invariant (omega (arith, long)) location (omega (arith, low, same)) value some small in
          Contains-permutation c.loop-location.entries.items sorted _ c.sort_unstable.ensures.permutation
          (subst (λ w. Contains c.loop-location.entries.items (entry_number (key_of (five_of c.args.columns.now w location) value) location value)) same there);
    }
