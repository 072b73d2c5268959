use Rattle.std.proofs.Common.{◌≡◌, ◌≤◌, ◌⊎◌, subst, sym, arith, inl, refl}
use Rattle.bech32_bch.proofs.Loops.{attained_more, highest_more}
use Rattle.bech32_bch.proofs.listing.highest_location.Goals as goal

pub loop-k-init : goal.loop-k-init
loop-k-init g c = record { bound = tt; attained = inl refl }

pub loop-k-preserved : goal.loop-k-preserved
loop-k-preserved g c = record {
  bound =
      highest_more c.args.listing.now c.loop-k.k c.loop-k.highest c.larger-highest.result c.index-listing-k.result (omega arith) c.index-listing-k.is c.loop-k.invariant.bound
      c.larger-highest.ensures.first (subst (λ p. p.0 ≤ c.larger-highest.result) (sym c.index-listing-k.is) c.larger-highest.ensures.second);
  attained = attained_more c.args.listing.now c.loop-k.k c.loop-k.highest c.larger-highest.result c.index-listing-k.result (omega arith) c.index-listing-k.is c.loop-k.invariant.attained (subst (λ p. (c.larger-highest.result ≡ c.loop-k.highest) ⊎ (c.larger-highest.result ≡ p.0)) (sym c.index-listing-k.is) c.larger-highest.ensures.either);
}
