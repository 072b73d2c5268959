use Rattle.std.proofs.Common.{subst}
use Rattle.std.specs.Iterator.{Drains}
use Rattle.bech32_bits.specs.FesToBytes.{bytes_source, bytes_gives}
use Rattle.bech32_bits.proofs.AdaptorWalks.{walk, runs}
use Rattle.bech32_bits.proofs.FesToBytes.new.Goals as goal

pub returns-clause-walk : goal.returns-clause-walk
returns-clause-walk g c bytes d =
    let (fes, taken, is) = walk g.I.Iterator.next_gives bytes_source bytes_gives _ bytes c.fuse.ensures.done d in
    (fes, subst (λ s. Drains g.I.Iterator.next_gives s fes) c.fuse.ensures.source taken, is)

pub returns-clause-runs : goal.returns-clause-runs
returns-clause-runs g c = runs g.I.Iterator.next_gives bytes_source bytes_gives _ _ c.fuse.ensures.source c.fuse.ensures.done
