use Rattle.std.proofs.Common.{subst}
use Rattle.std.specs.Iterator.{Drains}
use Rattle.bech32_bits.specs.BytesToFes.{fes_source, fes_gives}
use Rattle.bech32_bits.proofs.AdaptorWalks.{walk, runs}
use Rattle.bech32_bits.proofs.RoundTrip.{to_bytes-to_fes}
use Rattle.bech32_bits.proofs.ByteIterExt.bytes_to_fes.Goals as goal

pub returns-clause-back : goal.returns-clause-back
returns-clause-back g c bytes h = to_bytes-to_fes bytes h

pub returns-clause-walk : goal.returns-clause-walk
returns-clause-walk g c fes d =
    let (bytes, taken, is) = walk g.Self.Iterator.next_gives fes_source fes_gives _ fes c.fuse.ensures.done d in
    (bytes, subst (λ s. Drains g.Self.Iterator.next_gives s bytes) c.fuse.ensures.source taken, is)

pub returns-clause-runs : goal.returns-clause-runs
returns-clause-runs g c = runs g.Self.Iterator.next_gives fes_source fes_gives _ _ c.fuse.ensures.source c.fuse.ensures.done
