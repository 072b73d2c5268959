use Rattle.std.proofs.Common.{[], ◌++◌, ap}
use Rattle.bech32_encode.specs.WitnessVersion.{version_steps}
use Rattle.bech32_encode.specs.ChecksumElements.{then_checksum}
use Rattle.bech32_bits.proofs.AdaptorWalks.{pulled_none}
use Rattle.bech32_encode.proofs.elements.Fe32IterIterator.next.Goals as goal

pub returns-in-Some-clause-steps : goal.returns-in-Some-clause-steps
returns-in-Some-clause-steps g c =
    let s = c.args.self.now in
    record {
      taken = [];
      pulled = pulled_none (version_steps g.I.Iterator.next_gives) s.checksummed.elements;
      ended = tt;
      nothing_left = tt;
      gave = λ rest z. ap (λ l. l ++ then_checksum g.Ck.MidstateRepr.PackedFe32.number g.Ck.Checksum.code s.checksummed.engine s.checksummed.tail rest) c.in-Some.ensures.steps;
    }
