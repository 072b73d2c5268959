use Rattle.std.proofs.Common.{◌<◌}
use Rattle.std.specs.Prelude.{IfSome}
use Rattle.bech32_bits.specs.Adaptor.{Adapts}
use Rattle.bech32_encode.specs.ChecksumElements.{then_checksum}
use Rattle.bech32_encode.specs.TextFrom.{text_from}
use Rattle.bech32_encode.specs.WitnessVersion.{version_steps}
use Rattle.bech32_encode.proofs.FrontedWalks.{drains_inside, runs_inside}
use Rattle.bech32_encode.proofs.bytes.ByteIter.new.Goals as goal

pub returns-clause-walk : goal.returns-clause-walk
returns-clause-walk g c bytes d =
    drains_inside (λ s r t. Adapts (version_steps g.I.Iterator.next_gives) (λ u. u.checksummed.elements)
    (λ u xs. text_from u.hrp.now u.place (then_checksum g.Ck.MidstateRepr.PackedFe32.number g.Ck.Checksum.code u.checksummed.engine u.checksummed.tail xs))
    s r t × IfSome r (λ x. x < 128))
    (λ u. u.chars) _ bytes d

pub returns-clause-runs : goal.returns-clause-runs
returns-clause-runs g c =
    runs_inside (λ s r t. Adapts (version_steps g.I.Iterator.next_gives) (λ u. u.checksummed.elements)
    (λ u xs. text_from u.hrp.now u.place (then_checksum g.Ck.MidstateRepr.PackedFe32.number g.Ck.Checksum.code u.checksummed.engine u.checksummed.tail xs))
    s r t × IfSome r (λ x. x < 128))
    (λ u. u.chars) _
