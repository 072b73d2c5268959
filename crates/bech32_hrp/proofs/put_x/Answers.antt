use Rattle.std.proofs.Common.{refl}
use Rattle.bech32_hrp.specs.Hrp.{graphic_or_x}
use Rattle.bech32_hrp.proofs.MappedInPlace.{mapped-more, mapped-all}
use Rattle.bech32_hrp.proofs.put_x.Goals as goal

pub loop-b-init : goal.loop-b-init
loop-b-init c = record { changed = refl; others = refl }

pub loop-b-preserved : goal.loop-b-preserved
loop-b-preserved c = mapped-more graphic_or_x _ _ _ _ c.loop-b.invariant c.loop-b-test.true c.loop-b.auto.bytes c.graphic_or_x.ensures

pub returns : goal.returns
returns c = mapped-all graphic_or_x _ _ _ c.loop-b.invariant c.loop-b-test.false c.loop-b.auto.bytes
