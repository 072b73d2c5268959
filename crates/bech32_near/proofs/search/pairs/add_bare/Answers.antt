use Rattle.bech32_gf.specs.Fe32 as fe32
use Rattle.bech32_near.specs.search.Nearest.{IsEarlier}
use Rattle.bech32_near.specs.search.Steps.{IsGathered}
use Rattle.bech32_near.proofs.NearestLists.{added_none}
use Rattle.bech32_near.proofs.search.pairs.add_bare.Goals as goal

pub returns-then-key-ne0 : goal.returns-then-key-ne0
returns-then-key-ne0 g c = λ few left.
    let q = c.args.corrector.now in
    added_none (IsEarlier fe32.ops fe32.value q.erasures) (IsGathered fe32.ops g.Ck.Checksum.code.generator q.residue q.erasures 0 0) c.args.found.now.items
    (λ items h. c.if-key-ne0.true (left items h))

pub returns : goal.returns
returns g c = λ few left. c.add_errorless.ensures few
