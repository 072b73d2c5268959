use Rattle.std.proofs.Common.{subst}
use Rattle.bech32_gf.specs.Fe32 as fe32
use Rattle.codex32_steady.specs.shares.Points.{AreWeights}
use Rattle.codex32_steady.proofs.shares.share.share_at.Goals as goal

pub returns : goal.returns
returns g c =
    c.derive.ensures.derived _ c.args.x c.requires.shares
    (subst (λ xs. AreWeights fe32.ops xs c.args.x c.weights.new.weights) c.put_indices.ensures c.weights.ensures)
