use Rattle.std.proofs.Common.{sym, ◌∙◌, arith}
use Rattle.std.proofs.Math.Decide.{dec_lt}
use Rattle.bech32_gf.specs.Fe32 as fe32
use Rattle.bech32_bch.proofs.Loops.{get_any}
use Rattle.bech32_lookup.proofs.OneError.{behind}
use Rattle.bech32_lookup.proofs.Trimmed.{zero_more, zero_there}
use Rattle.bech32_lookup.proofs.division.ends_at.Goals as goal

pub loop-place-preserved : goal.loop-place-preserved
loop-place-preserved c =
    zero_more c.args.list.now c.args.end c.loop-place.place c.loop-place.zero c.eq-zero.result (omega arith)
    (zero_there c.args.list.now c.loop-place.place c.index-list-place.result c.eq-zero.result c.eq-zero.ensures (get_any c.args.list.now c.loop-place.place fe32.zero c.index-list-place.result (omega arith) ∙ sym c.index-list-place.is)) c.loop-place.invariant

pub returns : goal.returns
returns c = (
  λ h n past. elim (dec_lt n c.loop-place.place) [
    | yes k ↦ c.loop-place.invariant.0 h n past k
    | no k ↦ behind c.args.list.now n (omega (arith, c.loop-place-test.false))
  ],
  λ h. c.loop-place.invariant.1 (λ n past below. h n past),
)
