use Rattle.std.proofs.Common.{◌≡◌, ◌+◌, ◌<◌, ℕ, [], length, take, ap, ◌∙◌, arith}
use Rattle.bech32_poly.proofs.WindowSums.{length-shifted}
use Rattle.std.proofs.lemmas.List.{take_more, length-take-le}
use Rattle.bech32_poly.proofs.WindowSums.{shifted-push, shifted-more}
use Rattle.bech32_poly.proofs.lfsr.shifted_copy.Goals as goal

pub loop-preserved : goal.loop-preserved
loop-preserved g c = cc (shifted-more g.F.Arithmetic.ops c.loop.counter, c.in_ok-push.ensures.ok, c.zero.ensures, c.loop.invariant)

pub loop-x-preserved : goal.loop-x-preserved
loop-x-preserved g c =
    let i : ℕ = c.loop-x.x-index in
    let within : i < length c.args.source.now = omega arith in
    cc (c.in_ok-push-2.ensures.ok, shifted-push g.F.Arithmetic.ops c.args.shift (take i c.args.source.now) c.x-item.result, take_more c.args.source.now i c.x-item.result within, c.loop-x.invariant, c.x-item.is)

pub returns-in_err-push-clause-in_place : goal.returns-in_err-push-clause-in_place
returns-in_err-push-clause-in_place g c = λ few.
    let size : length c.loop.copy ≡ c.loop.counter + 0 = ap (λ u. length u) c.loop.invariant ∙ length-shifted g.met.F.Arithmetic.laws c.loop.counter [] in
    absurd (cc (c.in_err-push.ensures.in_place (omega (arith, size, few))))

pub returns-in_err-push-2-clause-in_place : goal.returns-in_err-push-2-clause-in_place
returns-in_err-push-2-clause-in_place g c = λ few.
    let i : ℕ = c.loop-x.x-index in
    let size : length c.loop-x.copy ≡ c.args.shift + length (take i c.args.source.now) =
    ap (λ u. length u) c.loop-x.invariant ∙ length-shifted g.met.F.Arithmetic.laws c.args.shift (take i c.args.source.now) in
    let taken : length (take i c.args.source.now) ≡ i = length-take-le i c.args.source.now (omega arith) in
    absurd (cc (c.in_err-push-2.ensures.in_place (omega (arith, size, taken, few))))
