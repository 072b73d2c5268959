use Rattle.std.proofs.Common.{◌≡◌, ◌<◌, ℕ, length, take, map, sym, ap, ◌∙◌, arith}
use Rattle.std.specs.Prelude.{◌≢◌}
use Rattle.std.proofs.lemmas.List.{get_or-take, length-take-le, take-map}
use Rattle.bech32_poly.specs.RootSearch.{multiplied_each}
use Rattle.bech32_poly.proofs.Steps.{none_multiplied, place_multiplied}
use Rattle.codex32_steady.specs.shares.Points.{factor_of}
use Rattle.codex32_steady.proofs.OnePlaceMore.{all_at}
use Rattle.codex32_steady.proofs.Written.{map_at, length-mapped}
use Rattle.codex32_steady.proofs.shares.weights.rescale.Goals as goal

pub loop-i-init : goal.loop-i-init
loop-i-init g c = sym (none_multiplied g.F.Arithmetic.ops c.args.weights.now)

pub factor-requires : goal.factor-requires
factor-requires g c =
    let xs = c.args.indices.now in
    let i : ℕ = c.loop-i.i in
    let below : i < c.args.count = omega arith in
    all_at (λ y. y ≢ c.args.new) (take c.args.count xs) i c.index-indices-i.result c.requires.apart
    (omega (arith, length-take-le c.args.count xs c.requires.within))
    (c.index-indices-i.is ∙ sym (get_or-take c.args.count xs i c.index-indices-i.result below))

pub loop-i-preserved : goal.loop-i-preserved
loop-i-preserved g c =
    let o = g.F.Arithmetic.ops in
    let xs = c.args.indices.now in
    let i : ℕ = c.loop-i.i in
    let f = factor_of o c.args.x c.args.new in
    let within : i < length xs = omega (arith, c.requires.within) in
    place_multiplied o c.args.weights.now (map f xs) c.loop-i.weights c.index-weights-i.result c.factor.result c.times.result i
    (omega (arith, length-mapped f xs)) (omega (arith, c.requires.size))
    c.loop-i.invariant c.index-weights-i.is (map_at f xs i c.index-indices-i.result c.factor.result within c.index-indices-i.is c.factor.ensures) c.times.ensures

pub returns : goal.returns
returns g c =
    let o = g.F.Arithmetic.ops in
    let f = factor_of o c.args.x c.args.new in
    let done : c.loop-i.i ≡ c.args.count = omega arith in
    c.loop-i.invariant
    ∙ ap (λ n. multiplied_each o c.args.weights.now (take n (map f c.args.indices.now))) done
    ∙ ap (multiplied_each o c.args.weights.now) (take-map f c.args.count c.args.indices.now)
