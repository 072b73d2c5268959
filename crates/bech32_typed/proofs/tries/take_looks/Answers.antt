use Rattle.std.proofs.Common.{◌≡◌, ◌≤◌, ◌^◌, ◌∙◌, [], List, ap, arith, le-leb, subst, sym}
use Rattle.std.specs.Prelude.{IfOk, if◌then◌else◌}
use Rattle.std.specs.List.{flat_map, range_with_len}
use Rattle.std.proofs.lemmas.List.Folds.{flat_map-map}
use Rattle.bech32_typed.specs.Readings.{reading_at, readings, twos}
use Rattle.bech32_typed.specs.Tries.{IsTaken, Try, readings_of, tries_of_numbered, tries_of_reading}
use Rattle.bech32_typed.specs.declared.tries.Pass.TheVariants.{AsItLooks}
use Rattle.bech32_typed.proofs.tries.take_looks.Goals as goal

pub returns : goal.returns
returns g c =
    let part = c.args.part.now in
    let slips = c.args.slips in
    let tries = tries_of_reading slips in
    let few : twos part ≤ 10 = omega (arith, c.if-twos-gt-MAX_TWOS.false, c.count_twos-twos.ensures) in
    let all : flat_map tries (readings_of AsItLooks part) ≡ flat_map (tries_of_numbered slips part) (range_with_len 0 c.ways_to_read.result) =
    ap (λ b. flat_map tries (if b then readings part else [])) (le-leb (twos part) 10 few)
    ∙ flat_map-map tries (reading_at part) (range_with_len 0 (2 ^ twos part))
    ∙ ap (λ n. flat_map (tries_of_numbered slips part) (range_with_len 0 n)) (sym (c.ways_to_read.ensures ∙ ap (λ t. 2 ^ t) c.count_twos-twos.ensures)) in
    subst (λ (ts : List Try). IfOk c.take_readings.result (IsTaken c.args.left ts)) (sym all) c.take_readings.ensures
