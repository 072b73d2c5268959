use Rattle.std.proofs.Common.{◌≡◌, ◌≤◌, ◌^◌, ◌∙◌, [], List, ap, arith, le-leb, map, subst, sym}
use Rattle.std.specs.Prelude.{if◌then◌else◌, string_bytes}
use Rattle.std.specs.List.{flat_map, range_with_len}
use Rattle.std.proofs.lemmas.List.Folds.{flat_map-map}
use Rattle.bech32_hrp.specs.HrpBytes.{hrp_bytes}
use Rattle.bech32_typed.specs.Readings.{reading_at, readings, twos}
use Rattle.bech32_typed.specs.Tries.{Try, readings_of, tries_of_numbered, tries_of_reading}
use Rattle.bech32_typed.specs.declared.tries.Pass.TheVariants.{AsItLooks}
use Rattle.bech32_meant.specs.Added.{AddsAll, AddsTry, Answer}
use Rattle.bech32_meant.proofs.tried.push_looks.Goals as goal

pub returns : goal.returns
returns g c =
    let asked = c.args.asked.now in
    let Adds = AddsTry (hrp_bytes asked.hrp.now) asked.slips in
    let part = c.args.part.now in
    let tries = tries_of_reading c.args.left in
    let before : List Answer = map (λ s. (string_bytes s.text, s.slips)) c.args.found.now.items in
    let after : List Answer = map (λ s. (string_bytes s.text, s.slips)) c.push_readings.new.found.items in
    let few : twos part ≤ 10 = omega (arith, c.if-twos-gt-MAX_TWOS.false, c.count_twos-twos.ensures) in
    let all : flat_map tries (readings_of AsItLooks part) ≡ flat_map (tries_of_numbered c.args.left part) (range_with_len 0 c.ways_to_read.result) =
    ap (λ b. flat_map tries (if b then readings part else [])) (le-leb (twos part) 10 few)
    ∙ flat_map-map tries (reading_at part) (range_with_len 0 (2 ^ twos part))
    ∙ ap (λ n. flat_map (tries_of_numbered c.args.left part) (range_with_len 0 n)) (sym (c.ways_to_read.ensures ∙ ap (λ t. 2 ^ t) c.count_twos-twos.ensures)) in
    subst (λ (ts : List Try). AddsAll Adds before ts after) (sym all) c.in_ok-push_readings.ensures
