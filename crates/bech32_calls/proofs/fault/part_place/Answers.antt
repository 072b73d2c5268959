use Rattle.std.specs.Prelude.{unwrap_or}
use Rattle.std.proofs.Common.{◌≡◌, ℕ, not, Option, length, ap, ◌∙◌, arith}
use Rattle.std.specs.List.{position_or_len}
use Rattle.bech32_hrp.specs.Hrp.{is_graphic}
use Rattle.bech32_calls.proofs.Places.{unwrap-position}
use Rattle.bech32_calls.proofs.Wrong.{unfit-at}
use Rattle.bech32_calls.proofs.fault.part_place.Goals as goal

pub returns : goal.returns
returns c p h =
    let part = c.args.part.now in
    let graphic : c.unwrap_or-place.result ≡ position_or_len (λ b. not (is_graphic b)) part =
    c.unwrap_or-place.ensures ∙ ap (λ (o : Option ℕ). unwrap_or o (length part)) c.first_not_graphic.ensures
    ∙ unwrap-position (λ b. not (is_graphic b)) part in
    omega (
      arith,
      unfit-at part p c.unwrap_or-place.result c.case_place.result h graphic c.case_place.ensures.first c.case_place.ensures.front,
    )
