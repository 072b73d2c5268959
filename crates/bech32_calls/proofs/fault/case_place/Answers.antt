use Rattle.std.specs.Prelude.{unwrap_or}
use Rattle.std.proofs.Common.{◌≡◌, ℕ, Option, length, ap, ◌∙◌, arith}
use Rattle.std.specs.List.{position_or_len}
use Rattle.bech32_hrp.specs.Hrp.{is_lower, is_upper}
use Rattle.bech32_calls.proofs.Cases.{other_case-at, other_case-behind}
use Rattle.bech32_calls.proofs.Places.{unwrap-position}
use Rattle.bech32_calls.proofs.fault.case_place.Goals as goal

pub returns : goal.returns
returns c =
    let bytes = c.args.bytes.now in
    let lower : c.unwrap_or-lower.result ≡ position_or_len is_lower bytes =
    c.unwrap_or-lower.ensures ∙ ap (λ (o : Option ℕ). unwrap_or o (length bytes)) c.first_lower.ensures ∙ unwrap-position is_lower bytes in
    let upper : c.unwrap_or.result ≡ position_or_len is_upper bytes =
    c.unwrap_or.ensures ∙ ap (λ (o : Option ℕ). unwrap_or o (length bytes)) c.first_upper.ensures ∙ unwrap-position is_upper bytes in
    record {
      first = λ p h. omega (arith, lower, upper, other_case-at bytes p h);
      front = λ front behind e h. omega (arith, lower, upper, other_case-behind bytes front behind e h);
    }
