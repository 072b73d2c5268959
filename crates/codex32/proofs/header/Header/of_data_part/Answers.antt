use Rattle.std.proofs.Common.{◌≡◌, ◌≤◌, ℕ, get_or, ◌∙◌, arith}
use Rattle.bech32_decode.proofs.Grammar.{none_first}
use Rattle.codex32.specs.Strings.{share_index_fault, threshold_fault}
use Rattle.codex32.proofs.Digits.{secret-from_s, threshold-least}
use Rattle.codex32.proofs.Refused.{none_share_index, none_threshold}
use Rattle.codex32.proofs.header.Header.of_data_part.Goals as goal

pub invariant_of-result : goal.invariant_of-result
invariant_of-result c =
    let given = c.args.data_part.now in
    let t : ℕ = get_or given 0 0 in
    let x : ℕ = get_or given 5 0 in
    let parts = none_first (threshold_fault t) (share_index_fault t x) c.requires.tested in
    let least : 48 ≤ t = threshold-least t (none_threshold t parts.0) in
    record {
      unshared = λ zero.
          let same : t ≡ 48 = omega (arith, zero, least, c.in-Some.ensures) in
          c.from_char_unchecked-share_index.ensures ∙ secret-from_s x (none_share_index t x parts.1 same);
    }
