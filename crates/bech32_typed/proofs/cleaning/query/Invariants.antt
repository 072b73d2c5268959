use Rattle.std.proofs.Common.{◌≡◌, ◌≤◌, drop, length, None}
use Rattle.std.specs.Prelude.{IfSome}
use Rattle.bech32_typed.specs.Cleaned.{query_place}
use Rattle.bech32_typed.proofs.cleaning.query.Given as goal

abbrev pub invariant-loop-i : goal.invariant-loop-i
invariant-loop-i l = (query_place (drop l.i l.text) l.i l.mark ≡ query_place l.text 0 None) × IfSome l.mark (λ i. i ≤ length l.text)
