use Rattle.std.proofs.Common.{ℕ, List, length, ◌<◌}
use Rattle.bech32_decode.specs.Acceptance.{IsAccepted}
use Rattle.testing_tools.specs.PlainChecksum.{code_of_plain}
use Rattle.testing_tools.proofs.plain.accepts.Given as goal

-- no human-readable part that ends before this place is accepted
abbrev pub invariant-loop-at : goal.invariant-loop-at
invariant-loop-at l = (hrp data_part : List ℕ) → length hrp < l.at → IsAccepted (code_of_plain l.checksum) l.text hrp data_part → ⊥
