use Rattle.std.proofs.Common.{◌≡◌, ◌≢◌, ℕ, true, false, get_or, take}
use Rattle.bech32_gf.specs.Fe32.{elements_of, zero}
use Rattle.codex32_steady.proofs.shares.agreement.are_elements_of.Given as goal

-- the first ones are the same, or one of them is not
abbrev pub invariant-loop-i : goal.invariant-loop-i
invariant-loop-i l = record {
  alike : l.same ≡ true → take l.i l.elements ≡ take l.i (elements_of l.characters);
  apart : l.same ≡ false → (m : ℕ) × (get_or l.elements m zero ≢ get_or (elements_of l.characters) m zero);
}
