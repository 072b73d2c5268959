use Rattle.std.proofs.Common.{◌≡◌, ◌≤◌, ◌<◌, ℕ, true, false, get_or, length, map, take}
use Rattle.bech32_gf.specs.Fe32 as fe32
use Rattle.bech32_gf.specs.Fe32.{elements_of}
use Rattle.codex32_steady.specs.shares.Shares.{DoAgree, IsDerived}
use Rattle.codex32_steady.proofs.shares.agreement.agree.Given as goal

-- the first texts give those that were passed, or the texts do not agree
abbrev pub invariant-loop-i : goal.invariant-loop-i
invariant-loop-i g l = record {
  size : length l.room ≡ length l.fn.room;
  least : l.count ≤ l.i;
  derived : l.agrees ≡ true → (m : ℕ) (t : g.row.T.Denot) → l.count ≤ m → m < l.i → t ≡ get_or l.shares m t
      → IsDerived fe32.ops (map g.T.IndexedText.index_of (take l.count l.shares)) (map (λ t. elements_of (g.T.IndexedText.characters_of t)) (take l.count l.shares))
      (length l.fn.room) (g.T.IndexedText.index_of t) (elements_of (g.T.IndexedText.characters_of t));
  apart : l.agrees ≡ false
      → DoAgree fe32.ops l.count (map g.T.IndexedText.index_of l.shares) (map (λ t. elements_of (g.T.IndexedText.characters_of t)) l.shares) (length l.fn.room) → ⊥;
}
