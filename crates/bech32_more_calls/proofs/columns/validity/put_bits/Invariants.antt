use Rattle.std.proofs.Common.{◌≡◌, ◌+◌, ◌*◌, ◌<◌, ℕ, drop, get_or, length, take}
use Rattle.bech32_more_calls.specs.columns.Validity.{validity_bits}
use Rattle.bech32_more_calls.proofs.columns.validity.put_bits.Given as goal

-- the first bytes are put, and behind them nothing is
abbrev pub invariant-loop-j : goal.invariant-loop-j
invariant-loop-j l = record {
  size : length l.validity ≡ length l.fn.validity;
  so_far : (k : ℕ) → k < l.j → get_or l.validity k 0 ≡ validity_bits (take 8 (drop (8 * k) l.numbers));
  rest : drop l.j l.validity ≡ drop l.j l.fn.validity;
}
