-- What a function for C that says in words what a number means does with its buffer.
use Rattle.std.specs.Prelude.{◌≡◌, ◌≢◌, ◌≤◌, ◌<◌, ℕ, List, length}
use Rattle.bech32_encode.specs.Buffers.{IsPut}

-- a sentence and its length are put and 0 is returned, where the buffer has room for the sentence,
-- as every buffer of 100 bytes has; else 92 is returned, and nothing changes
pub record IsMessage (sentence message message' : List ℕ) (size size' result : ℕ) : Type 0 where
  pub value : result ≡ 0 → IsPut sentence message message' size'
  pub accepts : length sentence ≤ length message → result ≡ 0
  pub short : (result ≡ 0 → size' ≤ 100) × (100 ≤ length message → result ≡ 0)
  pub refused : result ≢ 0 → (result ≡ 92) × (length message < length sentence)
  pub same : result ≢ 0 → (message' ≡ message) × (size' ≡ size)
