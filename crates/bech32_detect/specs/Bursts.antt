-- Errors that stand close together (BIP-173, Checksum design; BIP-93, Checksum).
use Rattle.std.specs.Prelude.{◌≡◌, ◌≤◌, ◌++◌, ℕ, List, length}
use Rattle.bech32_gf.specs.Fe32.{elements_of}
use Rattle.bech32_hrp.specs.Hrp.{lowered}
use Rattle.bech32_checksum.specs.Code.{Code}
use Rattle.bech32_decode.specs.Acceptance.{IsAccepted}

-- the lists are the same but for at most n places in a row
pub record DifferInBurst {A : Type 0} (n : ℕ) (xs ys : List A) : Type 0 where
  pub front : List A
  pub middle : List A
  pub other : List A
  pub back : List A
  pub first : xs ≡ front ++ (middle ++ back)
  pub second : ys ≡ front ++ (other ++ back)
  pub alike : length other ≡ length middle
  pub short : length middle ≤ n

-- Two texts that the checksum accepts, with the same human-readable part, in lower case, whose
-- elements are the same but for at most as many places in a row as the checksum has characters,
-- have the same elements.
abbrev pub AreBurstsDetected : Code → Type 0
AreBurstsDetected code = (text hrp data_part other other_hrp other_data : List ℕ)
    → IsAccepted code text hrp data_part → IsAccepted code other other_hrp other_data
    → lowered other_hrp ≡ lowered hrp
    → DifferInBurst (length code.generator) (elements_of data_part) (elements_of other_data)
    → elements_of data_part ≡ elements_of other_data
