-- In how many places the texts differ that a checksum accepts.
use Rattle.std.specs.Prelude.{◌≡◌, ◌≤◌, ◌↔◌, ℕ, Bool, IsTrue, List, length}
use Rattle.bech32_gf.specs.Fe32.{elements_of, ops}
use Rattle.bech32_bch.specs.Detection.{DetectsFour}
use Rattle.bech32_hrp.specs.Hrp.{lowered}
use Rattle.bech32_checksum.specs.Code.{Code}
use Rattle.bech32_decode.specs.Acceptance.{IsAccepted}
use Rattle.bech32_detect.specs.Distance.{AreSameOrFar}

-- Any two texts that the checksum accepts, with the same human-readable part, in lower case, of the
-- same length, and with data parts of at most n characters, have the same elements in these, those
-- of the checksum among them, or elements that differ in more places than the bound.
abbrev pub AreTextsFar : Code → ℕ → ℕ → Type 0
AreTextsFar code n bound = (text hrp data_part other other_hrp other_data : List ℕ)
    → IsAccepted code text hrp data_part → IsAccepted code other other_hrp other_data
    → lowered other_hrp ≡ lowered hrp → length other ≡ length text → length data_part ≤ n
    → AreSameOrFar bound (elements_of data_part) (elements_of other_data)

-- the answer says whether no pattern of one to four errors below n has the remainder zero
abbrev pub SaysWhetherFour : Code → ℕ → Bool → Type 0
SaysWhetherFour code n answer = IsTrue answer ↔ DetectsFour ops code.generator n
