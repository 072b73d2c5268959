use Rattle.std.proofs.Common.{◌≤◌, ◌⊎◌, ℕ, List, length, ap, sym, subst, ⊎_elim}
use Rattle.bech32_bits.specs.Bits.{to_bytes}
use Rattle.bech32_gf.specs.Fe32.{elements_of}
use Rattle.bech32_hrp.specs.HrpBytes.{hrp_bytes}
use Rattle.bech32_checksum.specs.Code.{bech32, bech32m}
use Rattle.bech32_decode.specs.Acceptance.{IsAccepted, IsDecoded}
use Rattle.bech32_decode.proofs.Decoding.{before_checksum}
use Rattle.bech32.proofs.checked.Goals as goal

-- the data part of what either accepts has room for a checksum
room : (text hrp data_part : List ℕ) → (IsAccepted bech32m text hrp data_part ⊎ IsAccepted bech32 text hrp data_part) → 6 ≤ length data_part
room text hrp data_part accepted =
    ⊎_elim (λ (a : IsAccepted bech32m text hrp data_part). a.data_length) (λ (a : IsAccepted bech32 text hrp data_part). a.data_length) accepted

pub checked-requires : goal.checked-requires
checked-requires c =
    let r = c.in_ok-reading.reading in
    room r.text.now r.hrp.now r.data_part.now c.in_ok-validate_either.ensures

pub returns : goal.returns
returns c =
    let r = c.in_ok-reading.reading in
    subst (λ (t : List ℕ). IsDecoded t (hrp_bytes c.checked.result.hrp) (to_bytes (elements_of c.checked.result.ascii.now))) c.in_ok-reading.ensures.value
    (record {
      data_part = r.data_part.now;
      accepted = subst (λ (h : List ℕ). IsAccepted bech32m r.text.now h r.data_part.now ⊎ IsAccepted bech32 r.text.now h r.data_part.now) (sym c.checked.ensures.hrp) c.in_ok-validate_either.ensures;
      bytes_are = ap (λ (l : List ℕ). to_bytes (elements_of l)) (before_checksum bech32m r.data_part.now c.checked.result.ascii.now c.checked.ensures.before);
    })
