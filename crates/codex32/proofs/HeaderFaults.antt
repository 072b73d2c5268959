-- What is accepted, with wrong first characters, is refused for these.
use Rattle.std.proofs.Common.{◌≡◌, Bool, true, false, ℕ, List, Some, None, eqb, ◌&&◌}
use mathlib.Core.Bool.{not}
use Rattle.std.specs.Prelude.{if◌then◌else◌, slice_index}
use Rattle.std.specs.Char.{to_ascii_lowercase}
use Rattle.bech32_checksum.specs.Code.{Code}
use Rattle.bech32_decode.specs.Acceptance.{IsAccepted}
use Rattle.bech32_hrp.specs.Hrp.{first_of}
use Rattle.bech32_refusals.specs.declared.error.ChecksumError.{ChecksumError}
use Rattle.codex32.specs.Strings.{IsBodyRefusalBy, header_fault, is_threshold}
use Rattle.codex32.specs.declared.error.Codex32Error.{Codex32Error}
use Rattle.codex32.specs.declared.error.Codex32Error.TheVariants.{Text, Length, Hrp, Checksum, Threshold, ShareIndex, Memory}

no_checksum : (a b : Bool) (e : ChecksumError) → first_of (if a then None else Some Threshold) (if b then Some ShareIndex else None) ≡ Some (Checksum e) → ⊥
no_checksum true true e h = cc
no_checksum true false e h = cc
no_checksum false true e h = cc
no_checksum false false e h = cc

pub body_refused : (code : Code) (text hrp data_part : List ℕ) (e : Codex32Error) → IsAccepted code text hrp data_part → header_fault data_part ≡ Some e
    → IsBodyRefusalBy code text hrp data_part e
body_refused code text hrp d (Checksum e) is h =
    absurd (no_checksum (is_threshold (slice_index d 0)) (eqb (slice_index d 0) 48 && not (eqb (to_ascii_lowercase (slice_index d 5)) 115)) e h)
body_refused code text hrp d (Text e) is h = (is, h)
body_refused code text hrp d Length is h = (is, h)
body_refused code text hrp d Hrp is h = (is, h)
body_refused code text hrp d Threshold is h = (is, h)
body_refused code text hrp d ShareIndex is h = (is, h)
body_refused code text hrp d Memory is h = (is, h)
