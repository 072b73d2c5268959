-- Why characters give no string.
use Rattle.std.proofs.Common.{◌≡◌, ℕ, List, None}
use Rattle.codex32_calls.specs.Encode.{header_number_fault}
use Rattle.codex32_calls.specs.Payload.{IsEncodePayloadFault, IsPayloadFault}
use Rattle.codex32_calls.specs.declared.refusal.Refusal.{Refusal}
use Rattle.codex32_calls.specs.declared.refusal.Refusal.TheVariants as refusals

pub refused-from_payload : (t : ℕ) (w : List ℕ) (x : ℕ) (cs : List ℕ) (room : ℕ) (e : Refusal) → header_number_fault t w x ≡ None → IsPayloadFault cs e → IsEncodePayloadFault t w x cs room e
refused-from_payload t w x cs room refusals.InvalidCharacter fine h = (fine, h)
refused-from_payload t w x cs room refusals.MixedCase fine h = (fine, h)
refused-from_payload t w x cs room refusals.NotUtf8 fine h = absurd h
refused-from_payload t w x cs room refusals.BadLengths fine h = absurd h
refused-from_payload t w x cs room (refusals.Text e) fine h = absurd h
refused-from_payload t w x cs room (refusals.Header e) fine h = absurd h
refused-from_payload t w x cs room (refusals.Payload e) fine h = absurd h
refused-from_payload t w x cs room (refusals.Encode e) fine h = absurd h
refused-from_payload t w x cs room (refusals.Derive e) fine h = absurd h
refused-from_payload t w x cs room (refusals.Split e) fine h = absurd h
refused-from_payload t w x cs room refusals.NoNearest fine h = absurd h
refused-from_payload t w x cs room refusals.NoRoom fine h = absurd h
