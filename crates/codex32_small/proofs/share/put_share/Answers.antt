use Rattle.std.proofs.Common.{◌≡◌, ◌∙◌, ◌<◌, ◌≤◌, ◌++◌, ℕ, List, length, drop, refl, sym, ap, subst, arith}
use Rattle.std.proofs.lemmas.Result.{err_from_is_err_and}
use Rattle.bech32_bits.specs.Bits.{to_bytes}
use Rattle.bech32_encode.specs.Buffers.{IsPut}
use Rattle.bech32_gf.specs.Fe32.{elements_of}
use Rattle.codex32.specs.ShareParts.{bits_left_over, payload_in}
use Rattle.codex32.specs.declared.error.PayloadError.TheVariants as payload_errors
use Rattle.codex32_calls.specs.Share.{HasPayload, IsEitherFault, IsShareFault}
use Rattle.codex32_calls.specs.declared.refusal.Refusal.{Refusal}
use Rattle.codex32_calls.specs.declared.refusal.Refusal.TheVariants as refusals
use Rattle.codex32_calls.proofs.Accepted.{either-from_payload, no_either_fault, no_share_fault}
use Rattle.codex32_small.specs.Parts.{HasDataPart}
use Rattle.codex32_small.proofs.share.put_share.Goals as goal

share_fault : (text : List ℕ) (room : ℕ) (e : Refusal) → IsEitherFault text e → IsShareFault text room e
share_fault text room refusals.NotUtf8 h = h
share_fault text room (refusals.Text e) h = h
share_fault text room refusals.BadLengths h = h
share_fault text room refusals.InvalidCharacter h = h
share_fault text room refusals.MixedCase h = h
share_fault text room (refusals.Header e) h = h
share_fault text room (refusals.Payload e) h = absurd h
share_fault text room (refusals.Encode e) h = h
share_fault text room (refusals.Derive e) h = h
share_fault text room (refusals.Split e) h = h
share_fault text room refusals.NoNearest h = h
share_fault text room refusals.NoRoom h = absurd h

-- the payload of the share
payload_is : (text given payload : List ℕ) (has : HasDataPart text given) → payload ≡ payload_in given → payload ≡ has.share.payload.now
payload_is text given payload has is = is ∙ ap payload_in (sym has.characters) ∙ sym has.share.payload_is

of_payload : (P : List ℕ → Type 0) (text given : List ℕ) (has : HasDataPart text given) → P has.share.payload.now → HasPayload P text
of_payload P text given has h = record { header = has.share.header; payload = has.share.payload.now; is_string = has.is_share.is_string; holds = h }

pub returns-in_err-data_part-clause-accepts : goal.returns-in_err-data_part-clause-accepts
returns-in_err-data_part-clause-accepts c can =
    let e = c.in_err-data_part.ensures in
    absurd (no_either_fault c.args.text.now e.refusal (either-from_payload _ c.args.text.now can) e.holds)

pub returns-in_err-data_part-clause-refused : goal.returns-in_err-data_part-clause-refused
returns-in_err-data_part-clause-refused c =
    let e = c.in_err-data_part.ensures in
    let p = err_from_is_err_and c.from_residual.result c.from_residual.ensures.1 in
    rw p.1 (rw p.2 (record { refusal = e.refusal; holds = share_fault c.args.text.now (length c.args.bytes.now) e.refusal e.holds; number = e.number }))

left_over : (text given payload : List ℕ) (has : HasDataPart text given) → payload ≡ payload_in given → 4 < bits_left_over (length payload)
    → HasPayload (λ p. 4 < bits_left_over (length p)) text
left_over text given payload has is h =
    of_payload (λ p. 4 < bits_left_over (length p)) text given has (subst (λ (p : List ℕ). 4 < bits_left_over (length p)) (payload_is text given payload has is) h)

lacks : (text given payload : List ℕ) (room : ℕ) (has : HasDataPart text given) → payload ≡ payload_in given → bits_left_over (length payload) ≤ 4
    → room < length (to_bytes (elements_of payload)) → HasPayload (λ p. (bits_left_over (length p) ≤ 4) × (room < length (to_bytes (elements_of p)))) text
lacks text given payload room has is few h =
    of_payload (λ p. (bits_left_over (length p) ≤ 4) × (room < length (to_bytes (elements_of p)))) text given has
    (subst (λ (p : List ℕ). (bits_left_over (length p) ≤ 4) × (room < length (to_bytes (elements_of p)))) (payload_is text given payload has is) (few, h))

pub returns-then-payload-gt4-clause-refused : goal.returns-then-payload-gt4-clause-refused
returns-then-payload-gt4-clause-refused c = record {
  refusal = refusals.Payload payload_errors.LeftOver;
  holds = left_over c.args.text.now c.in_ok-data_part.data_part.now c.payload_of-payload.result.now c.in_ok-data_part.ensures c.payload_of-payload.ensures (omega (arith, c.if-payload-gt4.true));
  number = refl;
}

pub returns-then-payload-gt4-clause-accepts : goal.returns-then-payload-gt4-clause-accepts
returns-then-payload-gt4-clause-accepts c can =
    absurd (no_share_fault c.args.text.now (length c.args.bytes.now) (refusals.Payload payload_errors.LeftOver) can
    (left_over c.args.text.now c.in_ok-data_part.data_part.now c.payload_of-payload.result.now c.in_ok-data_part.ensures c.payload_of-payload.ensures (omega (arith, c.if-payload-gt4.true))))

pub returns-then-data_bytes_count-bytes-clause-refused : goal.returns-then-data_bytes_count-bytes-clause-refused
returns-then-data_bytes_count-bytes-clause-refused c = record {
  refusal = refusals.NoRoom;
  holds = lacks c.args.text.now c.in_ok-data_part.data_part.now c.payload_of-payload.result.now (length c.args.bytes.now) c.in_ok-data_part.ensures c.payload_of-payload.ensures
      (omega (arith, c.if-payload-gt4.false)) (omega (arith, c.if-data_bytes_count-bytes.true, c.data_bytes_count.ensures));
  number = refl;
}

pub returns-then-data_bytes_count-bytes-clause-accepts : goal.returns-then-data_bytes_count-bytes-clause-accepts
returns-then-data_bytes_count-bytes-clause-accepts c can =
    absurd (no_share_fault c.args.text.now (length c.args.bytes.now) refusals.NoRoom can
    (lacks c.args.text.now c.in_ok-data_part.data_part.now c.payload_of-payload.result.now (length c.args.bytes.now) c.in_ok-data_part.ensures c.payload_of-payload.ensures
    (omega (arith, c.if-payload-gt4.false)) (omega (arith, c.if-data_bytes_count-bytes.true, c.data_bytes_count.ensures))))

pub told_of-requires : goal.told_of-requires
told_of-requires c = (c.in_ok-data_part.ensures.share, c.in_ok-data_part.ensures.characters)

pub returns-clause-value : goal.returns-clause-value
returns-clause-value c =
    let has = c.in_ok-data_part.ensures in
    let old = c.args.bytes.now in
    let new = c.put_payload_bytes-count.new.buffer in
    let n : ℕ = c.put_payload_bytes-count.result in
    let same = payload_is c.args.text.now c.in_ok-data_part.data_part.now c.payload_of-payload.result.now has c.payload_of-payload.ensures in
    let counted = c.put_payload_bytes-count.ensures.count in
    record {
      header = has.share.header;
      told = c.told_of.ensures.told has.share has.characters;
      puts = record {
        payload = has.share.payload.now;
        is_string = has.is_share.is_string;
        few = subst (λ (p : List ℕ). bits_left_over (length p) ≤ 4) same (omega (arith, c.if-payload-gt4.false));
        put = subst (λ (p : List ℕ). IsPut (to_bytes (elements_of p)) old new c.told_of.result.count) same
            (record {
              fits = omega (arith, c.if-data_bytes_count-bytes.false, c.data_bytes_count.ensures);
              buffer = c.put_payload_bytes-count.ensures.buffer ∙ ap (λ (k : ℕ). to_bytes (elements_of c.payload_of-payload.result.now) ++ drop k old) counted;
              count_is = c.told_of.ensures.count ∙ counted;
            });
      };
    }
