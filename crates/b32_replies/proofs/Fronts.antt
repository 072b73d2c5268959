-- Of numbers that do not fit into a room as long as the code, as many as fit are too long as well.
use Rattle.std.proofs.Common.{◌≡◌, ◌<◌, ◌≤◌, ◌∙◌, ℕ, List, [], Result, Ok, Err, MatchResult, length, take, inl, inr, refl, ap, subst, arith}
use Rattle.std.proofs.lemmas.Bool.{cases_lt}
use Rattle.std.proofs.lemmas.List.{length-map}
use Rattle.bech32_gf.specs.Fe32.{element}
use Rattle.bech32_bits.specs.Bits.{fes_count, to_fes}
use Rattle.bech32_bits.proofs.RoundTrip.{length-to_fes}
use Rattle.bech32_checksum.specs.Code.{Code}
use Rattle.bech32_encode.specs.TextLength.{encoded_length_of}
use Rattle.bech32.specs.Elements.{elements_in}
use Rattle.bech32_refusals.specs.declared.texts.EncodeError.TheVariants as encode_errors
use Rattle.bech32_refusals.specs.declared.texts.ElementsError.TheVariants as elements_errors
use Rattle.b32_replies.specs.Numbers.{number_of_reply}
use Rattle.b32_replies.specs.Reply.{IsLongWritten, IsNotWritten, elements_by}
use Rattle.b32_replies.specs.Written.{IsTextOrRefusal}
use Rattle.b32_replies.specs.declared.long_command.Kind.{Kind}
use Rattle.b32_replies.specs.declared.long_command.Kind.TheVariants.{Bytes, Elements}
use Rattle.b32_replies.specs.declared.refusal.Refusal.{Refusal}
use Rattle.b32_replies.specs.declared.refusal.Refusal.TheVariants as refusals
use Rattle.bech32.specs.Long.{max_long_text_length}

-- as many numbers as the code is long are too many
too_many : (kind : Kind) (code : Code) (hrp values : List ℕ) → code.code_length ≤ max_long_text_length → code.code_length ≤ length values
    → code.code_length < encoded_length_of code hrp (elements_by kind values)
too_many Bytes code hrp values short many =
    let count : length (to_fes values) ≡ fes_count 0 (length values) = length-to_fes values in
    omega (arith, short, many, count)
too_many Elements code hrp values short many =
    let count : length (elements_in values) ≡ length values = length-map values element in
    omega (arith, short, many, count)

-- that is the refusal with 51
own_fault : (kind : Kind) (code : Code) (hrp values : List ℕ) → code.code_length < encoded_length_of code hrp (elements_by kind values)
    → (own : Refusal) × IsNotWritten kind code hrp values own × (51 ≡ number_of_reply own)
own_fault Bytes code hrp values long =
    (refusals.Encode (encode_errors.TooLong (record { encoded_length = encoded_length_of code hrp (to_fes values); code_length = code.code_length })), (long, refl), refl)
own_fault Elements code hrp values long =
    (refusals.Elements (elements_errors.TooLong (record { encoded_length = encoded_length_of code hrp (elements_in values); code_length = code.code_length })), (long, refl), refl)

-- and no other is given
is_51 : (kind : Kind) (code : Code) (hrp given : List ℕ) (e : Refusal) → code.code_length < encoded_length_of code hrp (elements_by kind given) → IsNotWritten kind code hrp given e
    → number_of_reply e ≡ 51
is_51 Bytes code hrp given (refusals.Encode (encode_errors.TooLong e)) long h = refl
is_51 Bytes code hrp given (refusals.Encode (encode_errors.Fmt e)) long h = absurd h
is_51 Bytes code hrp given (refusals.Encode encode_errors.Memory) long h = absurd (omega (arith, long, h))
is_51 Bytes code hrp given refusals.BadNumber long h = absurd h
is_51 Bytes code hrp given refusals.BadHex long h = absurd h
is_51 Bytes code hrp given (refusals.Hrp e) long h = absurd h
is_51 Bytes code hrp given (refusals.Decode e) long h = absurd h
is_51 Bytes code hrp given (refusals.Text e) long h = absurd h
is_51 Bytes code hrp given (refusals.Elements e) long h = absurd h
is_51 Bytes code hrp given (refusals.SegwitEncode e) long h = absurd h
is_51 Bytes code hrp given (refusals.SegwitDecode e) long h = absurd h
is_51 Bytes code hrp given (refusals.Correct e) long h = absurd h
is_51 Bytes code hrp given (refusals.LiquidEncode e) long h = absurd h
is_51 Bytes code hrp given (refusals.LiquidDecode e) long h = absurd h
is_51 Bytes code hrp given refusals.Memory long h = absurd h
is_51 Elements code hrp given (refusals.Elements (elements_errors.TooLong e)) long h = refl
is_51 Elements code hrp given (refusals.Elements (elements_errors.Element place)) long h = absurd (omega (arith, long, h.0))
is_51 Elements code hrp given (refusals.Elements elements_errors.Memory) long h = absurd (omega (arith, long, h.0))
is_51 Elements code hrp given refusals.BadNumber long h = absurd h
is_51 Elements code hrp given refusals.BadHex long h = absurd h
is_51 Elements code hrp given (refusals.Hrp e) long h = absurd h
is_51 Elements code hrp given (refusals.Encode e) long h = absurd h
is_51 Elements code hrp given (refusals.Decode e) long h = absurd h
is_51 Elements code hrp given (refusals.Text e) long h = absurd h
is_51 Elements code hrp given (refusals.SegwitEncode e) long h = absurd h
is_51 Elements code hrp given (refusals.SegwitDecode e) long h = absurd h
is_51 Elements code hrp given (refusals.Correct e) long h = absurd h
is_51 Elements code hrp given (refusals.LiquidEncode e) long h = absurd h
is_51 Elements code hrp given (refusals.LiquidDecode e) long h = absurd h
is_51 Elements code hrp given refusals.Memory long h = absurd h

module _ {S : Type 0} (bytes : S → List ℕ) (kind : Kind) (code : Code) (hrp : List ℕ) (short : code.code_length ≤ max_long_text_length) where
  -- of more numbers
  of_more : (given values : List ℕ) (r : Result S Refusal) → code.code_length ≤ length given → code.code_length ≤ length values
      → MatchResult r (λ s. IsLongWritten kind code hrp given (bytes s)) (λ e. IsNotWritten kind code hrp given e) → IsTextOrRefusal bytes kind code hrp values r
  of_more given values (Ok s) full many h = absurd (omega (arith, too_many kind code hrp given short full, h.fits))
  of_more given values (Err e) full many h =
      let (own, is, number) = own_fault kind code hrp values (too_many kind code hrp values short many) in
      (own, is, is_51 kind code hrp given e (too_many kind code hrp given short full) h ∙ number)

  -- of those that fit
  of_same : (values : List ℕ) (r : Result S Refusal) → MatchResult r (λ s. IsLongWritten kind code hrp values (bytes s)) (λ e. IsNotWritten kind code hrp values e)
      → IsTextOrRefusal bytes kind code hrp values r
  of_same values (Ok s) h = h
  of_same values (Err e) h = (e, h, refl)

  -- of the front of a room
  pub of_front : (room given values : List ℕ) (size : ℕ) (r : Result S Refusal) → code.code_length ≤ length room
      → (size ≤ length room → given ≡ take size room) → (length room < size → given ≡ room)
      → MatchResult r (λ s. IsLongWritten kind code hrp given (bytes s)) (λ e. IsNotWritten kind code hrp given e)
      → size ≡ length values → (size ≤ length room → take size room ≡ values) → IsTextOrRefusal bytes kind code hrp values r
  of_front room given values size r full fitting all h count there = elim (cases_lt (length room) size) [
    | inl more ↦
        let whole : given ≡ room = all more in
        of_more given values r (omega (arith, ap (λ (l : List ℕ). length l) whole, full)) (omega (arith, more, count, full)) h
    | inr fits ↦
        let same : given ≡ values = fitting fits ∙ there fits in
        of_same values r (subst (λ (l : List ℕ). MatchResult r (λ s. IsLongWritten kind code hrp l (bytes s)) (λ e. IsNotWritten kind code hrp l e)) same h)
  ]

-- the same of a refusal alone
pub refused_front : (kind : Kind) (code : Code) (hrp : List ℕ) → code.code_length ≤ max_long_text_length → (room given values : List ℕ) (size : ℕ) (e : Refusal) → code.code_length ≤ length room
    → (size ≤ length room → given ≡ take size room) → (length room < size → given ≡ room) → IsNotWritten kind code hrp given e → size ≡ length values
    → (size ≤ length room → take size room ≡ values) → (own : Refusal) × IsNotWritten kind code hrp values own × (number_of_reply e ≡ number_of_reply own)
refused_front kind code hrp short room given values size e full fitting all h count there =
    of_front {S = ℕ} (λ (n : ℕ). []) kind code hrp short room given values size (Err e) full fitting all h count there
