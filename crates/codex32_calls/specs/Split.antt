-- The shares of a secret put into a buffer, and why none are.
use Rattle.std.specs.Prelude.{◌≡◌, ◌≤◌, ◌-◌, ◌*◌, ◌||◌, ℕ, true, false, List, length, Option}
use Rattle.std.specs.Prelude.{None, Some}
use Rattle.bech32_encode.specs.Buffers.{IsPut}
use Rattle.bech32_gf.specs.Fe32.{elements_of}
use Rattle.bech32_hrp.specs.Hrp.{first_of}
use Rattle.codex32.specs.Encode.{is_byte_count, is_long_byte_count}
use Rattle.codex32.specs.HeaderParts.{identifier_elements, identifier_word_fault}
use Rattle.codex32.specs.HeaderParts.{threshold_number}
use Rattle.codex32.specs.Split.{IsSplit, Recovers, are_all_equal, payload_count, split_refusal}
use Rattle.codex32.specs.Split.{text_size}
use Rattle.codex32.specs.declared.error.HeaderError.{HeaderError}
use Rattle.codex32.specs.declared.error.SplitError.{SplitError}
use Rattle.codex32.specs.declared.identifier.Identifier.{Identifier}
use Rattle.codex32.specs.declared.threshold.Threshold.{Threshold}
use Rattle.codex32_calls.specs.Encode.{threshold_number_fault}
use Rattle.codex32_calls.specs.declared.refusal.Refusal.{Refusal}
use Rattle.codex32_calls.specs.declared.refusal.Refusal.TheVariants as refusals

-- what is wrong with what the shares have in common, the first of: the threshold, the identifier
abbrev pub set_number_fault : ℕ → List ℕ → Option HeaderError
set_number_fault threshold identifier =
    first_of (threshold_number_fault threshold) (identifier_word_fault identifier)

-- The shares of a secret are put into a buffer, `count` of `n` characters each, one behind another,
-- with the threshold of this number and the identifier of these characters. Whichever of them
-- recover the secret, as many as the threshold.
pub record PutsSplit (threshold : ℕ) (identifier secret random : List ℕ) (count : ℕ)
    (old new : List ℕ) (n : ℕ) : Type 0 where
  pub fine : set_number_fault threshold identifier ≡ None
  pub t : Threshold
  pub i : Identifier
  pub threshold_is : threshold_number t ≡ threshold
  pub identifier_is : identifier_elements i ≡ elements_of identifier
  pub texts : List ℕ
  pub is_split : IsSplit t i secret random count n texts
  pub recovers : Recovers t i secret count n texts
  pub size : n ≡ text_size (length secret)
  pub put : IsPut texts old new (count * n)

-- Nothing is wrong with what the shares have in common; the threshold is not 0; a string has as
-- many bytes as the secret; the shares are at least as many as the threshold, and at most 31; there
-- is a random byte for each character of the payloads that are drawn; these are not all equal; and
-- a buffer of `room` bytes has room for the shares.
pub record CanSplit (threshold : ℕ) (identifier secret random : List ℕ) (count room : ℕ)
    : Type 0 where
  pub fine : set_number_fault threshold identifier ≡ None
  pub shared : 1 ≤ threshold
  pub counted : is_byte_count (length secret) || is_long_byte_count (length secret) ≡ true
  pub enough : threshold ≤ count
  pub most : count ≤ 31
  pub drawn : length random ≡ (threshold - 1) * payload_count (length secret)
  pub differ : are_all_equal random ≡ false
  pub fits : count * text_size (length secret) ≤ room

-- why no secret is split by the threshold of this number, with a buffer of `room` bytes
pub record IsSplitRefusal (threshold : ℕ) (secret random : List ℕ) (count room : ℕ)
    (e : SplitError) : Type 0 where
  pub t : Threshold
  pub threshold_is : threshold_number t ≡ threshold
  pub refusal_is : split_refusal t (length secret) count random room ≡ Some e

-- why none are put into a buffer of `room` bytes, the first of: the threshold and the identifier;
-- that the threshold is 0, the secret's size, the number of shares, that of the random bytes, that
-- these are all equal, too little room
abbrev pub IsSplitFault : ℕ → List ℕ → List ℕ → List ℕ → ℕ → ℕ → Refusal → Type 0
IsSplitFault threshold identifier secret random count room (refusals.Header e) =
    set_number_fault threshold identifier ≡ Some e
IsSplitFault threshold identifier secret random count room (refusals.Split e) =
    (set_number_fault threshold identifier ≡ None)
    × IsSplitRefusal threshold secret random count room e
IsSplitFault threshold identifier secret random count room _ = ⊥
