-- A secret split into shares (BIP-93, Generating Shares), why it is not, and that they recover it.
use Rattle.std.specs.Prelude.{◌≡◌, ◌<◌, ◌≤◌, ◌+◌, ◌-◌, ◌*◌, ◌==◌, ◌&&◌, ◌||◌, nat_le, ℕ, zero}
use Rattle.std.specs.Prelude.{suc, Bool}
use Rattle.std.specs.Prelude.{List, [], ◌∷◌, length, map, take, drop, slice_index, codes}
use Rattle.std.specs.Prelude.{if◌then◌else◌, Option, None, Some}
use Rattle.std.specs.List.{AllByRecursion, list_all}
use Rattle.bech32_bits.specs.Bits.{fes_count}
use Rattle.bech32_gf.specs.Fe32.{element, element_of}
use Rattle.bech32_gf.specs.declared.gf32.Fe32.{Fe32}
use Rattle.bech32_hrp.specs.Hrp.{first_of}
use Rattle.bech32_poly.specs.Distinct.{IsOnce}
use Rattle.codex32.specs.Derive.{DoContradict, IsDerivedString, IsWholeSet, indices_of}
use Rattle.codex32.specs.Encode.{IsEncodedPayload, IsEncodedString, code_of_byte_count}
use Rattle.codex32.specs.Encode.{code_of_payload_count, is_byte_count}
use Rattle.codex32.specs.Encode.{is_long_byte_count}
use Rattle.codex32.specs.Header.{identifier_of_header, share_index_of_header}
use Rattle.codex32.specs.Header.{threshold_of_header}
use Rattle.codex32.specs.HeaderParts.{secret_index, threshold_number}
use Rattle.codex32.specs.Share.{AreSharesOf, IsEither, IsShareOf, bytes_of_share}
use Rattle.codex32.specs.declared.error.SplitError.{SplitError}
use Rattle.codex32.specs.declared.error.SplitError.TheVariants as refusals
use Rattle.codex32.specs.declared.header.Header.{Header}
use Rattle.codex32.specs.declared.identifier.Identifier.{Identifier}
use Rattle.codex32.specs.declared.share.Share.{Share}
use Rattle.codex32.specs.declared.threshold.Threshold.{Threshold}

-- ---- which shares

-- the characters of the indices of shares, in their order: all of the alphabet but `s`
abbrev pub split_characters : List ℕ
split_characters = codes "acdefghjklmnpqrtuvwxyz023456789"

-- the index of share number j, the first of which is number 0
abbrev pub split_index : ℕ → Fe32
split_index j = element_of (slice_index split_characters j)

-- how many characters the payload of n bytes has
abbrev pub payload_count : ℕ → ℕ
payload_count n = fes_count 0 n

-- how many characters the string of n bytes has: nine up to the share index, those of the payload,
-- and those of the checksum
abbrev pub text_size : ℕ → ℕ
text_size n = 9 + payload_count n + length (code_of_byte_count n).generator

-- share number j of texts of n characters each, one behind another
abbrev pub text_at : ℕ → List ℕ → ℕ → List ℕ
text_at n texts j = take n (drop (j * n) texts)

-- the first of them, as many as the last number says
abbrev pub first_texts : ℕ → List ℕ → ℕ → List (List ℕ)
first_texts n texts zero = []
first_texts n texts (suc k) = take n texts ∷ first_texts n (drop n texts) k

-- ---- what is drawn

-- the elements of the lowest five bits of random bytes
abbrev pub drawn : List ℕ → List Fe32
drawn bytes = map element bytes

-- those of share number j, where each has m
abbrev pub drawn_for : ℕ → List ℕ → ℕ → List Fe32
drawn_for m random j = drawn (take m (drop (j * m) random))

-- how many random bytes there are for a secret of n bytes: one for each character of a payload that
-- is drawn; and of those there are one fewer than the threshold
abbrev pub random_size : Threshold → ℕ → ℕ
random_size t n = (threshold_number t - 1) * payload_count n

-- ---- what the shares are

-- the header has these parts
pub record IsHeaderOfParts (t : Threshold) (i : Identifier) (x : Fe32) (h : Header) : Type 0 where
  pub threshold_is : threshold_of_header h ≡ t
  pub identifier_is : identifier_of_header h ≡ i
  pub share_index_is : share_index_of_header h ≡ x

-- the text is the secret's own string: that of its bytes at the index `s`, with zero bits behind
-- them
pub record IsOwnString (t : Threshold) (i : Identifier) (secret text : List ℕ) : Type 0 where
  pub header : Header
  pub header_is : IsHeaderOfParts t i secret_index header
  pub is_encoded : IsEncodedString header secret text

-- the text is the string of the elements of a payload at the index x
pub record IsPayloadString (t : Threshold) (i : Identifier) (x : Fe32) (payload : List Fe32)
    (text : List ℕ) : Type 0 where
  pub header : Header
  pub header_is : IsHeaderOfParts t i x header
  pub is_encoded : IsEncodedPayload header payload text

-- The texts are `count` shares of the secret, each of n characters, one behind another, each at its
-- index. One fewer than the threshold of them, the first, have payloads that are drawn: the
-- elements of the random bytes in their order. All are what these and the secret's own string give
-- at their indices.
pub record IsSplit (t : Threshold) (i : Identifier) (secret random : List ℕ) (count n : ℕ)
    (texts : List ℕ) : Type 0 where
  pub size : length texts ≡ count * n
  pub n_is : n ≡ text_size (length secret)
  pub own : List ℕ
  pub is_own : IsOwnString t i secret own
  pub are_drawn : (j : ℕ) → j < threshold_number t - 1
      → IsPayloadString t i (split_index j) (drawn_for (payload_count (length secret)) random j)
      (text_at n texts j)
  pub base : List Share
  pub are_base : AreSharesOf (own ∷ first_texts n texts (threshold_number t - 1)) base
  pub are_derived : (j : ℕ) → j < count
      → IsDerivedString base (split_index j) (text_at n texts j)

-- ---- that they recover the secret

-- each of the shares is one of the texts, of which there are `count`, of n characters each
abbrev pub IsTakenFrom : ℕ → List ℕ → ℕ → List Share → Type 0
IsTakenFrom n texts count shares =
    AllByRecursion (λ s. (j : ℕ) × (j < count) × IsShareOf (text_at n texts j) s) shares

-- the shares are a whole set, which does not contradict itself, and give the secret's own string;
-- and the bytes of that are the secret
pub record GiveSecret (t : Threshold) (i : Identifier) (secret : List ℕ) (shares : List Share)
    : Type 0 where
  pub whole : IsWholeSet shares secret_index
  pub agree : DoContradict shares → ⊥
  pub own : List ℕ
  pub is_own : IsOwnString t i secret own
  pub is_derived : IsDerivedString shares secret_index own
  pub is_read : (s : Share) → IsShareOf own s → bytes_of_share s ≡ secret

-- as many of the texts as the threshold or more, no index twice, give the secret, whichever they
-- are
abbrev pub Recovers : Threshold → Identifier → List ℕ → ℕ → ℕ → List ℕ → Type 0
Recovers t i secret count n texts =
    (shares : List Share) → IsTakenFrom n texts count shares → IsOnce (indices_of shares)
    → threshold_number t ≤ length shares → GiveSecret t i secret shares

-- ---- why a secret is not split

-- the threshold is 0: shares are not at `s`
abbrev pub unshared_split_fault : Threshold → Option SplitError
unshared_split_fault t = if threshold_number t == 0 then Some refusals.Unshared else None

-- there are no strings of n bytes
abbrev pub secret_fault : ℕ → Option SplitError
secret_fault n = if is_byte_count n || is_long_byte_count n then None else Some refusals.Size

-- there are fewer shares than the threshold, or more than indices
abbrev pub count_fault : Threshold → ℕ → Option SplitError
count_fault t count =
    if nat_le (threshold_number t) count && nat_le count 31 then None else Some refusals.Count

-- there are not as many random bytes as characters are drawn for a secret of n bytes
abbrev pub random_fault : Threshold → ℕ → List ℕ → Option SplitError
random_fault t n random = if length random == random_size t n then None else Some refusals.Random

-- there are at least two bytes, and each is the first one: a buffer that nobody filled
abbrev pub are_all_equal : List ℕ → Bool
are_all_equal bytes =
    nat_le 2 (length bytes) && list_all (λ b. b == slice_index bytes 0) bytes

-- the random bytes are all equal
abbrev pub equal_fault : List ℕ → Option SplitError
equal_fault random = if are_all_equal random then Some refusals.EqualRandom else None

-- `count` shares of a secret of n bytes do not fit in a buffer of `room` bytes
abbrev pub room_fault : ℕ → ℕ → ℕ → Option SplitError
room_fault n count room = if nat_le (count * text_size n) room then None else Some refusals.NoRoom

-- why a secret of n bytes is not split into `count` shares, with these random bytes, in a buffer of
-- `room` bytes, the first of: the threshold, the secret's size, the number of shares, that of the
-- random bytes, that these are all equal, too little room
abbrev pub split_refusal : Threshold → ℕ → ℕ → List ℕ → ℕ → Option SplitError
split_refusal t n count random room =
    first_of (unshared_split_fault t)
    (first_of (secret_fault n)
    (first_of (count_fault t count)
    (first_of (random_fault t n random)
    (first_of (equal_fault random) (room_fault n count room)))))

-- ---- on the way

-- how many characters the string of a payload of m characters has
abbrev pub string_size : ℕ → ℕ
string_size m = 9 + m + length (code_of_payload_count m).generator

-- ---- on the way

-- the secret's own string, and the first texts, which are as long: strings, whose shares are a
-- whole set at each index and do not contradict each other
pub record AreBase (own texts : List ℕ) (count : ℕ) : Type 0 where
  pub own_is : IsEither own
  pub texts_are : (j : ℕ) → j < count → IsEither (text_at (length own) texts j)
  pub whole : (base : List Share) (x : Fe32)
      → AreSharesOf (own ∷ first_texts (length own) texts count) base → IsWholeSet base x
  pub agree : (base : List Share)
      → AreSharesOf (own ∷ first_texts (length own) texts count) base → DoContradict base → ⊥
