-- What may be said of a segwit address.
use Rattle.std.proofs.Common.{◌≡◌, ℕ, ◌≤◌, ◌++◌, ◌∷◌, ◌==◌, Bool, true, false, cond, List, length, length-append, refl, ap, codes, arith, inl, inr, Some, None}
use Rattle.std.proofs.lemmas.List.{length-map}
use Rattle.std.specs.Char.{to_ascii_lowercase}
use Rattle.std.specs.Fmt.{decimal}
use Rattle.bech32_gf.specs.declared.gf32.Fe32.{Fe32}
use Rattle.bech32_bits.specs.Bits.{to_fes}
use Rattle.bech32_checksum.specs.Code.{bech32, bech32m}
use Rattle.bech32_hrp.specs.Hrp.{lowered, hrp_refusal}
use Rattle.bech32_hrp.specs.declared.Error.{Error as HrpError}
use Rattle.bech32_decode.specs.Segwit.{segwit_code, IsLowerAddress, IsAddress}
use Rattle.bech32_segwit.specs.declared.error.EncodeError.{EncodeError}
use Rattle.bech32_checksum.proofs.Uniqueness.{length-encoded}
use Rattle.b32_replies.specs.Hex.{bytes_of, hex_of}
use Rattle.bech32_numbers.specs.Numbers.{number_of_hrp_error, number_of_segwit_encode_error}
use Rattle.line_program.specs.Refused.{err}
use Rattle.b32_replies.specs.Reply.{IsEncodedAddressFault, IsVersionWord, IsNoVersion, IsSegwitEncodeAnswer}
use Rattle.b32_replies.proofs.Sizes.{length-hex_of}
use Rattle.b32_replies.proofs.VersionWords.{length-version}
use Rattle.bech32_refusals.specs.SegwitRules.{max_address_length, max_program_length}

-- ---- the answer to `segwit-encode`

module _ (hrp word hex : List ℕ) where
  pub says-bad_number : IsNoVersion word → IsSegwitEncodeAnswer hrp word hex (err 4)
  says-bad_number none = inl (none, refl)

  module _ (version : Fe32) (is : IsVersionWord word version) where
    pub says-bad_hex : bytes_of hex ≡ None → IsSegwitEncodeAnswer hrp word hex (err 5)
    says-bad_hex none = inr (version, is, rw none refl)

    module _ (program : List ℕ) (some : bytes_of hex ≡ Some program) where
      pub says-bad_hrp : (e : HrpError) → hrp_refusal hrp ≡ Some e → IsSegwitEncodeAnswer hrp word hex (err (number_of_hrp_error e))
      says-bad_hrp e refused = inr (version, is, rw (some, refused) refl)

      pub says-address : (text : List ℕ) → hrp_refusal hrp ≡ None → IsLowerAddress hrp version program text → IsSegwitEncodeAnswer hrp word hex (codes "ok " ++ text)
      says-address text fine address = inr (version, is, rw (some, fine) (inl (record { text = text; is_address = address; spelling = refl })))

      pub says-no_address : (e : EncodeError) → hrp_refusal hrp ≡ None → IsEncodedAddressFault hrp version program e
          → IsSegwitEncodeAnswer hrp word hex (err (number_of_segwit_encode_error e))
      says-no_address e fine refusal = inr (version, is, rw (some, fine) (inr (record { error = e; is_refusal = refusal; spelling = refl })))

-- ---- the answer to `segwit-decode`

-- the parts of an address
pub address-sizes : (text hrp : List ℕ) (version : Fe32) (program : List ℕ) → IsAddress hrp version program text → (length hrp ≤ 83) × (length program ≤ max_program_length)
address-sizes text hrp version program a =
    let few : length a.lower ≤ max_address_length = a.address.text_length in
    let size = length-encoded (segwit_code version) hrp (version ∷ to_fes program) a.lower a.address.encoded in
    let six = degree (version.value == 0) in
    (omega arith, a.address.program_length.not_long)
  where
    degree : (b : Bool) → length (cond b bech32 bech32m).generator ≡ 6
    degree true = refl
    degree false = refl

-- the reply to an address
pub segwit-decode-size : (text hrp : List ℕ) (version : Fe32) (program : List ℕ) → IsAddress hrp version program text
    → length (codes "ok " ++ (lowered hrp ++ (32 ∷ (decimal version.value ++ (32 ∷ hex_of program))))) ≤ 2047
segwit-decode-size text hrp version program a =
    let (part, rest) = address-sizes text hrp version program a in
    omega (
      arith,
      part,
      rest,
      length-hex_of program,
      length-version version,
      length-append (codes "ok ") (lowered hrp ++ (32 ∷ (decimal version.value ++ (32 ∷ hex_of program)))),
      length-append (lowered hrp) (32 ∷ (decimal version.value ++ (32 ∷ hex_of program))),
      length-append (decimal version.value) (32 ∷ hex_of program),
      length-map hrp to_ascii_lowercase,
    )
