-- Why an address is not written.
use Rattle.std.proofs.Common.{Option, Some, None, MatchOption, IfSome, IfNone, subst, ◌≡◌, ◌≢◌, ◌<◌, ◌≤◌, ◌+◌, ◌⊎◌, ℕ, List, [], ◌∷◌, length, inl, inr, refl, arith}
use Rattle.bech32_gf.specs.Fe32.{element}
use Rattle.bech32_gf.specs.declared.gf32.Fe32.{Fe32}
use Rattle.bech32_bits.specs.Bits.{to_fes}
use Rattle.bech32_checksum.proofs.Uniqueness.{length-encoded}
use Rattle.bech32_decode.specs.Segwit.{IsLowerAddress, segwit_code}
use Rattle.bech32_decode.proofs.Addresses.{short}
use Rattle.bech32_segwit.specs.SegwitEncoding.{HasAddress, address_length}
use Rattle.bech32_encode.specs.Buffers.{IsPut}
use Rattle.bech32_calls.specs.Faults.{IsNumberOf}
use Rattle.bech32_calls.specs.Numbers.{number_of}
use Rattle.bech32_calls.specs.Segwit.{IsAddressFault, IsSegwitEncodeFault}
use Rattle.bech32_calls.specs.declared.refusal.Refusal.{Refusal}
use Rattle.bech32_calls.specs.declared.refusal.Refusal.TheVariants.{BadNumber, NoAddress, NoRoom}
use Rattle.bech32_calls.proofs.Addresses.{no_segwit_encode_fault}
use Rattle.bech32_more_calls.specs.columns.Encoded.{IsEncodedProgram, IsWritten, TextRow}
use Rattle.bech32_refusals.specs.SegwitRules.{max_address_length}

written-length : (hrp : List ℕ) (version : Fe32) (program text : List ℕ) → IsLowerAddress hrp version program text → length text ≡ address_length hrp program
written-length hrp version program text a =
    let code = segwit_code version in
    let size : length text ≡ length hrp + 1 + length (version ∷ to_fes program) + length code.generator = length-encoded code hrp (version ∷ to_fes program) text a.encoded in
    let six : length code.generator ≡ 6 = short version in
    omega (arith, size, six)

-- what is put of an address
pub encoded-written : (hrp : List ℕ) (version : ℕ) (program text : List ℕ) → IsWritten hrp version program text → IsEncodedProgram hrp version program (record { number = 0; text = text })
encoded-written hrp version program text w = record {
  value = λ z. w;
  refused = λ nz. absurd (nz refl);
  accepts = λ has. refl;
  nothing = λ nz. absurd (nz refl);
}

-- the address that has no room
abbrev pub Unwritten : List ℕ → ℕ → List ℕ → ℕ → Type 0
Unwritten hrp version program room = (written : List ℕ) × IsEncodedProgram hrp version program (record { number = 0; text = written }) × (room < length written)

pub unwritten : (hrp : List ℕ) (version : ℕ) (program : List ℕ) (room : ℕ) → IsSegwitEncodeFault hrp version program room NoRoom → Unwritten hrp version program room
unwritten hrp version program room (inl h) = absurd (cc (h.1))
unwritten hrp version program room (inr (small, inl h)) = absurd h
unwritten hrp version program room (inr (small, inr (is_hrp, ((text, a), lacks)))) = (
  text,
  encoded-written hrp version program text (record { is_hrp = is_hrp; small = small; is_address = a }),
  omega (arith, written-length hrp (element version) program text a, lacks),
)

-- a fault that is not want of room is one in any room
address_fault : (hrp : List ℕ) (version : Fe32) (program : List ℕ) (room more : ℕ) (e : Refusal) → e ≢ NoRoom → IsAddressFault hrp version program room e → IsAddressFault hrp version program more e
address_fault hrp version program room more (NoAddress e) other h = h
address_fault hrp version program room more NoRoom other h = absurd (other refl)
address_fault hrp version program room more _ other h = absurd h

fault : (hrp : List ℕ) (version : ℕ) (program : List ℕ) (room more : ℕ) (e : Refusal) → e ≢ NoRoom → IsSegwitEncodeFault hrp version program room e → IsSegwitEncodeFault hrp version program more e
fault hrp version program room more e other (inl h) = inl h
fault hrp version program room more e other (inr (small, inl h)) = inr (small, inl h)
fault hrp version program room more e other (inr (small, inr (is, h))) = inr (small, inr (is, address_fault hrp (element version) program room more e other h))

-- what is put where there is no address
pub encoded-refused : (hrp : List ℕ) (version : ℕ) (program : List ℕ) (room : ℕ) (e : Refusal) → e ≢ NoRoom → IsSegwitEncodeFault hrp version program room e
    → (number : ℕ) → number ≡ number_of e → number ≢ 0 → IsEncodedProgram hrp version program (record { number = number; text = [] })
encoded-refused hrp version program room e other h number is some =
    let here : IsSegwitEncodeFault hrp version program max_address_length e = fault hrp version program room max_address_length e other h in
    record {
      value = λ z. absurd (some z);
      refused = λ nz. record { refusal = e; holds = here; number = is };
      accepts = λ has. absurd (no_segwit_encode_fault hrp version program max_address_length e has here);
      nothing = λ nz. refl;
    }

-- what is put of a program that is refused, unless it is for want of room
module _ {T : Type 0} (number_in count_in : T → ℕ) (hrp : List ℕ) (version : ℕ) (program text text' : List ℕ) (e : Refusal)
    (h : IsSegwitEncodeFault hrp version program (length text) e) (same : text' ≡ text) where
  pub refused-value : (r : Option T) → MatchOption r (e ≡ NoRoom) (λ t. (e ≢ NoRoom) × (number_in t ≡ number_of e) × (number_in t ≢ 0) × (count_in t ≡ 0))
      → IfSome r (λ t. (written : List ℕ) × IsEncodedProgram hrp version program (record { number = number_in t; text = written }) × IsPut written text text' (count_in t))
  refused-value None m = tt
  refused-value (Some t) m = ([], encoded-refused hrp version program (length text) e m.0 h (number_in t) m.1 m.2, record { fits = omega arith; buffer = same; count_is = m.3 })

  pub refused-full : (r : Option T) → MatchOption r (e ≡ NoRoom) (λ t. (e ≢ NoRoom) × (number_in t ≡ number_of e) × (number_in t ≢ 0) × (count_in t ≡ 0))
      → IfNone r (Unwritten hrp version program (length text))
  refused-full None m = unwritten hrp version program (length text) (subst (λ (x : Refusal). IsSegwitEncodeFault hrp version program (length text) x) m h)
  refused-full (Some t) m = tt
