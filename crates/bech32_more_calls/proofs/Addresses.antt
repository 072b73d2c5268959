-- Confidential addresses put into buffers, and that nothing is wrong where there is one and room for it.
use Rattle.std.proofs.Common.{◌≡◌, ◌<◌, ◌≤◌, ℕ, List, length, inl, inr, refl, sym, subst, arith, ⊎_elim}
use Rattle.bech32_gf.specs.Fe32.{element}
use Rattle.bech32_gf.specs.declared.gf32.Fe32.{Fe32}
use Rattle.bech32_hrp.specs.Hrp.{IsHrp}
use Rattle.bech32_encode.specs.Buffers.{IsPut}
use Rattle.bech32_calls.specs.declared.refusal.Refusal.{Refusal as OtherRefusal}
use Rattle.bech32_calls.specs.declared.refusal.Refusal.TheVariants.{NotUtf8, NoRoom}
use Rattle.bech32_calls.proofs.Letters.{IsUtf8-from_text, no_part_fault}
use Rattle.blech32.specs.Words.{blech32_code}
use Rattle.liquid.specs.Confidential.{IsConfidentialText}
use Rattle.liquid.specs.Parts.{confidential_key, confidential_part, confidential_program, confidential_version}
use Rattle.liquid.specs.Writing.{IsVersionAndLength, confidential_length}
use Rattle.liquid.specs.declared.address.Address.{Address}
use Rattle.liquid.proofs.Refused.{grammar-from_address, no_refusal}
use Rattle.liquid.proofs.Written.{only_memory}
use Rattle.bech32_more_calls.specs.confidential.Address.{HasRoomForConfidential, IsConfidentialFault, IsDecodedAs, IsGivenFault, IsLiquidDecodeFault, IsLiquidEncodeFault, LacksRoomForParts, PutsParts}
use Rattle.bech32_more_calls.specs.declared.confidential.refusal.Refusal.{Refusal}
use Rattle.bech32_more_calls.specs.declared.confidential.refusal.Refusal.TheVariants.{Other, NoAddress, Address as NotAddress}

-- ---- encoding

no_given_fault : (hrp : List ℕ) (version : ℕ) (o : OtherRefusal) → IsHrp hrp → version ≤ 31 → IsGivenFault hrp version o → ⊥
no_given_fault hrp version o is small (inl h) = let over : 31 < version = h.0 in omega (arith, small, over)
no_given_fault hrp version o is small (inr h) = no_part_fault hrp o is h.1

no_address_fault : (hrp : List ℕ) (version : Fe32) (n room : ℕ) (e : Refusal) → IsVersionAndLength version n → confidential_length hrp n ≤ room
    → IsConfidentialFault hrp version n room e → ⊥
no_address_fault hrp version n room (NoAddress e) a fits h = h.1 (only_memory version n e a h.0)
no_address_fault hrp version n room (Other NoRoom) a fits h = let over : room < confidential_length hrp n = h.1 in absurd (omega (arith, over, fits))
no_address_fault hrp version n room _ a fits h = h

pub no_encode_fault : (hrp : List ℕ) (version n room : ℕ) (e : Refusal) → HasRoomForConfidential hrp version n room → IsLiquidEncodeFault hrp version n room e → ⊥
no_encode_fault hrp version n room e a (inl (o, is, h)) = no_given_fault hrp version o a.is_hrp a.small h
no_encode_fault hrp version n room e a (inr (small, is, h)) = no_address_fault hrp (element version) n room e a.exists a.has_room h

-- ---- decoding

pub no_decode_fault : (text : List ℕ) (m n : ℕ) (e : Refusal) → IsConfidentialText blech32_code text → 83 ≤ m → 32 ≤ n → IsLiquidDecodeFault text m n e → ⊥
no_decode_fault text m n (Other NotUtf8) a part_fits program_fits h =
    let g = grammar-from_address blech32_code refl refl text a in h (IsUtf8-from_text text g.0 g.1 g.2)
no_decode_fault text m n (NotAddress e) a part_fits program_fits h = no_refusal blech32_code refl refl text e h.0 a h.1
no_decode_fault text m n (Other NoRoom) a part_fits program_fits (b, is, lacks) =
    let part : length (confidential_part b) ≤ 83 = is.is_hrp.not_long in
    let address = is.is_address.address in
    ⊎_elim
    (λ (over : m < length (confidential_part b)). omega (arith, over, part, part_fits))
    (λ (over : n < length (confidential_program b)).
    ⊎_elim
    (λ (size : length (confidential_program b) ≡ 20). omega (arith, over, size, program_fits))
    (λ (size : length (confidential_program b) ≡ 32). omega (arith, over, size, program_fits))
    (address.program_length.of_version_0 address.version_is))
    lacks
no_decode_fault text m n _ a part_fits program_fits h = h

-- the parts that were put are those of the text
pub puts_parts : (text : List ℕ) (a : Address) (hrp hrp' key program program' : List ℕ) (m version n : ℕ) → IsDecodedAs text a → version ≡ (confidential_version a).value
    → IsPut (confidential_part a) hrp hrp' m × (key ≡ confidential_key a) × IsPut (confidential_program a) program program' n → PutsParts text hrp hrp' key program program' m version n
puts_parts text a hrp hrp' key program program' m version n is version_is put = record {
  part = confidential_part a;
  witness_version = confidential_version a;
  found = confidential_program a;
  decoded = rw put.1 is;
  part_put = put.0;
  version_is = version_is;
  found_put = put.2;
}

-- there is no room for the parts
pub lacks_room : (text : List ℕ) (a : Address) (m n : ℕ) (e : Refusal) → IsDecodedAs text a → LacksRoomForParts a m n e → IsLiquidDecodeFault text m n e
lacks_room text a m n e is lack = subst (λ (x : Refusal). IsLiquidDecodeFault text m n x) (sym lack.0) (a, is, lack.1)
