-- What is said of an address.
use Rattle.std.proofs.Common.{◌≡◌, ◌≢◌, ◌∙◌, ◌==◌, Bool, true, false, ℕ, List, [], if◌then◌else◌, length, inl, inr, refl, sym, ap, arith}
use Rattle.bech32_bits.specs.Bits.{to_bytes}
use Rattle.bech32_gf.specs.Fe32.{elements_of}
use Rattle.bech32_gf.specs.declared.gf32.Fe32.{Fe32}
use Rattle.bech32_decode.specs.Segwit.{IsAddress, segwit_code}
use Rattle.bech32_decode.specs.SegwitParts.{IsReadIn}
use Rattle.bech32_decode.proofs.Addresses.{address-from_parts}
use Rattle.bech32_segwit.proofs.SegwitEncoding.{one_spelling}
use Rattle.bech32_calls.specs.Numbers.{number_of}
use Rattle.bech32_calls.specs.Segwit.{IsSegwitDecodeFault}
use Rattle.bech32_calls.specs.declared.refusal.Refusal.{Refusal}
use Rattle.bech32_calls.proofs.Addresses.{no_segwit_decode_fault}
use Rattle.bech32_more_calls.specs.columns.Arrays.{if_wanted}
use Rattle.bech32_more_calls.specs.columns.Decoded.{HasAddressParts, IsDecodedText, IsWanted}
use Rattle.bech32_more_calls.proofs.Small.{not_other}

-- an address that was read has these parts
pub parts-from_read : (text part : List ℕ) (v : Fe32) (characters : List ℕ) → IsReadIn segwit_code text part v characters
    → HasAddressParts text part v.value (to_bytes (elements_of characters))
parts-from_read text part v characters h =
    let found : List ℕ = to_bytes (elements_of characters) in
    let is : IsAddress part v found text = address-from_parts text part v characters h in
    record {
      witness_version = v;
      is_hrp = h.accepted.grammar.is_hrp;
      has_part = (h.data_part, h.accepted.grammar);
      is_address = is;
      spelling = λ x t same a. one_spelling x part v found t text same a is;
      version_is = refl;
    }

module _ (hrp text part : List ℕ) (version : ℕ) (program : List ℕ) (p : HasAddressParts text part version program) where
  -- with the human-readable part that is wanted
  pub said-wanted : (n : ℕ) → n ≡ length part → IsWanted hrp part → IsDecodedText hrp text (record { number = 0; version = version; hrp_length = n; program = program })
  said-wanted n is wanted = record {
    value = λ z. record { part = part; parts = p; length_is = is; wanted = wanted };
    other = λ e. absurd (omega (arith, e));
    refused = λ nz. absurd (nz refl);
    accepts = λ can. inl refl;
    nothing = λ nz. absurd (nz refl);
  }

  -- with another
  pub said-other : (IsWanted hrp part → ⊥) → (rest : List ℕ) → rest ≡ [] → IsDecodedText hrp text (record { number = 49; version = 0; hrp_length = 0; program = rest })
  said-other other rest none = record {
    value = λ e. absurd (omega (arith, e));
    other = λ e. record { part = part; version = version; program = program; parts = p; other = other };
    refused = λ nz no. absurd (no refl);
    accepts = λ can. inr refl;
    nothing = λ nz. (refl, refl, none);
  }

-- what is said of a text that is no address
pub said-refused : (hrp text : List ℕ) (e : Refusal) → IsSegwitDecodeFault text 83 40 e → (number : ℕ) → number ≡ number_of e → number ≢ 0 → (rest : List ℕ) → rest ≡ []
    → IsDecodedText hrp text (record { number = number; version = 0; hrp_length = 0; program = rest })
said-refused hrp text e fault number is some rest none = record {
  value = λ z. absurd (some z);
  other = λ z. absurd (not_other text 83 40 e fault (sym is ∙ z));
  refused = λ nz no. record { refusal = e; holds = fault; number = is };
  accepts = λ can. absurd (no_segwit_decode_fault text 83 40 e can fault);
  nothing = λ nz. (refl, refl, none);
}

program-if : (b : Bool) (characters : List ℕ) → to_bytes (elements_of (if b then [] else characters)) ≡ (if b then [] else to_bytes (elements_of characters))
program-if true characters = refl
program-if false characters = refl

-- the bytes of the characters that are kept are the program, where there is room for offsets
pub program-from_kept : (offsets characters kept : List ℕ) → kept ≡ (if length offsets == 0 then [] else characters)
    → to_bytes (elements_of kept) ≡ if_wanted offsets (to_bytes (elements_of characters))
program-from_kept offsets characters kept is = ap (λ (l : List ℕ). to_bytes (elements_of l)) is ∙ program-if (length offsets == 0) characters
