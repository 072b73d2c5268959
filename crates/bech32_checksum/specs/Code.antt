-- What a checksum is to those who read and write texts.
use Rattle.std.specs.Prelude.{ℕ, ◌-◌, ◌^◌, List, [], ◌∷◌, map, length, slice_index_or}
use Rattle.bech32_gf.specs.Fe32 as fe32
use Rattle.bech32_gf.specs.declared.gf32.Fe32.{Fe32}
use Rattle.bech32_poly.specs.Polynomial.{appended}
use Rattle.bech32_poly.specs.Remainder.{IsRemainder}
use Rattle.bech32_checksum.specs.Packed.{digits}

-- The generator and the target of a checksum (BIP-173, Checksum), and how long a text may be. Of
-- the generator, which is monic, these are the lower coefficients; they and the target's have the
-- constant term first, one for each place below the degree. BIP-173 (Bech32) allows texts of at
-- most 90 characters for Bech32. The general calls allow as many as the code length, 1,023, within
-- which the roots still locate errors; so does the Rust crate.
pub record Code : Type 0 where
  pub generator : List Fe32
  pub target : List Fe32
  pub code_length : ℕ

-- the code of packed words (BIP-173, Checksum): the generator's lower coefficients are
-- the digits of the first word
abbrev pub code_of : {R : Type 0} → (R → ℕ) → ℕ → ℕ → List R → R → Code
code_of number code_length degree words target = record {
  generator = digits degree (number (slice_index_or words 0 target));
  target = digits degree (number target);
  code_length = code_length;
}

-- the packed residue is the remainder of p by the generator (BIP-173, Checksum)
abbrev pub IsResidueOf : {R : Type 0} → (R → ℕ) → Code → R → List Fe32 → Type 0
IsResidueOf number code residue p =
    IsRemainder fe32.ops code.generator p (digits (length code.generator) (number residue))

-- whatever polynomial `old` is the residue of, `new` is that of the same
-- with these elements behind it
abbrev pub IsResidueAfter : {R : Type 0} → (R → ℕ) → Code → R → List Fe32 → R → Type 0
IsResidueAfter number code old elements new =
    (p : List Fe32) → IsResidueOf number code old p
    → IsResidueOf number code new (appended p elements)

-- no checksum, which is in no standard: the generator 1 and the target 0, which have no coefficient
-- below the degree 0; the code length is the greatest usize
abbrev pub no_checksum : Code
no_checksum = record { generator = []; target = []; code_length = 2 ^ 64 - 1 }

-- Bech32 (BIP-173, Checksum): the generator x^6 + 29 x^5 + 22 x^4 + 20 x^3 + 21 x^2 + 29 x + 18 and
-- the target 1; the code length is 1023, where a Bech32 text of BIP-173 has at most 90 characters
abbrev pub bech32 : Code
bech32 = record {
  generator = map fe32.element (18 ∷ 29 ∷ 21 ∷ 20 ∷ 22 ∷ 29 ∷ []);
  target = map fe32.element (1 ∷ 0 ∷ 0 ∷ 0 ∷ 0 ∷ 0 ∷ []);
  code_length = 1023;
}

-- Bech32m (BIP-350, Bech32m): Bech32 with the target 0x2bc830a3, whose digits from the
-- highest are 21, 28, 16, 12, 5, 3
abbrev pub bech32m : Code
bech32m = record {
  generator = map fe32.element (18 ∷ 29 ∷ 21 ∷ 20 ∷ 22 ∷ 29 ∷ []);
  target = map fe32.element (3 ∷ 5 ∷ 12 ∷ 16 ∷ 28 ∷ 21 ∷ []);
  code_length = 1023;
}
