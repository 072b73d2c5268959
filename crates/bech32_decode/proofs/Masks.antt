-- Groups of bits in a number, which a mask leaves.
use Rattle.std.specs.Prelude.{bit_and}
use Rattle.std.proofs.Common.{◌≡◌, ◌≤◌, ◌<◌, ◌+◌, ◌-◌, ◌*◌, ◌/◌, ◌%◌, ◌^◌, ℕ, ap, arith, ◌∙◌}
use Rattle.std.proofs.lemmas.Nat.{and_block}
use Rattle.std.proofs.lemmas.Nat.Bits.{and_high}

-- the lowest group, and those above
group : (k i j n m : ℕ) → n ≡ n / 2 ^ k * 2 ^ k + n % 2 ^ k → n % 2 ^ k < 2 ^ k → 2 ^ (i + j) - 2 ^ j < 2 ^ k
    → bit_and n (m * 2 ^ k + (2 ^ (i + j) - 2 ^ j)) ≡ bit_and (n / 2 ^ k) m * 2 ^ k + n % 2 ^ k / 2 ^ j % 2 ^ i * 2 ^ j
group k i j n m whole less fits =
    ap (λ (x : ℕ). bit_and x (m * 2 ^ k + (2 ^ (i + j) - 2 ^ j))) whole
    ∙ and_block k (n / 2 ^ k) m (n % 2 ^ k) (2 ^ (i + j) - 2 ^ j) less fits
    ∙ ap (λ (x : ℕ). bit_and (n / 2 ^ k) m * 2 ^ k + x) (and_high (n % 2 ^ k) i j)

-- the lowest five bits of each second byte
fives : (n : ℕ) → bit_and n 0x001f001f001f001f ≡ n / 2 ^ 48 % 32 * 2 ^ 48 + n / 2 ^ 32 % 32 * 2 ^ 32 + n / 2 ^ 16 % 32 * 2 ^ 16 + n % 32
fives n =
    let a : bit_and n 0x001f001f001f001f ≡ bit_and (n / 2 ^ 16) 0x001f001f001f * 2 ^ 16 + n % 2 ^ 16 / 2 ^ 0 % 2 ^ 5 * 2 ^ 0 =
    group 16 5 0 n 0x001f001f001f (omega arith) (omega arith) (omega arith) in
    let b : bit_and (n / 2 ^ 16) 0x001f001f001f ≡ bit_and (n / 2 ^ 16 / 2 ^ 16) 0x001f001f * 2 ^ 16 + n / 2 ^ 16 % 2 ^ 16 / 2 ^ 0 % 2 ^ 5 * 2 ^ 0 =
    group 16 5 0 (n / 2 ^ 16) 0x001f001f (omega arith) (omega arith) (omega arith) in
    let c : bit_and (n / 2 ^ 16 / 2 ^ 16) 0x001f001f ≡ bit_and (n / 2 ^ 16 / 2 ^ 16 / 2 ^ 16) 0x001f * 2 ^ 16 + n / 2 ^ 16 / 2 ^ 16 % 2 ^ 16 / 2 ^ 0 % 2 ^ 5 * 2 ^ 0 =
    group 16 5 0 (n / 2 ^ 16 / 2 ^ 16) 0x001f (omega arith) (omega arith) (omega arith) in
    let d : bit_and (n / 2 ^ 16 / 2 ^ 16 / 2 ^ 16) 0x001f ≡ n / 2 ^ 16 / 2 ^ 16 / 2 ^ 16 / 2 ^ 0 % 2 ^ 5 * 2 ^ 0 = and_high (n / 2 ^ 16 / 2 ^ 16 / 2 ^ 16) 5 0 in
    omega (arith, a, b, c, d)

-- the lowest ten bits of each half
tens : (n : ℕ) → bit_and n 0x000003ff000003ff ≡ n / 2 ^ 32 % 2 ^ 10 * 2 ^ 32 + n % 2 ^ 10
tens n =
    let a : bit_and n 0x000003ff000003ff ≡ bit_and (n / 2 ^ 32) 0x03ff * 2 ^ 32 + n % 2 ^ 32 / 2 ^ 0 % 2 ^ 10 * 2 ^ 0 =
    group 32 10 0 n 0x03ff (omega arith) (omega arith) (omega arith) in
    let b : bit_and (n / 2 ^ 32) 0x03ff ≡ n / 2 ^ 32 / 2 ^ 0 % 2 ^ 10 * 2 ^ 0 = and_high (n / 2 ^ 32) 10 0 in
    omega (arith, a, b)

-- ---- numbers of eight bytes below 32

-- these are the bytes, the highest first
pub record HasBytes (n a b c d e f g h : ℕ) : Type 0 where
  pub is : n ≡ a * 2 ^ 56 + b * 2 ^ 48 + c * 2 ^ 40 + d * 2 ^ 32 + e * 2 ^ 24 + f * 2 ^ 16 + g * 2 ^ 8 + h * 2 ^ 0

-- none of them is above 31
pub record AreSmall (a b c d e f g h : ℕ) : Type 0 where
  pub first : a ≤ 31
  pub second : b ≤ 31
  pub third : c ≤ 31
  pub fourth : d ≤ 31
  pub fifth : e ≤ 31
  pub sixth : f ≤ 31
  pub seventh : g ≤ 31
  pub last : h ≤ 31

-- each step of putting them together
pub record IsPacked (n a b c d e f g h : ℕ) : Type 0 where
  pub fives_are : bit_and (n / 2 ^ 8) 0x001f001f001f001f ≡ a * 2 ^ 48 + c * 2 ^ 32 + e * 2 ^ 16 + g
  pub tens_are : (t : ℕ) → t ≡ n - bit_and (n / 2 ^ 8) 0x001f001f001f001f * 224
      → bit_and (t / 2 ^ 16) 0x000003ff000003ff ≡ (a * 2 ^ 5 + b) * 2 ^ 32 + (e * 2 ^ 5 + f)

pub packed_steps : (n a b c d e f g h : ℕ) → HasBytes n a b c d e f g h → AreSmall a b c d e f g h → IsPacked n a b c d e f g h
packed_steps n a b c d e f g h bytes small =
    let p : n / 2 ^ 8 / 2 ^ 48 % 32 ≡ a = omega (arith, bytes.is, small.first, small.second, small.third, small.fourth, small.fifth, small.sixth, small.seventh, small.last) in
    let q : n / 2 ^ 8 / 2 ^ 32 % 32 ≡ c = omega (arith, bytes.is, small.first, small.second, small.third, small.fourth, small.fifth, small.sixth, small.seventh, small.last) in
    let r : n / 2 ^ 8 / 2 ^ 16 % 32 ≡ e = omega (arith, bytes.is, small.first, small.second, small.third, small.fourth, small.fifth, small.sixth, small.seventh, small.last) in
    let s : n / 2 ^ 8 % 32 ≡ g = omega (arith, bytes.is, small.first, small.second, small.third, small.fourth, small.fifth, small.sixth, small.seventh, small.last) in
    let are : bit_and (n / 2 ^ 8) 0x001f001f001f001f ≡ a * 2 ^ 48 + c * 2 ^ 32 + e * 2 ^ 16 + g = omega (arith, fives (n / 2 ^ 8), p, q, r, s) in
    record {
      fives_are = are;
      tens_are = λ t t_is.
          let twos : t ≡ (a * 2 ^ 5 + b) * 2 ^ 48 + (c * 2 ^ 5 + d) * 2 ^ 32 + (e * 2 ^ 5 + f) * 2 ^ 16 + (g * 2 ^ 5 + h) = omega (arith, t_is, are, bytes.is) in
          let u : t / 2 ^ 16 / 2 ^ 32 % 2 ^ 10 ≡ a * 2 ^ 5 + b =
          omega (arith, twos, small.first, small.second, small.third, small.fourth, small.fifth, small.sixth, small.seventh, small.last) in
          let v : t / 2 ^ 16 % 2 ^ 10 ≡ e * 2 ^ 5 + f =
          omega (arith, twos, small.first, small.second, small.third, small.fourth, small.fifth, small.sixth, small.seventh, small.last) in
          omega (arith, tens (t / 2 ^ 16), u, v);
    }

-- and the word
pub packed_is : (n t u w a b c d e f g h : ℕ) → HasBytes n a b c d e f g h → AreSmall a b c d e f g h
    → t ≡ n - bit_and (n / 2 ^ 8) 0x001f001f001f001f * 224
    → u ≡ t - bit_and (t / 2 ^ 16) 0x000003ff000003ff * 0xfc00
    → w ≡ u / 2 ^ 32 * 2 ^ 20 + bit_and u 0xffffffff
    → w ≡ a * 2 ^ 35 + b * 2 ^ 30 + c * 2 ^ 25 + d * 2 ^ 20 + e * 2 ^ 15 + f * 2 ^ 10 + g * 2 ^ 5 + h * 2 ^ 0 + 0 * 2 ^ 40
packed_is n t u w a b c d e f g h bytes small t_is u_is w_is =
    let steps = packed_steps n a b c d e f g h bytes small in
    let twos : t ≡ (a * 2 ^ 5 + b) * 2 ^ 48 + (c * 2 ^ 5 + d) * 2 ^ 32 + (e * 2 ^ 5 + f) * 2 ^ 16 + (g * 2 ^ 5 + h) = omega (arith, t_is, steps.fives_are, bytes.is) in
    let fours : u ≡ ((a * 2 ^ 5 + b) * 2 ^ 10 + (c * 2 ^ 5 + d)) * 2 ^ 32 + ((e * 2 ^ 5 + f) * 2 ^ 10 + (g * 2 ^ 5 + h)) = omega (arith, u_is, steps.tens_are t t_is, twos) in
    let low : bit_and u 0xffffffff ≡ u / 2 ^ 0 % 2 ^ 32 * 2 ^ 0 = and_high u 32 0 in
    let high : u / 2 ^ 32 ≡ (a * 2 ^ 5 + b) * 2 ^ 10 + (c * 2 ^ 5 + d) = omega (arith, fours, small.fifth, small.sixth, small.seventh, small.last) in
    let rest : u % 2 ^ 32 ≡ (e * 2 ^ 5 + f) * 2 ^ 10 + (g * 2 ^ 5 + h) = omega (arith, fours, small.fifth, small.sixth, small.seventh, small.last) in
    omega (arith, w_is, low, high, rest)

-- ---- the highest three bits of each byte

next_high : (n b m : ℕ) → b < 256 → bit_and (n * 2 ^ 8 + b) (m * 2 ^ 8 + 0xe0) ≡ bit_and n m * 2 ^ 8 + b / 32 * 32
next_high n b m less =
    let parts : bit_and (n * 2 ^ 8 + b) (m * 2 ^ 8 + 0xe0) ≡ bit_and n m * 2 ^ 8 + bit_and b 0xe0 = and_block 8 n m b 0xe0 less (omega arith) in
    let last : bit_and b 0xe0 ≡ b / 2 ^ 5 % 2 ^ 3 * 2 ^ 5 = and_high b 3 5 in
    omega (arith, parts, last, less)

-- they are those of each byte
pub high_bits : (n a b c d e f g h : ℕ) → HasBytes n a b c d e f g h → a < 256 → b < 256 → c < 256 → d < 256 → e < 256 → f < 256 → g < 256 → h < 256
    → bit_and n 0xe0e0e0e0e0e0e0e0
    ≡ ((((((a / 32 * 32 * 2 ^ 8 + b / 32 * 32) * 2 ^ 8 + c / 32 * 32) * 2 ^ 8 + d / 32 * 32) * 2 ^ 8 + e / 32 * 32) * 2 ^ 8 + f / 32 * 32) * 2 ^ 8 + g / 32 * 32) * 2 ^ 8 + h / 32 * 32
high_bits n a b c d e f g h bytes ha hb hc hd he hf hg hh =
    let n1 : ℕ = a * 2 ^ 8 + b in
    let n2 : ℕ = n1 * 2 ^ 8 + c in
    let n3 : ℕ = n2 * 2 ^ 8 + d in
    let n4 : ℕ = n3 * 2 ^ 8 + e in
    let n5 : ℕ = n4 * 2 ^ 8 + f in
    let n6 : ℕ = n5 * 2 ^ 8 + g in
    let whole : n ≡ n6 * 2 ^ 8 + h = omega (arith, bytes.is) in
    let all : bit_and n 0xe0e0e0e0e0e0e0e0 ≡ bit_and n6 0xe0e0e0e0e0e0e0 * 2 ^ 8 + h / 32 * 32 =
    ap (λ (x : ℕ). bit_and x 0xe0e0e0e0e0e0e0e0) whole ∙ next_high n6 h 0xe0e0e0e0e0e0e0 hh in
    let first : bit_and a 0xe0 ≡ a / 2 ^ 5 % 2 ^ 3 * 2 ^ 5 = and_high a 3 5 in
    omega (
      arith,
      all,
      next_high n5 g 0xe0e0e0e0e0e0 hg,
      next_high n4 f 0xe0e0e0e0e0 hf,
      next_high n3 e 0xe0e0e0e0 he,
      next_high n2 d 0xe0e0e0 hd,
      next_high n1 c 0xe0e0 hc,
      next_high a b 0xe0 hb,
      first,
      ha,
    )

-- where they are zero, none of the bytes is above 31
pub small_bytes : (n a b c d e f g h : ℕ) → HasBytes n a b c d e f g h → a < 256 → b < 256 → c < 256 → d < 256 → e < 256 → f < 256 → g < 256 → h < 256
    → bit_and n 0xe0e0e0e0e0e0e0e0 ≡ 0 → AreSmall a b c d e f g h
small_bytes n a b c d e f g h bytes ha hb hc hd he hf hg hh zero =
    let bits = high_bits n a b c d e f g h bytes ha hb hc hd he hf hg hh in
    record {
      first = omega (arith, bits, zero);
      second = omega (arith, bits, zero);
      third = omega (arith, bits, zero);
      fourth = omega (arith, bits, zero);
      fifth = omega (arith, bits, zero);
      sixth = omega (arith, bits, zero);
      seventh = omega (arith, bits, zero);
      last = omega (arith, bits, zero);
    }

-- and the other way round
pub no_high_bits : (n a b c d e f g h : ℕ) → HasBytes n a b c d e f g h → AreSmall a b c d e f g h → bit_and n 0xe0e0e0e0e0e0e0e0 ≡ 0
no_high_bits n a b c d e f g h bytes small =
    omega (
      arith,
      high_bits n a b c d e f g h bytes (omega (arith, small.first)) (omega (arith, small.second)) (omega (arith, small.third)) (omega (arith, small.fourth))
          (omega (arith, small.fifth)) (omega (arith, small.sixth)) (omega (arith, small.seventh)) (omega (arith, small.last)),
      small.first,
      small.second,
      small.third,
      small.fourth,
      small.fifth,
      small.sixth,
      small.seventh,
      small.last,
    )

-- the bytes of a number of 64 bits
pub bytes_of : (n : ℕ) → n < 2 ^ 64
    → HasBytes n (n / 2 ^ 56) (n / 2 ^ 48 % 256) (n / 2 ^ 40 % 256) (n / 2 ^ 32 % 256) (n / 2 ^ 24 % 256) (n / 2 ^ 16 % 256) (n / 2 ^ 8 % 256) (n % 256)
bytes_of n fits = record { is = omega (arith, fits) }

pub small_bytes_of : (n : ℕ) → n < 2 ^ 64 → bit_and n 0xe0e0e0e0e0e0e0e0 ≡ 0
    → AreSmall (n / 2 ^ 56) (n / 2 ^ 48 % 256) (n / 2 ^ 40 % 256) (n / 2 ^ 32 % 256) (n / 2 ^ 24 % 256) (n / 2 ^ 16 % 256) (n / 2 ^ 8 % 256) (n % 256)
small_bytes_of n fits zero =
    small_bytes n _ _ _ _ _ _ _ _ (bytes_of n fits) (omega (arith, fits)) (omega arith) (omega arith) (omega arith) (omega arith) (omega arith) (omega arith) (omega arith) zero
