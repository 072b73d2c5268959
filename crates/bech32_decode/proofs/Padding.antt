-- The bits of elements behind those of whole bytes.
use Rattle.std.proofs.Common.{◌≡◌, ℕ, zero, suc, ◌+◌, ◌-◌, ◌*◌, ◌/◌, ◌%◌, ◌^◌, ◌<◌, ◌≤◌, List, [], ◌∷◌, ◌++◌, Some, length, drop, replicate, slice_get, refl, sym, ap, ◌∙◌, arith, length-append, length-drop, append_assoc}
use Rattle.std.proofs.lemmas.List.{drop_at, length-map, length-replicate, map-append}
use Rattle.std.specs.Int.{bit_at}
use Rattle.bech32_gf.specs.Fe32.{element, element_of, elements_of, path}
use Rattle.bech32_gf.specs.declared.gf32.Fe32.{Fe32}
use Rattle.bech32_bits.specs.Bits.{bits, byte_bits, fe_bits, cut_in_fives, cut_in_eights, to_fes, to_bytes}
use Rattle.bech32_bits.proofs.BitLists.{cut-five, AreBits, AreBits-fe_bits, AreBits-byte_bits}
use Rattle.bech32_bits.proofs.RoundTrip.{fe_bits-cut, length-byte_bits, length-fe_bits}
use Rattle.bech32_decode.specs.SegwitPadding.{padding, IsPadded}

fe_bits-append : (xs ys : List Fe32) → fe_bits (xs ++ ys) ≡ fe_bits xs ++ fe_bits ys
fe_bits-append [] ys = refl
fe_bits-append (x ∷ xs) ys = ap (λ (l : List ℕ). bits 5 x.value ++ l) (fe_bits-append xs ys) ∙ sym (append_assoc (bits 5 x.value) (fe_bits xs) (fe_bits ys))

-- how many there are
pub padding-length : (fes : List Fe32) → length (padding fes) ≡ 5 * length fes % 8
padding-length fes =
    let all : length (fe_bits fes) ≡ 5 * length fes = length-fe_bits fes in
    let rest : length (padding fes) ≡ length (fe_bits fes) - 8 * (length (fe_bits fes) / 8) = length-drop (8 * (length (fe_bits fes) / 8)) (fe_bits fes) in
    omega arith

drop-add : (m j : ℕ) (xs ys : List ℕ) → length xs ≡ m → drop (m + j) (xs ++ ys) ≡ drop j ys
drop-add m j [] ys e = let z : m + j ≡ j = omega arith in ap (λ (k : ℕ). drop k ys) z
drop-add m j (x ∷ xs) ys e =
    let more : m + j ≡ suc (length xs + j) = omega arith in
    ap (λ (k : ℕ). drop k (x ∷ (xs ++ ys))) more ∙ drop-add (length xs) j xs ys refl

last-bits : (k v : ℕ) → k ≤ 4 → drop (5 - k) (bits 5 v) ≡ bits k v
last-bits zero v h = refl
last-bits (suc zero) v h = refl
last-bits (suc (suc zero)) v h = refl
last-bits (suc (suc (suc zero))) v h = refl
last-bits (suc (suc (suc (suc zero)))) v h = refl
last-bits (suc (suc (suc (suc (suc k))))) v h = absurd (omega arith)

-- up to four of them are the lowest bits of the last element
pub padding-last : (front : List Fe32) (x : Fe32) (k : ℕ) → k ≡ 5 * length (front ++ x ∷ []) % 8 → k ≤ 4 → padding (front ++ x ∷ []) ≡ bits k x.value
padding-last front x k e few =
    let fes = front ++ x ∷ [] in
    let all : length (fe_bits fes) ≡ 5 * length fes = length-fe_bits fes in
    let size : length fes ≡ length front + 1 = length-append front (x ∷ []) in
    let before : length (fe_bits front) ≡ 5 * length front = length-fe_bits front in
    let at : 8 * (length (fe_bits fes) / 8) ≡ 5 * length front + (5 - k) = omega arith in
    ap (λ (n : ℕ). drop n (fe_bits fes)) at
    ∙ ap (drop (5 * length front + (5 - k))) (fe_bits-append front (x ∷ []))
    ∙ drop-add (5 * length front) (5 - k) (fe_bits front) (bits 5 x.value) before
    ∙ last-bits k x.value few

-- the last character of some
last-split : (xs : List ℕ) (c : ℕ) → slice_get xs (length xs - 1) ≡ Some c → (front : List ℕ) × (xs ≡ front ++ c ∷ [])
last-split [] c h = absurd cc
last-split (x ∷ []) c h = let same : x ≡ c = cc in ([], ap (λ (n : ℕ). n ∷ []) same)
last-split (x ∷ y ∷ ys) c h =
    let at : length (x ∷ y ∷ ys) - 1 ≡ suc (length (y ∷ ys) - 1) = omega arith in
    let (front, e) = last-split (y ∷ ys) c (ap (slice_get (x ∷ y ∷ ys)) (sym at) ∙ h) in
    (x ∷ front, ap (λ (l : List ℕ). x ∷ l) e)

-- of characters: up to four of them are the lowest bits of the last one's element
pub padding-characters : (characters : List ℕ) (c k : ℕ) → slice_get characters (length characters - 1) ≡ Some c → k ≡ length characters % 8 * 5 % 8 → k ≤ 4
    → padding (elements_of characters) ≡ bits k (element_of c).value
padding-characters characters c k h e few =
    let (front, split) = last-split characters c h in
    let fes : List Fe32 = elements_of front ++ element_of c ∷ [] in
    let same : elements_of characters ≡ fes = ap elements_of split ∙ map-append element_of front (c ∷ []) in
    let size : length fes ≡ length characters = ap length (sym same) ∙ length-map characters element_of in
    ap padding same ∙ padding-last (elements_of front) (element_of c) k (omega arith) few

pub characters-length : (characters : List ℕ) → length (padding (elements_of characters)) ≡ length characters % 8 * 5 % 8
characters-length characters =
    let size : length (elements_of characters) ≡ length characters = length-map characters element_of in
    let there : length (padding (elements_of characters)) ≡ 5 * length (elements_of characters) % 8 = padding-length (elements_of characters) in
    omega arith

-- the mask of the lowest k bits, as it is computed
pub shifted : (k : ℕ) → k ≤ 4 → (1 * 2 ^ k) % 256 ≡ 2 ^ k
shifted zero h = refl
shifted (suc zero) h = refl
shifted (suc (suc zero)) h = refl
shifted (suc (suc (suc zero))) h = refl
shifted (suc (suc (suc (suc zero)))) h = refl
shifted (suc (suc (suc (suc (suc k))))) h = absurd (omega arith)

pub zeros-from : (k v : ℕ) → k ≤ 4 → v % 2 ^ k ≡ 0 → bits k v ≡ replicate k 0
zeros-from zero v h e = refl
zeros-from (suc zero) v h e = let a : bit_at v 0 ≡ 0 = omega arith in cc
zeros-from (suc (suc zero)) v h e =
    let a : bit_at v 0 ≡ 0 = omega arith in
    let b : bit_at v 1 ≡ 0 = omega arith in
    cc
zeros-from (suc (suc (suc zero))) v h e =
    let a : bit_at v 0 ≡ 0 = omega arith in
    let b : bit_at v 1 ≡ 0 = omega arith in
    let c : bit_at v 2 ≡ 0 = omega arith in
    cc
zeros-from (suc (suc (suc (suc zero)))) v h e =
    let a : bit_at v 0 ≡ 0 = omega arith in
    let b : bit_at v 1 ≡ 0 = omega arith in
    let c : bit_at v 2 ≡ 0 = omega arith in
    let d : bit_at v 3 ≡ 0 = omega arith in
    cc
zeros-from (suc (suc (suc (suc (suc k))))) v h e = absurd (omega arith)

pub zeros-to : (k v : ℕ) → k ≤ 4 → bits k v ≡ replicate k 0 → v % 2 ^ k ≡ 0
zeros-to zero v h e = omega arith
zeros-to (suc zero) v h e = let a : bit_at v 0 ≡ 0 = cc in omega arith
zeros-to (suc (suc zero)) v h e =
    let a : bit_at v 0 ≡ 0 = cc in
    let b : bit_at v 1 ≡ 0 = cc in
    omega arith
zeros-to (suc (suc (suc zero))) v h e =
    let a : bit_at v 0 ≡ 0 = cc in
    let b : bit_at v 1 ≡ 0 = cc in
    let c : bit_at v 2 ≡ 0 = cc in
    omega arith
zeros-to (suc (suc (suc (suc zero)))) v h e =
    let a : bit_at v 0 ≡ 0 = cc in
    let b : bit_at v 1 ≡ 0 = cc in
    let c : bit_at v 2 ≡ 0 = cc in
    let d : bit_at v 3 ≡ 0 = cc in
    omega arith
zeros-to (suc (suc (suc (suc (suc k))))) v h e = absurd (omega arith)

-- ---- elements as bytes and back

eight-back : (a b c d e f g h : ℕ) (rest : List ℕ) → AreBits (a ∷ b ∷ c ∷ d ∷ e ∷ f ∷ g ∷ h ∷ rest)
    → bits 8 (128 * a + 64 * b + 32 * c + 16 * d + 8 * e + 4 * f + 2 * g + h) ≡ a ∷ b ∷ c ∷ d ∷ e ∷ f ∷ g ∷ h ∷ []
eight-back a b c d e f g h rest i =
    let n = 128 * a + 64 * b + 32 * c + 16 * d + 8 * e + 4 * f + 2 * g + h in
    let p : a < 2 = i.0 in
    let q : b < 2 = i.1.0 in
    let r : c < 2 = i.1.1.0 in
    let s : d < 2 = i.1.1.1.0 in
    let t : e < 2 = i.1.1.1.1.0 in
    let u : f < 2 = i.1.1.1.1.1.0 in
    let v : g < 2 = i.1.1.1.1.1.1.0 in
    let w : h < 2 = i.1.1.1.1.1.1.1.0 in
    let one : bit_at n 7 ≡ a = omega arith in
    let two : bit_at n 6 ≡ b = omega arith in
    let three : bit_at n 5 ≡ c = omega arith in
    let four : bit_at n 4 ≡ d = omega arith in
    let five : bit_at n 3 ≡ e = omega arith in
    let six : bit_at n 2 ≡ f = omega arith in
    let seven : bit_at n 1 ≡ g = omega arith in
    let eight : bit_at n 0 ≡ h = omega arith in
    cc

-- the bits are those of the bytes that are cut, and then the rest
bits-cut : (bs : List ℕ) → AreBits bs → bs ≡ byte_bits (cut_in_eights bs) ++ drop (8 * (length bs / 8)) bs
bits-cut [] i = refl
bits-cut (a ∷ []) i = refl
bits-cut (a ∷ b ∷ []) i = refl
bits-cut (a ∷ b ∷ c ∷ []) i = refl
bits-cut (a ∷ b ∷ c ∷ d ∷ []) i = refl
bits-cut (a ∷ b ∷ c ∷ d ∷ e ∷ []) i = refl
bits-cut (a ∷ b ∷ c ∷ d ∷ e ∷ f ∷ []) i = refl
bits-cut (a ∷ b ∷ c ∷ d ∷ e ∷ f ∷ g ∷ []) i = refl
bits-cut (a ∷ b ∷ c ∷ d ∷ e ∷ f ∷ g ∷ h ∷ rest) i =
    let n = length rest in
    let at : 8 * (suc (suc (suc (suc (suc (suc (suc (suc n))))))) / 8) ≡ suc (suc (suc (suc (suc (suc (suc (suc (8 * (n / 8))))))))) = omega arith in
    let more : rest ≡ byte_bits (cut_in_eights rest) ++ drop (8 * (n / 8)) rest = bits-cut rest i.1.1.1.1.1.1.1.1 in
    let byte : List ℕ = bits 8 (128 * a + 64 * b + 32 * c + 16 * d + 8 * e + 4 * f + 2 * g + h) in
    ap (λ (l : List ℕ). a ∷ b ∷ c ∷ d ∷ e ∷ f ∷ g ∷ h ∷ l) more
    ∙ ap (λ (l : List ℕ). l ++ (byte_bits (cut_in_eights rest) ++ drop (8 * (n / 8)) rest)) (sym (eight-back a b c d e f g h rest i))
    ∙ sym (append_assoc byte (byte_bits (cut_in_eights rest)) (drop (8 * (n / 8)) rest))
    ∙ ap (λ (k : ℕ). (byte ++ byte_bits (cut_in_eights rest)) ++ drop k (a ∷ b ∷ c ∷ d ∷ e ∷ f ∷ g ∷ h ∷ rest)) (sym at)

pub fives-back : (fes : List Fe32) → cut_in_fives (fe_bits fes) ≡ fes
fives-back [] = refl
fives-back (x ∷ fes) =
    let lt : x.value < 32 = x.in_field in
    let same : element x.value ≡ x = path (element x.value) x (omega arith) in
    cut-five x.value (fe_bits fes) ∙ ap (λ (y : Fe32). y ∷ cut_in_fives (fe_bits fes)) same ∙ ap (λ (l : List Fe32). x ∷ l) (fives-back fes)

-- zeros at the end add no element, where fewer than five of them fill the last one
fill : (bs : List ℕ) (k : ℕ) → k < 5 → (length bs + k) % 5 ≡ 0 → cut_in_fives (bs ++ replicate k 0) ≡ cut_in_fives bs
fill [] k few e = let none : k ≡ 0 = omega arith in ap (λ (n : ℕ). cut_in_fives (replicate n 0)) none
fill (a ∷ []) k few e =
    let is : k ≡ 4 = omega arith in
    ap (λ (n : ℕ). cut_in_fives (a ∷ replicate n 0)) is ∙ ap (λ (n : ℕ). element n ∷ []) (omega arith)
fill (a ∷ b ∷ []) k few e =
    let is : k ≡ 3 = omega arith in
    ap (λ (n : ℕ). cut_in_fives (a ∷ b ∷ replicate n 0)) is ∙ ap (λ (n : ℕ). element n ∷ []) (omega arith)
fill (a ∷ b ∷ c ∷ []) k few e =
    let is : k ≡ 2 = omega arith in
    ap (λ (n : ℕ). cut_in_fives (a ∷ b ∷ c ∷ replicate n 0)) is ∙ ap (λ (n : ℕ). element n ∷ []) (omega arith)
fill (a ∷ b ∷ c ∷ d ∷ []) k few e =
    let is : k ≡ 1 = omega arith in
    ap (λ (n : ℕ). cut_in_fives (a ∷ b ∷ c ∷ d ∷ replicate n 0)) is ∙ ap (λ (n : ℕ). element n ∷ []) (omega arith)
fill (a ∷ b ∷ c ∷ d ∷ e ∷ rest) k few h =
    let more : (length rest + k) % 5 ≡ 0 = omega arith in
    ap (λ (l : List Fe32). element (16 * a + 8 * b + 4 * c + 2 * d + e) ∷ l) (fill rest k few more)

-- padded elements are those of their bytes
pub to_fes-to_bytes : (fes : List Fe32) → IsPadded fes → to_fes (to_bytes fes) ≡ fes
to_fes-to_bytes fes h =
    let k = length (padding fes) in
    let bs = byte_bits (to_bytes fes) in
    let whole : fe_bits fes ≡ bs ++ replicate k 0 = bits-cut (fe_bits fes) (AreBits-fe_bits fes) ∙ ap (λ (l : List ℕ). bs ++ l) h.zeros in
    let few : k ≤ 4 = h.few in
    let all : length (fe_bits fes) ≡ 5 * length fes = length-fe_bits fes in
    let zs : List ℕ = replicate k 0 in
    let left : length (fe_bits fes) ≡ length bs + length zs = ap length whole ∙ length-append bs zs in
    let zeros : length zs ≡ k = length-replicate k 0 in
    let five : (length bs + k) % 5 ≡ 0 = omega arith in
    sym (fill bs k (omega arith) five) ∙ ap cut_in_fives (sym whole) ∙ fives-back fes

-- the elements of bytes are padded
pub padded-to_fes : (bytes : List ℕ) → IsPadded (to_fes bytes)
padded-to_fes bytes =
    let (k, below, more) = fe_bits-cut (byte_bits bytes) (AreBits-byte_bits bytes) in
    let all : length (byte_bits bytes) ≡ 8 * length bytes = length-byte_bits bytes in
    let zs : List ℕ = replicate k 0 in
    let zeros : length zs ≡ k = length-replicate k 0 in
    let size : length (fe_bits (to_fes bytes)) ≡ length (byte_bits bytes) + length zs = ap length more ∙ length-append (byte_bits bytes) zs in
    let at : 8 * (length (fe_bits (to_fes bytes)) / 8) ≡ 8 * length bytes = omega arith in
    let rest : padding (to_fes bytes) ≡ replicate k 0 =
    ap (λ (n : ℕ). drop n (fe_bits (to_fes bytes))) at ∙ ap (drop (8 * length bytes)) more ∙ drop_at (byte_bits bytes) (replicate k 0) (8 * length bytes) all in
    let few : length (padding (to_fes bytes)) ≡ k = ap length rest ∙ zeros in
    record { few = omega arith; zeros = rest ∙ ap (λ (n : ℕ). replicate n 0) (sym few) }
