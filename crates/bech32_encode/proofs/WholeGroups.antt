-- The characters of bytes, put into a buffer group by group.
use Rattle.std.proofs.Common.{◌≡◌, ◌∙◌, ℕ, ◌+◌, ◌-◌, ◌*◌, ◌/◌, ◌%◌, ◌<◌, ◌≤◌, List, [], ◌∷◌, ◌++◌, length, take, drop, get_or, map, min, set, refl, sym, ap, subst, arith, append_assoc, length-append}
use Rattle.std.proofs.lemmas.List.{drop-drop, drop-take, drop_at, drop_more, length-drop, length-take, length-take-le, map-append, set_at, take-append-drop, take-take, take_all, take_at}
use Rattle.bech32_gf.specs.declared.gf32.Fe32.{Fe32}
use Rattle.bech32_poly.specs.Polynomial.{appended}
use Rattle.bech32_poly.proofs.Appended.{appended-append}
use Rattle.bech32_bits.specs.Bits.{to_fes}
use Rattle.bech32_bits.proofs.WholeGroups.{eight_of, to_fes-append}
use Rattle.bech32_checksum.specs.Code.{Code, IsResidueOf, IsResidueAfter}
use Rattle.bech32_checksum.specs.Encoded.{char_of_element}
use Rattle.bech32_encode.specs.Buffers.{PutsBehind}

-- ---- groups of five bytes

pub first_five-is : (bs : List ℕ) → 5 ≤ length bs
    → get_or bs 0 0 ∷ get_or bs 1 0 ∷ get_or bs 2 0 ∷ get_or bs 3 0 ∷ get_or bs 4 0 ∷ [] ≡ take 5 bs
first_five-is [] l = absurd (omega arith)
first_five-is (_ ∷ []) l = absurd (omega arith)
first_five-is (_ ∷ _ ∷ []) l = absurd (omega arith)
first_five-is (_ ∷ _ ∷ _ ∷ []) l = absurd (omega arith)
first_five-is (_ ∷ _ ∷ _ ∷ _ ∷ []) l = absurd (omega arith)
first_five-is (_ ∷ _ ∷ _ ∷ _ ∷ _ ∷ bs) l = refl

-- the elements of groups, and of the other bytes
pub fes_halves : (n : ℕ) (bs : List ℕ) → n % 5 ≡ 0 → n ≤ length bs → to_fes bs ≡ to_fes (take n bs) ++ to_fes (drop n bs)
fes_halves n bs w l =
    let whole : length (take n bs) % 5 ≡ 0 = ap (λ (k : ℕ). k % 5) (length-take-le n bs l) ∙ w in
    ap to_fes (sym (take-append-drop n bs)) ∙ to_fes-append (take n bs) (drop n bs) whole

-- the elements of groups, and of one more
pub fes_more : (i : ℕ) (bs rest : List ℕ) → i < length bs / 5 → rest ≡ drop (i * 5) bs
    → to_fes (take ((i + 1) * 5) bs) ≡ to_fes (take (i * 5) bs) ++ to_fes (take 5 rest)
fes_more i bs rest below is =
    let inside : i * 5 + 5 ≤ length bs = omega arith in
    let next : (i + 1) * 5 ≡ i * 5 + 5 = omega arith in
    let whole : (i * 5) % 5 ≡ 0 = omega arith in
    let n : ℕ = i * 5 in
    let size : length (take (n + 5) bs) ≡ n + 5 = length-take-le (n + 5) bs inside in
    ap (λ (k : ℕ). to_fes (take k bs)) next
    ∙ fes_halves n (take (n + 5) bs) whole (omega arith)
    ∙ ap (λ (xs : List ℕ). to_fes xs ++ to_fes (drop n (take (n + 5) bs))) (take-take n (n + 5) bs (omega arith))
    ∙ ap (λ (xs : List ℕ). to_fes (take n bs) ++ to_fes xs) (drop-take n 5 bs ∙ ap (take 5) (sym is))

-- the elements of all groups, and of the other bytes
pub all_fes : (bs rest : List ℕ) → rest ≡ drop (length bs / 5 * 5) bs → to_fes bs ≡ to_fes (take (length bs / 5 * 5) bs) ++ to_fes rest
all_fes bs rest is =
    let n : ℕ = length bs / 5 * 5 in
    let whole : (length bs / 5 * 5) % 5 ≡ 0 = omega arith in
    fes_halves n bs whole (omega arith) ∙ ap (λ (xs : List ℕ). to_fes (take n bs) ++ to_fes xs) (sym is)

-- the characters of elements, and of more
pub characters-append : (xs ys zs : List Fe32) → zs ≡ xs ++ ys → map char_of_element zs ≡ map char_of_element xs ++ map char_of_element ys
characters-append xs ys zs e = ap (map char_of_element) e ∙ map-append char_of_element xs ys

-- ---- what the engine holds

-- after some elements, and more
pub residue_then : {R : Type 0} → (number : R → ℕ) (code : Code) (xs ys zs : List Fe32) (old between new : R) → zs ≡ xs ++ ys
    → IsResidueAfter number code old xs between → IsResidueAfter number code between ys new → IsResidueAfter number code old zs new
residue_then number code xs ys zs old between new e first second p h =
    subst (λ (q : List Fe32). IsResidueOf number code new q) (sym (ap (appended p) e ∙ appended-append p xs ys)) (second (appended p xs) (first p h))

-- ---- eight bytes at once

-- one byte more behind those that were put from a place on
pub set_next : (more old before : List ℕ) (at count next byte : ℕ) → at ≤ length old → count ≡ at + length more → count < length old → next ≡ count + 1
    → before ≡ take at old ++ (more ++ drop count old)
    → set before count byte ≡ take at old ++ ((more ++ byte ∷ []) ++ drop next old)
set_next more old before at count next byte l is room e so_far =
    let front : List ℕ = take at old in
    let size : length front ≡ at = length-take-le at old l in
    let both : length (front ++ more) ≡ count = length-append front more ∙ (omega arith) in
    ap (λ (b : List ℕ). set b count byte)
    (so_far ∙ ap (λ (b : List ℕ). front ++ (more ++ b)) (drop_more old count 0 room) ∙ sym (append_assoc front more (get_or old count 0 ∷ drop (count + 1) old)))
    ∙ set_at (front ++ more) (get_or old count 0) (drop (count + 1) old) byte count both
    ∙ append_assoc front more (byte ∷ drop (count + 1) old)
    ∙ ap (λ (b : List ℕ). front ++ b) (sym (append_assoc more (byte ∷ []) (drop (count + 1) old)))
    ∙ ap (λ (k : ℕ). front ++ ((more ++ byte ∷ []) ++ drop k old)) (sym e)

-- eight bytes, one after another
pub eight_set : (bytes old : List ℕ) (at : ℕ) → length bytes ≡ 8 → at + 8 ≤ length old
    → set (set (set (set (set (set (set (set old at (get_or bytes 0 0)) (at + 1) (get_or bytes 1 0)) (at + 2) (get_or bytes 2 0)) (at + 3) (get_or bytes 3 0)) (at + 4) (get_or bytes 4 0)) (at + 5) (get_or bytes 5 0)) (at + 6) (get_or bytes 6 0)) (at + 7) (get_or bytes 7 0)
    ≡ take at old ++ (bytes ++ drop (at + 8) old)
eight_set bytes old at n room =
    let a : ℕ = get_or bytes 0 0 in
    let b : ℕ = get_or bytes 1 0 in
    let c : ℕ = get_or bytes 2 0 in
    let d : ℕ = get_or bytes 3 0 in
    let e : ℕ = get_or bytes 4 0 in
    let f : ℕ = get_or bytes 5 0 in
    let g : ℕ = get_or bytes 6 0 in
    let h : ℕ = get_or bytes 7 0 in
    let one = set_next [] old old at at (at + 1) a (omega arith) (omega arith) (omega arith) refl (sym (take-append-drop at old)) in
    let two = set_next (a ∷ []) old _ at (at + 1) (at + 2) b (omega arith) (omega arith) (omega arith) (omega arith) one in
    let three = set_next (a ∷ b ∷ []) old _ at (at + 2) (at + 3) c (omega arith) (omega arith) (omega arith) (omega arith) two in
    let four = set_next (a ∷ b ∷ c ∷ []) old _ at (at + 3) (at + 4) d (omega arith) (omega arith) (omega arith) (omega arith) three in
    let five = set_next (a ∷ b ∷ c ∷ d ∷ []) old _ at (at + 4) (at + 5) e (omega arith) (omega arith) (omega arith) (omega arith) four in
    let six = set_next (a ∷ b ∷ c ∷ d ∷ e ∷ []) old _ at (at + 5) (at + 6) f (omega arith) (omega arith) (omega arith) (omega arith) five in
    let seven = set_next (a ∷ b ∷ c ∷ d ∷ e ∷ f ∷ []) old _ at (at + 6) (at + 7) g (omega arith) (omega arith) (omega arith) (omega arith) six in
    set_next (a ∷ b ∷ c ∷ d ∷ e ∷ f ∷ g ∷ []) old _ at (at + 7) (at + 8) h (omega arith) (omega arith) (omega arith) (omega arith) seven
    ∙ ap (λ (l : List ℕ). take at old ++ (l ++ drop (at + 8) old)) (sym (eight_of bytes 0 0 0 0 0 0 0 0 n))

length-put : (front start : List ℕ) → length (take (length start) (front ++ drop (length front) start)) ≡ length start
length-put front start =
    let behind : length (drop (length front) start) ≡ length start - length front = length-drop (length front) start in
    let both : length (front ++ drop (length front) start) ≡ length front + length (drop (length front) start) = length-append front (drop (length front) start) in
    length-take (length start) (front ++ drop (length front) start) ∙ (omega arith)

-- bytes that there is room for, put behind others
pub puts_at_once : (bytes old new : List ℕ) (count after : ℕ) → count + length bytes ≤ length old → after ≡ count + length bytes
    → new ≡ take count old ++ (bytes ++ drop (count + length bytes) old) → 0 < length bytes → PutsBehind bytes old count new after
puts_at_once bytes old new count after room counted made some front start put =
    let n : ℕ = length front in
    let as_long : length old ≡ length start = ap length put.buffer ∙ length-put front start in
    let counts : count ≡ min n (length start) = put.count_is in
    let is : count ≡ n = omega arith in
    let rest : length (drop n start) ≡ length start - n = length-drop n start in
    let held : length (front ++ drop n start) ≡ n + length (drop n start) = length-append front (drop n start) in
    let before : old ≡ front ++ drop n start = put.buffer ∙ take_all (length start) (front ++ drop n start) (omega arith) in
    let end : ℕ = n + length bytes in
    let first : take count old ≡ front = ap (λ (k : ℕ). take k old) is ∙ ap (take n) before ∙ take_at front (drop n start) n refl in
    let last : drop (count + length bytes) old ≡ drop end start =
    ap (λ (k : ℕ). drop (k + length bytes) old) is ∙ sym (drop-drop (length bytes) n old)
    ∙ ap (λ (l : List ℕ). drop (length bytes) (drop n l)) before
    ∙ ap (drop (length bytes)) (drop_at front (drop n start) n refl) ∙ drop-drop (length bytes) n start in
    let all : length (front ++ bytes) ≡ end = length-append front bytes in
    let behind : length (drop end start) ≡ length start - end = length-drop end start in
    let whole : length ((front ++ bytes) ++ drop end start) ≡ length (front ++ bytes) + length (drop end start) = length-append (front ++ bytes) (drop end start) in
    record {
      buffer = made
          ∙ ap (λ (l : List ℕ). l ++ (bytes ++ drop (count + length bytes) old)) first
          ∙ ap (λ (l : List ℕ). front ++ (bytes ++ l)) last
          ∙ sym (append_assoc front bytes (drop end start))
          ∙ sym (take_all (length start) ((front ++ bytes) ++ drop end start) (omega arith))
          ∙ ap (λ (k : ℕ). take (length start) ((front ++ bytes) ++ drop k start)) (sym all);
      count_is = counted ∙ (omega arith);
    }
