-- Texts that are put into a buffer piece by piece.
use Rattle.std.proofs.Common.{◌≡◌, ◌≤◌, ◌<◌, ◌+◌, ◌-◌, ◌*◌, ◌/◌, ◌==◌, ◌++◌, ◌∙◌, ℕ, zero, suc, Bool, true, false, List, [], ◌∷◌, Option, None, Some, length, min, take, drop, map, option_to_list, ap, sym, subst, refl, append_assoc, append-nil, arith, ⊎_elim}
use Rattle.std.proofs.lemmas.Bool.{cases_lt, eqb-true, eqb-false}
use Rattle.std.proofs.lemmas.List.{map-append, length-append, length-map, length-take, length-take-le, length-drop, take-append-le, take_all, take_at, drop_all, drop_at, take-append-drop}
use Rattle.std.proofs.lemmas.Str.{IsAscii-append}
use Rattle.std.proofs.lemmas.Str.Ascii.{IsAscii-nil, IsAscii-cons, IsAscii-map, uppercase_ascii}
use Rattle.std.specs.Char.{is_ascii, to_ascii_uppercase}
use Rattle.std.specs.List.{list_all}
use Rattle.std.specs.Str.{IsAscii}
use Rattle.bech32_gf.specs.Fe32 as fe32
use Rattle.bech32_gf.specs.declared.gf32.Fe32.{Fe32}
use Rattle.bech32_poly.specs.Polynomial.{appended}
use Rattle.bech32_poly.proofs.Appended.{appended-append}
use Rattle.bech32_bits.specs.Bits.{to_fes}
use Rattle.bech32_bits.proofs.RoundTrip.{length-to_fes}
use Rattle.bech32_checksum.specs.Code.{Code, IsResidueOf, IsResidueAfter}
use Rattle.bech32_checksum.specs.Encoded.{char_of_element}
use Rattle.bech32_checksum.specs.TextPolynomial.{hrp_elements, text_polynomial, IsChecksumOf}
use Rattle.bech32_hrp.specs.Hrp.{lowered}
use Rattle.bech32_hrp.proofs.HrpParts.{IsAscii-from_list_all, lowered-ascii}
use Rattle.bech32_encode.specs.Buffers.{IsPut, IsPutAsFits, PutsBehind}
use Rattle.bech32_encode.specs.Cased.{in_case, IsTextInCase}
use Rattle.bech32_encode.specs.ChecksumElements.{checksum_of, then_checksum}
use Rattle.bech32_encode.specs.TextFrom.{text_front}
use Rattle.bech32_encode.specs.TextLeft.{front_left, checksum_left, text_left}
use Rattle.bech32_encode.proofs.ChecksumEnds.{then_checksum-append, then_checksum-start, length-checksum_of, checksum_of-hrp}
use Rattle.bech32_encode.proofs.EncodedTexts.{length-front}
use Rattle.bech32_encode.proofs.Encoding.{IsAscii-characters}
use Rattle.bech32_encode.proofs.TextPieces.{puts_then, put_as_fits, put_whole, spelled-parts}

-- ---- bytes in groups of five

-- the elements of five bytes, and then of the others
five_bytes : (a b c d e : ℕ) (xs : List ℕ) → to_fes (a ∷ b ∷ c ∷ d ∷ e ∷ xs) ≡ to_fes (a ∷ b ∷ c ∷ d ∷ e ∷ []) ++ to_fes xs
five_bytes a b c d e xs = refl

fives-append : (k : ℕ) (xs ys : List ℕ) → length xs ≡ 5 * k → to_fes (xs ++ ys) ≡ to_fes xs ++ to_fes ys
fives-append zero [] ys h = refl
fives-append zero (x ∷ xs) ys h = absurd (omega arith)
fives-append (suc k) (a ∷ b ∷ c ∷ d ∷ e ∷ xs) ys h =
    let five : List Fe32 = to_fes (a ∷ b ∷ c ∷ d ∷ e ∷ []) in
    five_bytes a b c d e (xs ++ ys)
    ∙ ap (λ (l : List Fe32). five ++ l) (fives-append k xs ys (omega arith))
    ∙ sym (append_assoc five (to_fes xs) (to_fes ys))
    ∙ ap (λ (l : List Fe32). l ++ to_fes ys) (sym (five_bytes a b c d e xs))
fives-append (suc k) [] ys h = absurd (omega arith)
fives-append (suc k) (a ∷ []) ys h = absurd (omega arith)
fives-append (suc k) (a ∷ b ∷ []) ys h = absurd (omega arith)
fives-append (suc k) (a ∷ b ∷ c ∷ []) ys h = absurd (omega arith)
fives-append (suc k) (a ∷ b ∷ c ∷ d ∷ []) ys h = absurd (omega arith)

cut_long : (bytes : List ℕ) (size : ℕ) → size ≡ min (length bytes) 80 → 80 < length bytes → to_fes bytes ≡ to_fes (take size bytes) ++ to_fes (drop size bytes)
cut_long bytes size is more =
    let within : size ≤ length bytes = omega arith in
    let eighty : size ≡ 80 = omega arith in
    let full : length (take size bytes) ≡ 5 * 16 = length-take-le size bytes within ∙ eighty in
    ap to_fes (sym (take-append-drop size bytes)) ∙ fives-append 16 (take size bytes) (drop size bytes) full

cut_short : (bytes : List ℕ) (size : ℕ) → size ≡ min (length bytes) 80 → length bytes ≤ 80 → to_fes bytes ≡ to_fes (take size bytes) ++ to_fes (drop size bytes)
cut_short bytes size is few =
    let all : length bytes ≤ size = omega arith in
    ap to_fes (sym (take_all size bytes all))
    ∙ sym (append-nil (to_fes (take size bytes)))
    ∙ ap (λ (l : List ℕ). to_fes (take size bytes) ++ to_fes l) (sym (drop_all size bytes all))

-- the first 80 bytes, or all there are, and the others
pub bytes_cut : (bytes : List ℕ) (size : ℕ) → size ≡ min (length bytes) 80 → to_fes bytes ≡ to_fes (take size bytes) ++ to_fes (drop size bytes)
bytes_cut bytes size is = ⊎_elim (λ (more : 80 < length bytes). cut_long bytes size is more) (λ (few : length bytes ≤ 80). cut_short bytes size is few) (cases_lt 80 (length bytes))

-- ---- either case

pub in_case-append : (upper : Bool) (xs ys : List ℕ) → in_case upper (xs ++ ys) ≡ in_case upper xs ++ in_case upper ys
in_case-append true xs ys = map-append to_ascii_uppercase xs ys
in_case-append false xs ys = refl

pub length-in_case : (upper : Bool) (xs : List ℕ) → length (in_case upper xs) ≡ length xs
length-in_case true xs = length-map xs to_ascii_uppercase
length-in_case false xs = refl

pub in_case-nil : (upper : Bool) → in_case upper [] ≡ []
in_case-nil true = refl
in_case-nil false = refl

pub IsAscii-in_case : (upper : Bool) (xs : List ℕ) → IsAscii xs → IsAscii (in_case upper xs)
IsAscii-in_case true xs h = IsAscii-map to_ascii_uppercase xs uppercase_ascii h
IsAscii-in_case false xs h = h

-- the front of a buffer in upper case, where that is asked for
pub raised : (upper : Bool) (count : ℕ) (old new : List ℕ) → upper ≡ true → new ≡ map to_ascii_uppercase (take count old) ++ drop count old
    → new ≡ in_case upper (take count old) ++ drop count old
raised true count old new h e = e
raised false count old new h e = absurd (cc)

-- what was put at the front of a buffer, after that
pub front_in_case : (upper : Bool) (count : ℕ) (piece old put new : List ℕ) → IsPut piece old put count → new ≡ in_case upper (take count put) ++ drop count put
    → take count new ≡ in_case upper piece
front_in_case upper count piece old put new is e =
    let size : count ≡ length piece = is.count_is in
    let front : take count put ≡ piece = ap (take count) is.buffer ∙ take_at piece (drop (length piece) old) count (sym size) in
    let same : in_case upper (take count put) ≡ in_case upper piece = ap (in_case upper) front in
    ap (take count) (e ∙ ap (λ (l : List ℕ). l ++ drop count put) same)
    ∙ take_at (in_case upper piece) (drop count put) count (length-in_case upper piece ∙ sym size)

-- ---- as much as fits

take_of_map : (f : ℕ → ℕ) (n : ℕ) (xs : List ℕ) → map f (take n xs) ≡ take n (map f xs)
take_of_map f zero xs = refl
take_of_map f (suc n) [] = refl
take_of_map f (suc n) (x ∷ xs) = ap (λ (l : List ℕ). f x ∷ l) (take_of_map f n xs)

in_case-take : (upper : Bool) (n : ℕ) (xs : List ℕ) → in_case upper (take n xs) ≡ take n (in_case upper xs)
in_case-take true n xs = take_of_map to_ascii_uppercase n xs
in_case-take false n xs = refl

put_short : (text old new : List ℕ) (count : ℕ) → IsPutAsFits text old new count → length text ≤ length old → IsPut (take (length old) text) old new count
put_short text old new count put few =
    subst (λ (t : List ℕ). IsPut t old new count) (sym (take_all (length old) text few)) (put_whole text old new count put few)

put_long : (text old new : List ℕ) (count : ℕ) → IsPutAsFits text old new count → length old < length text → IsPut (take (length old) text) old new count
put_long text old new count put more =
    let within : length old ≤ length text = omega arith in
    let size : length (take (length old) text) ≡ length old = length-take-le (length old) text within in
    let counted : count ≡ min (length text) (length old) = put.count_is in
    record {
      fits = omega arith;
      buffer = put.buffer
          ∙ take-append-le (length old) text (drop (length text) old) within
          ∙ sym (append-nil (take (length old) text))
          ∙ ap (λ (l : List ℕ). take (length old) text ++ l) (sym (drop_all (length (take (length old) text)) old (omega arith)));
      count_is = omega arith;
    }

-- what fits of a text is its front
pub put_front : (text old new : List ℕ) (count : ℕ) → IsPutAsFits text old new count → IsPut (take (length old) text) old new count
put_front text old new count put =
    ⊎_elim (λ (more : length old < length text). put_long text old new count put more) (λ (few : length text ≤ length old). put_short text old new count put few)
    (cases_lt (length old) (length text))

-- it is no longer than the buffer
pub put_within : (piece old new : List ℕ) (count : ℕ) → IsPut piece old new count → count ≤ length new
put_within piece old new count put =
    let counted : count ≡ length piece = put.count_is in
    let whole : length new ≡ length piece + length (drop (length piece) old) = ap length put.buffer ∙ length-append piece (drop (length piece) old) in
    omega arith

-- what stands at the front of the buffer is as much of the text as fits
pub shown_front : (text old new : List ℕ) (count : ℕ) → IsPutAsFits text old new count → take count new ≡ take (length old) text
shown_front text old new count is =
    let put : IsPut (take (length old) text) old new count = put_front text old new count is in
    ap (take count) put.buffer ∙ take_at (take (length old) text) (drop (length (take (length old) text)) old) count (sym put.count_is)

-- a front of a text that fits is as much of it as fits
fits_short : (text old new : List ℕ) (count : ℕ) → IsPut text old new count → IsPutAsFits text old new count
fits_short text old new count put =
    let room : length text ≤ length old = put.fits in
    let counted : count ≡ length text = put.count_is in
    let behind : length (drop (length text) old) ≡ length old - length text = length-drop (length text) old in
    let both : length (text ++ drop (length text) old) ≡ length text + length (drop (length text) old) = length-append text (drop (length text) old) in
    record {
      buffer = put.buffer ∙ sym (take_all (length old) (text ++ drop (length text) old) (omega arith));
      count_is = omega arith;
    }

fits_long : (text old new : List ℕ) (count : ℕ) → IsPut (take (length old) text) old new count → length old < length text → IsPutAsFits text old new count
fits_long text old new count put more =
    let within : length old ≤ length text = omega arith in
    let size : length (take (length old) text) ≡ length old = length-take-le (length old) text within in
    let counted : count ≡ length (take (length old) text) = put.count_is in
    record {
      buffer = put.buffer
          ∙ ap (λ (l : List ℕ). take (length old) text ++ l) (drop_all (length (take (length old) text)) old (omega arith))
          ∙ append-nil (take (length old) text)
          ∙ sym (take-append-le (length old) text (drop (length text) old) within);
      count_is = omega arith;
    }

fits_front : (text old new : List ℕ) (count : ℕ) → IsPut (take (length old) text) old new count → IsPutAsFits text old new count
fits_front text old new count put =
    ⊎_elim (λ (more : length old < length text). fits_long text old new count put more)
    (λ (few : length text ≤ length old). fits_short text old new count (subst (λ (t : List ℕ). IsPut t old new count) (take_all (length old) text few) put))
    (cases_lt (length old) (length text))

-- what was put at the front of a buffer, in either case, and what stands behind it
put_in_case : (upper : Bool) (piece old put new : List ℕ) (count : ℕ) → IsPut piece old put count → new ≡ in_case upper (take count put) ++ drop count put
    → IsPut (in_case upper piece) old new count
put_in_case upper piece old put new count is e =
    let size : count ≡ length piece = is.count_is in
    let same : length (in_case upper piece) ≡ length piece = length-in_case upper piece in
    let room : length piece ≤ length old = is.fits in
    let front : take count put ≡ piece = ap (take count) is.buffer ∙ take_at piece (drop (length piece) old) count (sym size) in
    let rest : drop count put ≡ drop (length piece) old = ap (drop count) is.buffer ∙ drop_at piece (drop (length piece) old) count (sym size) in
    record {
      fits = omega arith;
      buffer = e
          ∙ ap (λ (l : List ℕ). in_case upper l ++ drop count put) front
          ∙ ap (λ (l : List ℕ). in_case upper piece ++ l) (rest ∙ ap (λ (n : ℕ). drop n old) (sym same));
      count_is = size ∙ sym same;
    }

-- as much of a text as fits, in either case, in the buffer that was raised
pub fits_in_case : (upper : Bool) (text old put new : List ℕ) (count : ℕ) → IsPutAsFits text old put count → new ≡ in_case upper (take count put) ++ drop count put
    → IsPutAsFits (in_case upper text) old new count
fits_in_case upper text old put new count is e =
    fits_front (in_case upper text) old new count
    (subst (λ (t : List ℕ). IsPut t old new count) (in_case-take upper (length old) text)
    (put_in_case upper (take (length old) text) old put new count (put_front text old put count is) e))

-- ---- the pieces

-- the human-readable part is ASCII, and so is what stands before the elements
IsAscii-front : (begun : Bool) (hrp : List ℕ) (version : Option Fe32) → list_all is_ascii hrp ≡ true → IsAscii (front_left begun hrp version)
IsAscii-front true hrp version h = IsAscii-nil
IsAscii-front false hrp version h =
    IsAscii-append (text_front hrp) (map char_of_element (option_to_list version))
    (IsAscii-append (lowered hrp) (49 ∷ []) (IsAscii-from_list_all (lowered hrp) (lowered-ascii hrp h)) (IsAscii-cons 49 [] (omega arith) IsAscii-nil))
    (IsAscii-characters (option_to_list version))

length-optional : (version : Option Fe32) → length (option_to_list version) ≤ 1
length-optional None = let none : length (option_to_list {X = Fe32} None) ≡ 0 = refl in omega arith
length-optional (Some x) = let one : length (option_to_list (Some x)) ≡ 1 = refl in omega arith

length-front_left : (begun : Bool) (hrp : List ℕ) (version : Option Fe32) → length hrp ≤ 83 → length (front_left begun hrp version) ≤ 85
length-front_left true hrp version few = let none : length (front_left true hrp version) ≡ 0 = refl in omega arith
length-front_left false hrp version few =
    let one : length (option_to_list version) ≤ 1 = length-optional version in
    let both : length (text_front hrp ++ map char_of_element (option_to_list version)) ≡ length (text_front hrp) + length (map char_of_element (option_to_list version)) =
    length-append (text_front hrp) (map char_of_element (option_to_list version)) in
    let front : length (text_front hrp) ≡ length hrp + 1 = length-front hrp in
    let same : length (map char_of_element (option_to_list version)) ≡ length (option_to_list version) = length-map (option_to_list version) char_of_element in
    omega arith

-- nothing is left but a checksum, or some bytes are
no_bytes : (bytes : List ℕ) (last : Bool) → last ≡ (length bytes == 0) → last ≡ true → bytes ≡ []
no_bytes [] last e t = refl
no_bytes (b ∷ bytes) last e t = let none : length (b ∷ bytes) ≡ 0 = eqb-true (length (b ∷ bytes)) 0 (sym e ∙ t) in absurd (omega arith)

some_bytes : (bytes : List ℕ) (last : Bool) → last ≡ (length bytes == 0) → last ≡ false → 0 < length bytes
some_bytes [] last e t = absurd (eqb-false 0 0 (sym e ∙ t) refl)
some_bytes (b ∷ bytes) last e t = omega arith

module _ {R : Type 0} (number : R → ℕ) (code : Code) where
  -- the elements that are left, without those of a piece
  left_after : (r u : R) (chunk rest : List Fe32) (behind : List ℕ) → ((p : List Fe32) → IsResidueOf number code r p → IsResidueOf number code u (appended p chunk))
      → (last : Bool) (v : R) → (last ≡ true → rest ≡ []) → (last ≡ false → v ≡ u) → (last ≡ false → rest ≡ to_fes behind)
      → map char_of_element (then_checksum number code r None (chunk ++ rest))
      ≡ (map char_of_element chunk ++ map char_of_element (checksum_left number code last u)) ++ text_left number code last false [] v behind
  left_after r u chunk rest behind h true v none kept is =
      ap (λ (l : List Fe32). map char_of_element (then_checksum number code r None (chunk ++ l))) (none refl)
      ∙ ap (map char_of_element) (then_checksum-append number code r u chunk [] h)
      ∙ map-append char_of_element chunk (then_checksum number code u None [])
      ∙ sym (append-nil (map char_of_element chunk ++ map char_of_element (then_checksum number code u None [])))
  left_after r u chunk rest behind h false v none kept is =
      ap (map char_of_element) (then_checksum-append number code r u chunk rest h)
      ∙ map-append char_of_element chunk (then_checksum number code u None rest)
      ∙ ap (λ (q : R). map char_of_element chunk ++ map char_of_element (then_checksum number code q None rest)) (sym (kept refl))
      ∙ ap (λ (l : List Fe32). map char_of_element chunk ++ map char_of_element (then_checksum number code v None l)) (is refl)
      ∙ ap (λ (l : List ℕ). l ++ map char_of_element (then_checksum number code v None (to_fes behind))) (sym (append-nil (map char_of_element chunk)))

  -- the same of a text in either case
  in_either_case : (upper last : Bool) (v : R) (behind : List ℕ) → in_case upper (text_left number code last false [] v behind) ≡ text_left number code last upper [] v behind
  in_either_case upper true v behind = in_case-nil upper
  in_either_case upper false v behind = refl

  pub piece_of : (front chunk : List ℕ) (last : Bool) (u : R) → List ℕ
  piece_of front chunk last u = (front ++ map char_of_element (to_fes chunk)) ++ map char_of_element (checksum_left number code last u)

  -- a text without its next piece
  pub text_after : (upper last : Bool) (front bytes : List ℕ) (size : ℕ) (r u v : R) → size ≡ min (length bytes) 80 → last ≡ (length (drop size bytes) == 0)
      → IsResidueAfter number code r (to_fes (take size bytes)) u → (last ≡ false → v ≡ u)
      → text_left number code false upper front r bytes ≡ in_case upper (piece_of front (take size bytes) last u) ++ text_left number code last upper [] v (drop size bytes)
  unfolding piece_of
  text_after upper last front bytes size r u v is end h kept =
      let chunk : List ℕ = take size bytes in
      let behind : List ℕ = drop size bytes in
      let first : List ℕ = map char_of_element (to_fes chunk) in
      let sum : List ℕ = map char_of_element (checksum_left number code last u) in
      let rest : List ℕ = text_left number code last false [] v behind in
      ap (λ (l : List Fe32). in_case upper (front ++ map char_of_element (then_checksum number code r None l))) (bytes_cut bytes size is)
      ∙ ap (λ (l : List ℕ). in_case upper (front ++ l)) (left_after r u (to_fes chunk) (to_fes behind) behind h last v (λ t. ap to_fes (no_bytes behind last end t)) kept (λ t. refl))
      ∙ ap (in_case upper) (sym (append_assoc front (first ++ sum) rest) ∙ ap (λ (l : List ℕ). l ++ rest) (sym (append_assoc front first sum)))
      ∙ in_case-append upper (piece_of front chunk last u) rest
      ∙ ap (λ (l : List ℕ). in_case upper (piece_of front chunk last u) ++ l) (in_either_case upper last v behind)

  -- where the next piece is empty, nothing is left
  pub nothing_after : (upper last : Bool) (front bytes : List ℕ) (size : ℕ) (u v : R) → size ≡ min (length bytes) 80 → last ≡ (length (drop size bytes) == 0)
      → length (piece_of front (take size bytes) last u) ≡ 0 → text_left number code last upper [] v (drop size bytes) ≡ []
  unfolding piece_of
  nothing_after upper true front bytes size u v is end none = refl
  nothing_after upper false front bytes size u v is end none =
      let chunk : List ℕ = take size bytes in
      let some : 0 < length (drop size bytes) = some_bytes (drop size bytes) false end refl in
      let cut : length (take size bytes ++ drop size bytes) ≡ length (take size bytes) + length (drop size bytes) = length-append (take size bytes) (drop size bytes) in
      let whole : length (take size bytes ++ drop size bytes) ≡ length bytes = ap length (take-append-drop size bytes) in
      let full : length (take size bytes) ≡ size = length-take-le size bytes (omega arith) in
      let many : length (to_fes chunk) ≡ (8 * length chunk + 0 + 4) / 5 = length-to_fes chunk in
      let same : length (map char_of_element (to_fes chunk)) ≡ length (to_fes chunk) = length-map (to_fes chunk) char_of_element in
      let one : length (front ++ map char_of_element (to_fes chunk)) ≡ length front + length (map char_of_element (to_fes chunk)) = length-append front (map char_of_element (to_fes chunk)) in
      let all : length (piece_of front chunk false u) ≡ length (front ++ map char_of_element (to_fes chunk)) + 0 =
      length-append (front ++ map char_of_element (to_fes chunk)) [] in
      absurd (omega arith)

  -- a piece is ASCII
  pub IsAscii-piece : (begun last : Bool) (hrp chunk : List ℕ) (version : Option Fe32) (u : R) → list_all is_ascii hrp ≡ true
      → IsAscii (piece_of (front_left begun hrp version) chunk last u)
  unfolding piece_of
  IsAscii-piece begun last hrp chunk version u h =
      let front : List ℕ = front_left begun hrp version in
      IsAscii-append (front ++ map char_of_element (to_fes chunk)) (map char_of_element (checksum_left number code last u))
      (IsAscii-append front (map char_of_element (to_fes chunk)) (IsAscii-front begun hrp version h) (IsAscii-characters (to_fes chunk)))
      (IsAscii-characters (checksum_left number code last u))

  module _ (size_law : length code.target ≡ length code.generator) (few_law : length code.generator ≤ 25) where
    length-checksum_left : (last : Bool) (u : R) → length (checksum_left number code last u) ≤ 25
    length-checksum_left true u =
        let is : length (then_checksum number code u None []) ≡ length code.generator = length-checksum_of code size_law _ in
        omega arith
    length-checksum_left false u = let none : length (checksum_left number code false u) ≡ 0 = refl in omega arith

    -- a piece is short
    pub length-piece : (begun last : Bool) (hrp bytes : List ℕ) (version : Option Fe32) (size : ℕ) (u : R) → length hrp ≤ 83 → size ≡ min (length bytes) 80
        → length (piece_of (front_left begun hrp version) (take size bytes) last u) ≤ 256
    unfolding piece_of
    length-piece begun last hrp bytes version size u few is =
        let front : List ℕ = front_left begun hrp version in
        let chunk : List ℕ = take size bytes in
        let short : length front ≤ 85 = length-front_left begun hrp version few in
        let full : length (take size bytes) ≡ size = length-take-le size bytes (omega arith) in
        let many : length (to_fes chunk) ≡ (8 * length chunk + 0 + 4) / 5 = length-to_fes chunk in
        let same : length (map char_of_element (to_fes chunk)) ≡ length (to_fes chunk) = length-map (to_fes chunk) char_of_element in
        let sum : length (map char_of_element (checksum_left number code last u)) ≡ length (checksum_left number code last u) = length-map (checksum_left number code last u) char_of_element in
        let tail : length (checksum_left number code last u) ≤ 25 = length-checksum_left last u in
        let one : length (front ++ map char_of_element (to_fes chunk)) ≡ length front + length (map char_of_element (to_fes chunk)) = length-append front (map char_of_element (to_fes chunk)) in
        let all : length (piece_of front chunk last u) ≡ length (front ++ map char_of_element (to_fes chunk)) + length (map char_of_element (checksum_left number code last u)) =
        length-append (front ++ map char_of_element (to_fes chunk)) (map char_of_element (checksum_left number code last u)) in
        omega arith

    module _ (begun last : Bool) (hrp : List ℕ) (version : Option Fe32) (bytes : List ℕ) (size : ℕ) (u : R) (few : length hrp ≤ 83) (is : size ≡ min (length bytes) 80) where
      abbrev next : List ℕ
      next = piece_of (front_left begun hrp version) (take size bytes) last u

      -- the next piece stands at the front of the buffer
      pub piece_put : (old one two three : List ℕ) (start middle count : ℕ) → 256 ≤ length old
          → PutsBehind (front_left begun hrp version) old 0 one start → PutsBehind (map char_of_element (to_fes (take size bytes))) one start two middle
          → PutsBehind (map char_of_element (checksum_left number code last u)) two middle three count → IsPut next old three count
      unfolding piece_of
      piece_put old one two three start middle count room a b c =
          let front : List ℕ = front_left begun hrp version in
          let first : List ℕ = map char_of_element (to_fes (take size bytes)) in
          let sum : List ℕ = map char_of_element (checksum_left number code last u) in
          let short : length next ≤ 256 = length-piece begun last hrp bytes version size u few is in
          let both : PutsBehind (front ++ first) old 0 two middle = puts_then front first (front ++ first) old one two 0 start middle refl a b in
          let all : PutsBehind next old 0 three count = puts_then (front ++ first) sum next old two three 0 middle count refl both c in
          put_whole next old three count (put_as_fits next old three count all) (omega arith)

      -- what a call says of it, where the buffer was raised after that
      pub next_piece : (upper : Bool) (rest old put new : List ℕ) (count : ℕ) (r v : R) → list_all is_ascii hrp ≡ true → rest ≡ drop size bytes → last ≡ (length rest == 0)
          → IsPut next old put count → new ≡ in_case upper (take count put) ++ drop count put
          → IsResidueAfter number code r (to_fes (take size bytes)) u → (last ≡ false → v ≡ u)
          → (count ≤ length new)
          × (text_left number code false upper (front_left begun hrp version) r bytes ≡ take count new ++ text_left number code last upper [] v rest)
          × (count ≡ 0 → text_left number code false upper (front_left begun hrp version) r bytes ≡ [])
          × IsAscii (take count new)
      next_piece upper rest old put new count r v ascii behind end is_put raised h kept =
          let front : List ℕ = front_left begun hrp version in
          let left : List ℕ = text_left number code last upper [] v rest in
          let end_of : last ≡ (length (drop size bytes) == 0) = end ∙ ap (λ (l : List ℕ). length l == 0) behind in
          let shown : take count new ≡ in_case upper next = front_in_case upper count next old put new is_put raised in
          let long : length (take count new) ≡ length next = ap length shown ∙ length-in_case upper next in
          let cut : length (take count new) ≡ min count (length new) = length-take count new in
          let counted : count ≡ length next = is_put.count_is in
          let split : text_left number code false upper front r bytes ≡ take count new ++ left =
          text_after upper last front bytes size r u v is end_of h kept
          ∙ ap (λ (l : List ℕ). l ++ text_left number code last upper [] v (drop size bytes)) (sym shown)
          ∙ ap (λ (l : List ℕ). take count new ++ text_left number code last upper [] v l) (sym behind) in (
            omega arith,
            split,
            λ none. split ∙ ap (λ (n : ℕ). take n new ++ left) none
                ∙ ap (text_left number code last upper [] v) behind
                ∙ nothing_after upper last front bytes size u v is end_of (sym counted ∙ none),
            subst IsAscii (sym shown) (IsAscii-in_case upper next (IsAscii-piece begun last hrp (take size bytes) version u ascii)),
          )

    -- the whole text, where an engine was given the human-readable part and the version
    pub text_at_first : (upper : Bool) (hrp : List ℕ) (version : Option Fe32) (bytes : List ℕ) (u : R)
        → IsResidueOf number code u (appended (appended (fe32.one ∷ []) (hrp_elements hrp)) (option_to_list version))
        → IsTextInCase upper code hrp (option_to_list version ++ to_fes bytes) (text_left number code false upper (front_left false hrp version) u bytes)
    text_at_first upper hrp version bytes u h =
        let v : List Fe32 = option_to_list version in
        let xs : List Fe32 = to_fes bytes in
        let begin : List Fe32 = appended (fe32.one ∷ []) (hrp_elements hrp) in
        let sum : List Fe32 = checksum_of code (appended (appended begin v) xs) in
        let front : List ℕ = text_front hrp ++ map char_of_element v in
        let same : text_polynomial hrp (v ++ xs) ≡ appended (appended begin v) xs = appended-append (fe32.one ∷ []) (hrp_elements hrp) (v ++ xs) ∙ appended-append begin v xs in (
          front ++ map char_of_element (then_checksum number code u None xs),
          record {
            checksum = sum;
            is_checksum = subst (λ p. IsChecksumOf code hrp (v ++ xs) (checksum_of code p)) same (checksum_of-hrp code size_law hrp (v ++ xs));
            spelling = ap (λ (l : List Fe32). front ++ map char_of_element l) (then_checksum-start number code u (appended begin v) xs h)
                ∙ ap (λ (l : List ℕ). front ++ l) (map-append char_of_element xs sum)
                ∙ sym (append_assoc front (map char_of_element xs) (map char_of_element sum))
                ∙ spelled-parts hrp v xs sum;
          },
          refl,
        )
