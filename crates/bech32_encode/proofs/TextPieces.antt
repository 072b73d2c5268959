-- Texts that are put into a buffer piece by piece.
use Rattle.std.proofs.Common.{◌≡◌, ◌<◌, ◌≤◌, ◌-◌, ◌+◌, ◌++◌, ◌∙◌, ℕ, suc, List, [], ◌∷◌, length, min, take, drop, get_or, map, reverse, ap, sym, subst, refl, append_assoc, append-nil, arith}
use Rattle.std.proofs.Math.Seq.{drop-cons}
use Rattle.std.proofs.lemmas.List.{map-append, reverse-append, length-append, length-drop, length-reverse, drop_all, take_all, take_more}
use Rattle.std.specs.Char.{to_ascii_lowercase}
use Rattle.bech32_gf.specs.Fe32 as fe32
use Rattle.bech32_gf.specs.laws.Fe32Laws.{is_field}
use Rattle.bech32_gf.specs.declared.gf32.Fe32.{Fe32}
use Rattle.bech32_poly.specs.Polynomial.{appended}
use Rattle.bech32_poly.specs.Remainder.{IsRemainder}
use Rattle.bech32_poly.proofs.Appended.{appended-append, checksum_of_target}
use Rattle.bech32_encode.specs.Buffers.{IsPut, IsPutAsFits, PutsBehind}
use Rattle.bech32_checksum.specs.Code.{Code, IsResidueOf}
use Rattle.bech32_checksum.specs.Encoded.{char_of_element, spelled, IsEncodedText}
use Rattle.bech32_encode.specs.TextFrom.{text_front}
use Rattle.bech32_hrp.specs.Hrp.{lowered}
use Rattle.bech32_checksum.specs.Packed.{digit_of, digits}
use Rattle.bech32_checksum.specs.TextPolynomial.{hrp_elements, text_polynomial}
use Rattle.bech32_checksum.proofs.Digits.{length-tabulate, get_or-tabulate}

-- nothing more
pub puts_none : (xs old : List ℕ) (count : ℕ) → xs ≡ [] → PutsBehind xs old count old count
puts_none xs old count e front start h =
    subst (λ (l : List ℕ). IsPutAsFits l start old count) (sym (ap (λ (l : List ℕ). front ++ l) e ∙ append-nil front)) h

-- one piece behind another
pub puts_then : (xs ys zs old between new : List ℕ) (before count after : ℕ) → zs ≡ xs ++ ys
    → PutsBehind xs old before between count → PutsBehind ys between count new after → PutsBehind zs old before new after
puts_then xs ys zs old between new before count after e first second front start h =
    subst (λ (l : List ℕ). IsPutAsFits l start new after) (append_assoc front xs ys ∙ ap (λ (l : List ℕ). front ++ l) (sym e))
    (second (front ++ xs) start (first front start h))

-- all pieces
pub put_as_fits : (text old new : List ℕ) (count : ℕ) → PutsBehind text old 0 new count → IsPutAsFits text old new count
put_as_fits text old new count puts =
    puts [] old (record { buffer = sym (take_all (length old) old (omega arith)); count_is = omega arith })

-- all bytes, where there was room for them
pub put_whole : (text old new : List ℕ) (count : ℕ) → IsPutAsFits text old new count → length text ≤ length old → IsPut text old new count
put_whole text old new count put room =
    let behind : length (drop (length text) old) ≡ length old - length text = length-drop (length text) old in
    let both : length (text ++ drop (length text) old) ≡ length text + length (drop (length text) old) = length-append text (drop (length text) old) in
    let counted : count ≡ min (length text) (length old) = put.count_is in
    record {
      fits = room;
      buffer = put.buffer ∙ take_all (length old) (text ++ drop (length text) old) (omega arith);
      count_is = omega arith;
    }

-- one byte more of a human-readable part
pub lowered_more : (bytes : List ℕ) (i b : ℕ) → i < length bytes → b ≡ to_ascii_lowercase (get_or bytes i 0)
    → lowered (take (i + 1) bytes) ≡ lowered (take i bytes) ++ b ∷ []
lowered_more bytes i b below is =
    ap lowered (take_more bytes i 0 below)
    ∙ map-append to_ascii_lowercase (take i bytes) (get_or bytes i 0 ∷ [])
    ∙ ap (λ (x : ℕ). lowered (take i bytes) ++ x ∷ []) (sym is)

-- ---- a row of digits, the highest first

-- the element of a digit's value is the digit
pub element-digit_of : (number i : ℕ) → fe32.element (digit_of number i).value ≡ digit_of number i
element-digit_of number i = fe32.path (fe32.element (digit_of number i).value) (digit_of number i) (omega arith)

-- the digits from place k on, the highest first, end in that of place k
reverse-digits : (n number k : ℕ) → k < n
    → reverse (drop k (digits n number)) ≡ reverse (drop (suc k) (digits n number)) ++ digit_of number k ∷ []
reverse-digits n number k below =
    let there : k < length (digits n number) = rw (length-tabulate n (digit_of number)) below in
    ap reverse (drop-cons (digits n number) k fe32.zero there)
    ∙ reverse-append (get_or (digits n number) k fe32.zero ∷ []) (drop (suc k) (digits n number))
    ∙ ap (λ (x : Fe32). reverse (drop (suc k) (digits n number)) ++ x ∷ []) (get_or-tabulate n (digit_of number) k fe32.zero below)

-- none was put
pub characters_none : (n number : ℕ) → map char_of_element (reverse (drop (n - 0) (digits n number))) ≡ []
characters_none n number =
    let all : n - 0 ≡ n = omega arith in
    ap (λ (k : ℕ). map char_of_element (reverse (drop k (digits n number)))) all
    ∙ ap (λ (l : List Fe32). map char_of_element (reverse l)) (drop_all n (digits n number) (rw (length-tabulate n (digit_of number)) (omega arith)))

-- one more
pub characters_more : (n number i : ℕ) → i < n
    → map char_of_element (reverse (drop (n - (i + 1)) (digits n number)))
    ≡ map char_of_element (reverse (drop (n - i) (digits n number))) ++ char_of_element (digit_of number (n - 1 - i)) ∷ []
characters_more n number i below =
    let here : n - (i + 1) ≡ n - 1 - i = omega arith in
    let next : suc (n - 1 - i) ≡ n - i = omega arith in
    let inside : n - 1 - i < n = omega arith in
    let before : List Fe32 = reverse (drop (n - i) (digits n number)) in
    ap (map char_of_element)
    (ap (λ (k : ℕ). reverse (drop k (digits n number))) here ∙ reverse-digits n number (n - 1 - i) inside
    ∙ ap (λ (k : ℕ). reverse (drop k (digits n number)) ++ digit_of number (n - 1 - i) ∷ []) next)
    ∙ map-append char_of_element before (digit_of number (n - 1 - i) ∷ [])

-- ---- the pieces are the text

polynomial-parts : (hrp : List ℕ) (version fes checksum : List Fe32)
    → appended (appended (appended (appended (fe32.one ∷ []) (hrp_elements hrp)) version) fes) checksum
    ≡ text_polynomial hrp ((version ++ fes) ++ checksum)
polynomial-parts hrp version fes checksum =
    let front : List Fe32 = appended (fe32.one ∷ []) (hrp_elements hrp) in
    ap (λ p. appended p checksum) (sym (appended-append front version fes))
    ∙ sym (appended-append front (version ++ fes) checksum)
    ∙ sym (appended-append (fe32.one ∷ []) (hrp_elements hrp) ((version ++ fes) ++ checksum))

pub spelled-parts : (hrp : List ℕ) (version fes checksum : List Fe32)
    → ((text_front hrp ++ map char_of_element version) ++ map char_of_element fes) ++ map char_of_element checksum
    ≡ spelled hrp ((version ++ fes) ++ checksum)
spelled-parts hrp version fes checksum =
    let front : List ℕ = text_front hrp in
    let last : List ℕ = map char_of_element checksum in
    ap (λ (l : List ℕ). l ++ last) (append_assoc front (map char_of_element version) (map char_of_element fes))
    ∙ append_assoc front (map char_of_element version ++ map char_of_element fes) last
    ∙ ap (λ (l : List ℕ). front ++ l)
    (ap (λ (l : List ℕ). l ++ last) (sym (map-append char_of_element version fes)) ∙ sym (map-append char_of_element (version ++ fes) checksum))
    ∙ append_assoc (lowered hrp) (49 ∷ []) (map char_of_element ((version ++ fes) ++ checksum))

-- where an engine was given the human-readable part, the version, the elements and the target
pub encoded_pieces : {R : Type 0} → (number : R → ℕ) (code : Code) (degree : ℕ) → length code.generator ≡ degree → length code.target ≡ length code.generator
    → (hrp : List ℕ) (version fes : List Fe32) (residue row : R) (size : ℕ) → row ≡ residue → size ≡ degree
    → IsResidueOf number code residue (appended (appended (appended (appended (fe32.one ∷ []) (hrp_elements hrp)) version) fes) (reverse code.target))
    → IsEncodedText code hrp (version ++ fes)
    (((text_front hrp ++ map char_of_element version) ++ map char_of_element fes) ++ map char_of_element (reverse (digits size (number row))))
encoded_pieces number code degree wide target hrp version fes residue row size same is h =
    let p : List Fe32 = appended (appended (appended (fe32.one ∷ []) (hrp_elements hrp)) version) fes in
    let left : List Fe32 = digits size (number row) in
    let held : IsRemainder fe32.ops code.generator (appended p (reverse code.target)) left =
    subst (λ r. IsRemainder fe32.ops code.generator (appended p (reverse code.target)) (digits size (number r))) (sym same)
    (subst (λ k. IsRemainder fe32.ops code.generator (appended p (reverse code.target)) (digits k (number residue))) (wide ∙ sym is) h) in
    record {
      checksum = reverse left;
      is_checksum = record {
        size = length-reverse left ∙ length-tabulate size (digit_of (number row)) ∙ is ∙ sym wide;
        has_target = subst (λ q. IsRemainder fe32.ops code.generator q code.target) (polynomial-parts hrp version fes (reverse left))
            (checksum_of_target is_field code.generator p code.target left (λ x. refl) target held);
      };
      spelling = spelled-parts hrp version fes (reverse left);
    }
