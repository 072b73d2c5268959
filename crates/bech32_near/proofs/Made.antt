-- The bytes of the text that an edit makes.
use Rattle.std.specs.List.{list_all}
use Rattle.std.specs.Str.{IsAscii}
use Rattle.std.specs.Char.{to_ascii_lowercase}
use Rattle.std.specs.Prelude.{◌==◌, nat_le, IfOk, Result, Ok, Err}
use Rattle.std.proofs.Common.{◌≡◌, ℕ, ◌+◌, ◌-◌, ◌<◌, ◌≤◌, true, List, [], ◌∷◌, ◌++◌, map, length, length-append, append_assoc, take, drop, subst, sym, ap, ◌∙◌, refl, arith}
use Rattle.std.proofs.lemmas.Bool.{and_parts, eqb-true, leb-true}
use Rattle.std.proofs.lemmas.List.{drop-map, drop_at, length-map, map-append, take-map, take_at}
use Rattle.std.proofs.lemmas.Str.{IsAscii-append}
use Rattle.std.proofs.lemmas.Str.Ascii.{IsAscii-cons, IsAscii-nil}
use Rattle.bech32_gf.specs.Alphabet.{char_of}
use Rattle.bech32_gf.specs.Fe32.{elements_of}
use Rattle.bech32_gf.specs.declared.gf32.Fe32.{Fe32}
use Rattle.bech32_gf.specs.laws.Below.{each_below-at}
use Rattle.bech32_hrp.specs.Hrp.{is_graphic, lowered}
use Rattle.bech32_checksum.specs.Encoded.{char_of_element, spelled}
use Rattle.bech32_decode.specs.Text.{IsText}
use Rattle.bech32_decode.proofs.Letters.{IsAscii-from_data}
use Rattle.bech32_decode.proofs.Spelling.{lower_text}
use Rattle.bech32_near.specs.edits.Edits.{Becomes, IsEdit}
use Rattle.bech32_near.specs.declared.edits.edit.Change.{Change}
use Rattle.bech32_near.specs.declared.edits.edit.Change.TheVariants.{LeftOut, PutIn, Swapped}
use Rattle.bech32_near.specs.declared.edits.edit.Edit.{Edit}

-- ---- texts are ASCII

ascii_graphic : (bytes : List ℕ) → list_all is_graphic bytes ≡ true → IsAscii bytes
ascii_graphic [] h = IsAscii-nil
ascii_graphic (b ∷ bs) h =
    let parts = and_parts (is_graphic b) (list_all is_graphic bs) h in
    let most = leb-true b 126 (and_parts (nat_le 33 b) (nat_le b 126) parts.0).1 in
    IsAscii-cons b bs (omega (arith, most)) (ascii_graphic bs parts.1)

pub ascii_text : (text hrp data_part : List ℕ) → IsText text hrp data_part → IsAscii text
ascii_text text hrp data_part is =
    subst IsAscii (sym is.split) (IsAscii-append hrp (49 ∷ data_part) (ascii_graphic hrp is.is_hrp.graphic) (IsAscii-cons 49 data_part (omega arith) (IsAscii-from_data data_part is.data_bytes)))

-- ---- the characters of elements are in lower case

low_character : (v : ℕ) → v < 32 → to_ascii_lowercase (char_of v) ≡ char_of v
low_character v h = eqb-true _ _ (each_below-at 32 (λ v. to_ascii_lowercase (char_of v) == char_of v) refl v h)

low_characters : (xs : List Fe32) → lowered (map char_of_element xs) ≡ map char_of_element xs
low_characters [] = refl
low_characters (x ∷ xs) = λ i. low_character x.value x.in_field i ∷ low_characters xs i

-- ---- some bytes in place of others

module _ (text hrp data_part : List ℕ) (is : IsText text hrp data_part) (front olds news behind : List Fe32) (old_is : elements_of data_part ≡ front ++ (olds ++ behind)) where
  abbrev before : List ℕ
  before = lowered hrp ++ (49 ∷ map char_of_element front)

  pub length-text : length text ≡ length before + length olds + length behind
  length-text =
      let low : lowered text ≡ before ++ map char_of_element (olds ++ behind) =
      lower_text text hrp data_part is ∙ ap (spelled hrp) old_is
      ∙ ap (λ (u : List ℕ). lowered hrp ++ (49 ∷ u)) (map-append char_of_element front (olds ++ behind))
      ∙ sym (append_assoc (lowered hrp) (49 ∷ map char_of_element front) (map char_of_element (olds ++ behind))) in
      omega (
        arith,
        ap (λ (u : List ℕ). length u) low,
        length-map text to_ascii_lowercase,
        length-append before (map char_of_element (olds ++ behind)),
        length-map (olds ++ behind) char_of_element,
        length-append olds behind,
      )

  low_parts : lowered text ≡ before ++ (map char_of_element olds ++ map char_of_element behind)
  low_parts =
      lower_text text hrp data_part is ∙ ap (spelled hrp) old_is
      ∙ ap (λ (u : List ℕ). lowered hrp ++ (49 ∷ u)) (map-append char_of_element front (olds ++ behind))
      ∙ sym (append_assoc (lowered hrp) (49 ∷ map char_of_element front) (map char_of_element (olds ++ behind)))
      ∙ ap (λ (u : List ℕ). before ++ u) (map-append char_of_element olds behind)

  pub made : (start end : ℕ) (middle : List ℕ) → end + length behind ≡ length text → start + length olds ≡ end → middle ≡ map char_of_element news
      → lowered (take start text ++ middle ++ drop end text) ≡ spelled hrp (front ++ (news ++ behind))
  made start end middle at size is_news =
      let first : length before ≡ start = omega (arith, length-text, at, size) in
      let second : length (before ++ map char_of_element olds) ≡ end = omega (arith, first, size, length-append before (map char_of_element olds), length-map olds char_of_element) in
      let left : lowered (take start text) ≡ before =
      sym (take-map to_ascii_lowercase start text) ∙ ap (take start) low_parts ∙ take_at before (map char_of_element olds ++ map char_of_element behind) start first in
      let right : lowered (drop end text) ≡ map char_of_element behind =
      sym (drop-map to_ascii_lowercase end text) ∙ ap (drop end) (low_parts ∙ sym (append_assoc before (map char_of_element olds) (map char_of_element behind)))
      ∙ drop_at (before ++ map char_of_element olds) (map char_of_element behind) end second in
      let center : lowered middle ≡ map char_of_element news = ap lowered is_news ∙ low_characters news in
      map-append to_ascii_lowercase (take start text ++ middle) (drop end text)
      ∙ ap (λ (u : List ℕ). u ++ lowered (drop end text)) (map-append to_ascii_lowercase (take start text) middle)
      ∙ (λ i. left i ++ center i ++ right i)
      ∙ append_assoc before (map char_of_element news) (map char_of_element behind)
      ∙ ap (λ (u : List ℕ). before ++ u) (sym (map-append char_of_element news behind))
      ∙ append_assoc (lowered hrp) (49 ∷ map char_of_element front) (map char_of_element (news ++ behind))
      ∙ ap (λ (u : List ℕ). lowered hrp ++ (49 ∷ u)) (sym (map-append char_of_element front (news ++ behind)))

-- ---- by the kind of the edit

becomes_at : (edit : Edit) (change : Change) (old new : List Fe32) → edit.change ≡ change → (e : IsEdit edit old new) → Becomes change e.front e.behind old new
becomes_at edit change old new is e = subst (λ (u : Change). Becomes u e.front e.behind old new) is e.becomes

module _ (edit : Edit) (text hrp data_part : List ℕ) (new : List Fe32) (is : IsText text hrp data_part) (e : IsEdit edit (elements_of data_part) new) where
  pub swap_fits : (x y : Fe32) → edit.change ≡ Swapped x y → edit.location + 2 ≤ length text
  swap_fits x y c =
      let b = becomes_at edit (Swapped x y) (elements_of data_part) new c e in
      omega (arith, length-text text hrp data_part is e.front (x ∷ y ∷ []) [] e.behind b.0, e.location_is)

  pub left_out_fits : (x : Fe32) → edit.change ≡ LeftOut x → edit.location + 1 ≤ length text
  left_out_fits x c =
      let b = becomes_at edit (LeftOut x) (elements_of data_part) new c e in
      omega (arith, length-text text hrp data_part is e.front (x ∷ []) [] e.behind b.0, e.location_is)

  pub put_in_fits : (x : Fe32) → edit.change ≡ PutIn x → edit.location ≤ length text
  put_in_fits x c =
      let b = becomes_at edit (PutIn x) (elements_of data_part) new c e in
      omega (arith, length-text text hrp data_part is e.front [] [] e.behind b.0, e.location_is)

  pub swap_made : (x y : Fe32) → edit.change ≡ Swapped x y → (middle : List ℕ) → middle ≡ map char_of_element (y ∷ x ∷ [])
      → lowered (take (length text - edit.location - 2) text ++ middle ++ drop (length text - edit.location) text) ≡ spelled hrp new
  swap_made x y c middle m =
      let b = becomes_at edit (Swapped x y) (elements_of data_part) new c e in
      let fits = swap_fits x y c in
      made text hrp data_part is e.front (x ∷ y ∷ []) (y ∷ x ∷ []) e.behind b.0 (length text - edit.location - 2) (length text - edit.location) middle
      (omega (arith, fits, e.location_is)) (omega (arith, fits)) m
      ∙ ap (spelled hrp) (sym b.1)

  pub left_out_made : (x : Fe32) → edit.change ≡ LeftOut x
      → lowered (take (length text - edit.location - 1) text ++ [] ++ drop (length text - edit.location) text) ≡ spelled hrp new
  left_out_made x c =
      let b = becomes_at edit (LeftOut x) (elements_of data_part) new c e in
      let fits = left_out_fits x c in
      made text hrp data_part is e.front (x ∷ []) [] e.behind b.0 (length text - edit.location - 1) (length text - edit.location) []
      (omega (arith, fits, e.location_is)) (omega (arith, fits)) refl
      ∙ ap (spelled hrp) (sym b.1)

  pub put_in_made : (x : Fe32) → edit.change ≡ PutIn x → (middle : List ℕ) → middle ≡ map char_of_element (x ∷ [])
      → lowered (take (length text - edit.location) text ++ middle ++ drop (length text - edit.location) text) ≡ spelled hrp new
  put_in_made x c middle m =
      let b = becomes_at edit (PutIn x) (elements_of data_part) new c e in
      let fits = put_in_fits x c in
      made text hrp data_part is e.front [] (x ∷ []) e.behind b.0 (length text - edit.location) (length text - edit.location) middle
      (omega (arith, fits, e.location_is)) (omega arith) m
      ∙ ap (spelled hrp) (sym b.1)

-- ---- of what a call returned

pub spelled_by : {S E : Type 0} (bytes : S → List ℕ) (r : Result S E) (made : List ℕ) (edit : Edit) (text : List ℕ)
    → ((hrp data_part : List ℕ) (new : List Fe32) → IsText text hrp data_part → IsEdit edit (elements_of data_part) new → made ≡ spelled hrp new)
    → IfOk r (λ s. bytes s ≡ made)
    → IfOk r (λ s. (hrp data_part : List ℕ) (new : List Fe32) → IsText text hrp data_part → IsEdit edit (elements_of data_part) new → bytes s ≡ spelled hrp new)
spelled_by bytes (Ok s) made edit text all h = λ hrp data_part new is e. h ∙ all hrp data_part new is e
spelled_by bytes (Err e) made edit text all h = tt

-- the middle is ASCII
pub two_ascii : (x y : ℕ) → x < 128 → y < 128 → IsAscii (x ∷ y ∷ [])
two_ascii x y h k = IsAscii-cons x (y ∷ []) h (IsAscii-cons y [] k IsAscii-nil)

pub one_ascii : (x : ℕ) → x < 128 → IsAscii (x ∷ [])
one_ascii x h = IsAscii-cons x [] h IsAscii-nil
