-- Typed texts as they are read, in UTF-8.
use Rattle.std.specs.Prelude.{◌≢◌}
use Rattle.std.specs.Str.{IsUtf8}
use Rattle.std.proofs.Common.{◌≡◌, ℕ, suc, ◌+◌, ◌-◌, ◌<◌, Bool, true, cond, eqb, List, [], ◌∷◌, ◌++◌, length, take, drop, get_or, set, inl, inr, refl, sym, ap, ◌∙◌, arith}
use Rattle.std.proofs.Math.Utf8.{encode, encodes, scalar, scalars}
use Rattle.std.proofs.Math.Seq.{drop-cons, take_at}
use Rattle.std.proofs.lemmas.Bool.{cond-false, ne_eqb, and_parts, and_from}
use Rattle.std.proofs.lemmas.Bool.Decides.{eqb_tells}
use Rattle.std.proofs.lemmas.List.{append-nil, append_assoc, length-map, length-take-le, map-append, map_more, set-append_right, take_all}
use Rattle.std.proofs.lemmas.Str.{encode_ascii, inside_one}
use Rattle.bech32_suggest.specs.Typed.{typed_character, as_read}

-- ---- in UTF-8

read_plain : (bs : List ℕ) → ((k : ℕ) → k < length bs → get_or bs k 0 ≢ 63) → as_read bs ≡ bs
read_plain [] h = refl
read_plain (b ∷ bs) h =
    let here : typed_character b ≡ b = cond-false (eqb b 63) 48 b (ne_eqb b 63 (h 0 (omega arith))) in
    let rest : as_read bs ≡ bs = read_plain bs (λ k l. h (suc k) (omega (arith, l))) in
    λ i. here i ∷ rest i

-- the bytes of a character as they are read are those of the character as it is read
read_encoded : (c : ℕ) → as_read (encode c) ≡ encode (typed_character c)
read_encoded c = elim (eqb_tells c 63) [
  | inl h ↦
      let low : encode c ≡ c ∷ [] = encode_ascii c (omega (arith, h.1)) in
      let zero_low : encode 48 ≡ 48 ∷ [] = encode_ascii 48 (omega arith) in
      ap as_read low ∙ ap (λ (b : Bool). cond b 48 c ∷ []) h.0 ∙ sym zero_low ∙ ap (λ (b : Bool). encode (cond b 48 c)) (sym h.0)
  | inr h ↦ read_plain (encode c) (λ k l e.
      let low : get_or (encode c) k 0 < 128 = omega (arith, e) in
      h.1 (inside_one c [] (encode c) k (sym (append-nil (encode c))) l low ∙ e))
      ∙ ap (λ (b : Bool). encode (cond b 48 c)) (sym h.0)
]

read_encodes : (cs : List ℕ) → encodes (as_read cs) ≡ as_read (encodes cs)
read_encodes [] = refl
read_encodes (c ∷ cs) =
    ap (λ (l : List ℕ). l ++ encodes (as_read cs)) (sym (read_encoded c))
    ∙ ap (λ (l : List ℕ). as_read (encode c) ++ l) (read_encodes cs)
    ∙ sym (map-append typed_character (encode c) (encodes cs))

read_scalar : (c : ℕ) → scalar c ≡ true → scalar (typed_character c) ≡ true
read_scalar c h = elim (eqb_tells c 63) [
  | inl is ↦ ap (λ (b : Bool). scalar (cond b 48 c)) is.0
  | inr is ↦ ap (λ (b : Bool). scalar (cond b 48 c)) is.0 ∙ h
]

read_scalars : (cs : List ℕ) → scalars cs ≡ true → scalars (as_read cs) ≡ true
read_scalars [] h = refl
read_scalars (c ∷ cs) h =
    let parts = and_parts (scalar c) (scalars cs) h in
    and_from (scalar (typed_character c)) (scalars (as_read cs)) (read_scalar c parts.0) (read_scalars cs parts.1)

-- a text is one as it is read
pub utf8_read : (typed : List ℕ) → IsUtf8 typed → IsUtf8 (as_read typed)
utf8_read typed u = (as_read u.0, (read_scalars u.0 u.1.0, read_encodes u.0 ∙ ap as_read u.1.1))

-- ---- in a buffer

-- one more byte at the front
put_one : (front old : List ℕ) (i x : ℕ) → length front ≡ i → i < length old → set (front ++ drop i old) i x ≡ (front ++ (x ∷ [])) ++ drop (i + 1) old
put_one front old i x size less =
    let on : suc i ≡ i + 1 = omega arith in
    let none : i - i ≡ 0 = omega arith in
    set-append_right front (drop i old) i i x size (omega arith)
    ∙ ap (λ (k : ℕ). front ++ set (drop i old) k x) none
    ∙ ap (λ (l : List ℕ). front ++ set l 0 x) (drop-cons old i 0 less)
    ∙ ap (λ (k : ℕ). front ++ (x ∷ drop k old)) on
    ∙ sym (append_assoc front (x ∷ []) (drop (i + 1) old))

-- one more character is read
pub read_more : (typed old b : List ℕ) (i d : ℕ) → i < length typed → i < length old → b ≡ as_read (take i typed) ++ drop i old → d ≡ typed_character (get_or typed i 0)
    → set b i d ≡ as_read (take (i + 1) typed) ++ drop (i + 1) old
read_more typed old b i d less room so_far is =
    ap (set b i) is
    ∙ ap (λ (l : List ℕ). set l i (typed_character (get_or typed i 0))) so_far
    ∙ put_one (as_read (take i typed)) old i (typed_character (get_or typed i 0)) (length-map (take i typed) typed_character ∙ length-take-le i typed (omega (arith, less))) room
    ∙ ap (λ (l : List ℕ). l ++ drop (i + 1) old) (sym (map_more typed_character typed i 0 less))

-- all are read
pub read_all : (typed old b : List ℕ) (i : ℕ) → i ≡ length typed → b ≡ as_read (take i typed) ++ drop i old → take (length typed) b ≡ as_read typed
read_all typed old b i at so_far =
    let whole : take i typed ≡ typed = take_all i typed (omega (arith, at)) in
    ap (take (length typed)) so_far
    ∙ take_at (as_read (take i typed)) (drop i old) (length typed) (length-map (take i typed) typed_character ∙ ap length whole)
    ∙ ap as_read whole
