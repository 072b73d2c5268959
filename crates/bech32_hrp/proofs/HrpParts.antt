-- The bytes of a human-readable part, in their row of 83.
use Rattle.std.proofs.Common.{◌≡◌, ℕ, ◌+◌, ◌-◌, ◌≤◌, true, List, [], ◌∷◌, ◌++◌, length, take, drop, map, replicate, refl, sym, ap, ◌∙◌, arith, length-take}
use Rattle.std.proofs.lemmas.Bool.Decides.{nat_tests}
use Rattle.std.proofs.lemmas.Bool.{and_parts, and_from, ltb-true, lt-ltb}
use Rattle.std.proofs.lemmas.List.{drop-replicate, drop_at, take_at, length-replicate, length-append, length-take-le, length-map}
use Rattle.std.proofs.lemmas.Str.Ascii.{IsAscii-nil, IsAscii-cons, lowercase_ascii}
use Rattle.std.specs.Char.{is_ascii, to_ascii_lowercase}
use Rattle.std.specs.List.{list_all}
use Rattle.std.specs.Str.{IsAscii}
use Rattle.bech32_hrp.specs.declared.Hrp.{Hrp}
use Rattle.bech32_hrp.specs.Hrp.{is_graphic, graphic_or_x, padded, lowered}
use Rattle.bech32_hrp.specs.HrpBytes.{hrp_bytes, lowered_bytes}

-- written over the front of 83 zeros
pub padded-from_front : (bytes front : List ℕ) → front ≡ bytes → front ++ drop (length bytes) (replicate 83 0) ≡ padded bytes
padded-from_front bytes front e = ap (λ (x : List ℕ). x ++ drop (length bytes) (replicate 83 0)) e ∙ ap (λ (x : List ℕ). bytes ++ x) (drop-replicate (length bytes) 83 0)

pub length-padded : (bytes : List ℕ) → length bytes ≤ 83 → length (padded bytes) ≡ 83
length-padded bytes l = length-append bytes (replicate (83 - length bytes) 0) ∙ ap (λ n. length bytes + n) (length-replicate (83 - length bytes) 0) ∙ omega arith

pub length-buf : (h : Hrp) → length h.buf ≡ 83
length-buf h = ap length h.zeros_behind ∙ length-padded (take h.size h.buf) (omega (arith, length-take {A = ℕ}, h.size_fits))

pub length-hrp_bytes : (h : Hrp) → length (hrp_bytes h) ≡ h.size
length-hrp_bytes h = length-take-le h.size h.buf (omega (arith, length-buf h, h.size_fits))

-- the zeros
-- bytes written over the front of a part's row, as many as the part has
pub padded-over : (n : ℕ) (bytes buf front : List ℕ) → buf ≡ padded bytes → length bytes ≡ n → length front ≡ n
    → front ++ drop n buf ≡ padded (take n (front ++ drop n buf))
padded-over n bytes buf front b e f =
    ap (λ (x : List ℕ). front ++ drop n x) b
    ∙ ap (λ (x : List ℕ). front ++ x) (drop_at bytes (replicate (83 - length bytes) 0) n e)
    ∙ ap (λ (k : ℕ). front ++ replicate (83 - k) 0) (e ∙ sym f)
    ∙ sym (ap padded (take_at front (drop n buf) n f))

graphic_lower : (b : ℕ) → is_graphic b ≡ true → is_graphic (to_ascii_lowercase b) ≡ true
graphic_lower b h = grind (arith, nat_tests)

pub lowered-graphic : (bytes : List ℕ) → list_all is_graphic bytes ≡ true → list_all is_graphic (lowered bytes) ≡ true
lowered-graphic [] h = refl
lowered-graphic (b ∷ bs) h =
    let parts = and_parts (is_graphic b) (list_all is_graphic bs) h in
    and_from (is_graphic (to_ascii_lowercase b)) (list_all is_graphic (lowered bs)) (graphic_lower b parts.0) (lowered-graphic bs parts.1)

ascii_graphic : (b : ℕ) → is_graphic b ≡ true → is_ascii b ≡ true
ascii_graphic b h = grind (arith, nat_tests)

ascii-from_graphic : (bytes : List ℕ) → list_all is_graphic bytes ≡ true → list_all is_ascii bytes ≡ true
ascii-from_graphic [] h = refl
ascii-from_graphic (b ∷ bs) h =
    let parts = and_parts (is_graphic b) (list_all is_graphic bs) h in
    and_from (is_ascii b) (list_all is_ascii bs) (ascii_graphic b parts.0) (ascii-from_graphic bs parts.1)

-- the bytes of a human-readable part are ASCII
pub hrp_bytes-ascii : (h : Hrp) → list_all is_ascii (hrp_bytes h) ≡ true
hrp_bytes-ascii h = ascii-from_graphic (hrp_bytes h) h.all_graphic

pub lowered-ascii : (bytes : List ℕ) → list_all is_ascii bytes ≡ true → list_all is_ascii (lowered bytes) ≡ true
lowered-ascii [] h = refl
lowered-ascii (b ∷ bs) h =
    let parts = and_parts (is_ascii b) (list_all is_ascii bs) h in
    and_from (is_ascii (to_ascii_lowercase b)) (list_all is_ascii (lowered bs))
    (lt-ltb (to_ascii_lowercase b) 128 (lowercase_ascii b (ltb-true b 128 parts.0))) (lowered-ascii bs parts.1)

pub IsAscii-from_list_all : (bytes : List ℕ) → list_all is_ascii bytes ≡ true → IsAscii bytes
IsAscii-from_list_all [] h = IsAscii-nil
IsAscii-from_list_all (b ∷ bs) h =
    let parts = and_parts (is_ascii b) (list_all is_ascii bs) h in
    IsAscii-cons b bs (ltb-true b 128 parts.0) (IsAscii-from_list_all bs parts.1)

length-lowered : (bytes : List ℕ) → length (lowered bytes) ≡ length bytes
length-lowered bytes = simp length-map

-- the part in lower case, written over the bytes
pub take-lower : (h : Hrp) (front : List ℕ) → front ≡ lowered_bytes h → take h.size (front ++ drop h.size h.buf) ≡ lowered_bytes h
take-lower h front e =
    take_at front (drop h.size h.buf) h.size (ap length e ∙ length-lowered (hrp_bytes h) ∙ length-hrp_bytes h) ∙ e

pub padded-lower : (h : Hrp) (front : List ℕ) → front ≡ lowered_bytes h → front ++ drop h.size h.buf ≡ padded (take h.size (front ++ drop h.size h.buf))
padded-lower h front e =
    padded-over h.size (hrp_bytes h) h.buf front h.zeros_behind (length-hrp_bytes h) (ap length e ∙ length-lowered (hrp_bytes h) ∙ length-hrp_bytes h)

pub graphic-lower : (h : Hrp) (front : List ℕ) → front ≡ lowered_bytes h → list_all is_graphic (take h.size (front ++ drop h.size h.buf)) ≡ true
graphic-lower h front e = ap (list_all is_graphic) (take-lower h front e) ∙ lowered-graphic (hrp_bytes h) h.all_graphic

graphic-or_x : (b : ℕ) → is_graphic (graphic_or_x b) ≡ true
graphic-or_x b = grind (arith, nat_tests)

graphic-all_or_x : (bytes : List ℕ) → list_all is_graphic (map graphic_or_x bytes) ≡ true
graphic-all_or_x [] = refl
graphic-all_or_x (b ∷ bs) = and_from (is_graphic (graphic_or_x b)) (list_all is_graphic (map graphic_or_x bs)) (graphic-or_x b) (graphic-all_or_x bs)

-- the bytes of any text, with `X` for those that are not graphic, are those of a part
module _ (bytes buf front : List ℕ) (b : buf ≡ padded bytes) (f : front ≡ map graphic_or_x (take (length bytes) buf)) where
  front-unchecked : front ≡ map graphic_or_x bytes
  front-unchecked =
      f ∙ ap (map graphic_or_x) (ap (take (length bytes)) b ∙ take_at bytes (replicate (83 - length bytes) 0) (length bytes) refl)

  length-unchecked : length front ≡ length bytes
  length-unchecked = ap length front-unchecked ∙ simp length-map

  pub take-unchecked : take (length bytes) (front ++ drop (length bytes) buf) ≡ map graphic_or_x bytes
  take-unchecked = take_at front (drop (length bytes) buf) (length bytes) length-unchecked ∙ front-unchecked

  pub padded-unchecked : front ++ drop (length bytes) buf ≡ padded (take (length bytes) (front ++ drop (length bytes) buf))
  padded-unchecked = padded-over (length bytes) bytes buf front b refl length-unchecked

  pub graphic-unchecked : list_all is_graphic (take (length bytes) (front ++ drop (length bytes) buf)) ≡ true
  graphic-unchecked = ap (list_all is_graphic) take-unchecked ∙ graphic-all_or_x bytes
