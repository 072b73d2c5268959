-- The elements of a human-readable part, place by place.
use Rattle.std.proofs.Common.{◌≡◌, ℕ, zero, suc, ◌+◌, ◌-◌, ◌*◌, ◌/◌, ◌<◌, ◌≤◌, List, [], ◌∷◌, ◌++◌, length, map, get_or, drop, Some, None, sym, ap, ◌∙◌, refl, arith, add-one, length-append}
use Rattle.std.specs.Prelude.{slice_get}
use Rattle.std.specs.Char.{to_ascii_lowercase}
use Rattle.std.specs.Option.{option_map}
use Rattle.std.proofs.Math.Seq.{drop-cons}
use Rattle.std.proofs.lemmas.List.{length-map}
use Rattle.std.proofs.lemmas.Option.{slice_get-map, slice_get-get_or, slice_get_past, slice_get_within, get_or_from_slice_get}
use Rattle.bech32_gf.specs.Fe32 as fe32
use Rattle.bech32_gf.specs.declared.gf32.Fe32.{Fe32}
use Rattle.bech32_hrp.specs.Hrp.{lowered}
use Rattle.bech32_checksum.specs.TextPolynomial.{hrp_elements}

module _ {A : Type 0} where
  slice_get-append_left : (xs ys : List A) (i : ℕ) → i < length xs → slice_get (xs ++ ys) i ≡ slice_get xs i
  slice_get-append_left [] ys i h = absurd (omega arith)
  slice_get-append_left (x ∷ xs) ys zero h = refl
  slice_get-append_left (x ∷ xs) ys (suc i) h = slice_get-append_left xs ys i (omega arith)

  slice_get-append_right : (xs ys : List A) (i j : ℕ) → i ≡ length xs + j → slice_get (xs ++ ys) i ≡ slice_get ys j
  slice_get-append_right [] ys i j e = let same : i ≡ j = omega arith in ap (slice_get ys) same
  slice_get-append_right (x ∷ xs) ys zero j e = absurd (omega arith)
  slice_get-append_right (x ∷ xs) ys (suc i) j e = slice_get-append_right xs ys i j (omega arith)

  -- the first of what is left from a place on
  pub drop_of_some : (xs : List A) (i : ℕ) (x : A) → slice_get xs i ≡ Some x → drop i xs ≡ x ∷ drop (i + 1) xs
  drop_of_some xs i x e =
      drop-cons xs i x (slice_get_within xs i x e)
      ∙ ap (λ y. y ∷ drop (suc i) xs) (get_or_from_slice_get xs i x x e)
      ∙ ap (λ (n : ℕ). x ∷ drop n xs) (sym (add-one i))

  -- nothing is left past the end
  pub drop_of_none : (xs : List A) (i : ℕ) → slice_get xs i ≡ None → drop i xs ≡ []
  drop_of_none [] zero e = refl
  drop_of_none [] (suc i) e = refl
  drop_of_none (x ∷ xs) zero e = absurd (cc)
  drop_of_none (x ∷ xs) (suc i) e = drop_of_none xs i e

mapped : (f : ℕ → Fe32) (bytes : List ℕ) (i : ℕ) → i < length bytes → slice_get (map f (lowered bytes)) i ≡ Some (f (to_ascii_lowercase (get_or bytes i 0)))
mapped f bytes i h =
    slice_get-map f (lowered bytes) i
    ∙ ap (option_map f) (slice_get-map to_ascii_lowercase bytes i ∙ ap (option_map to_ascii_lowercase) (slice_get-get_or bytes i 0 h))

length-lowered : (f : ℕ → Fe32) (bytes : List ℕ) → length (map f (lowered bytes)) ≡ length bytes
length-lowered f bytes = length-map (lowered bytes) f ∙ length-map bytes to_ascii_lowercase

module _ (bytes : List ℕ) where
  high : List Fe32
  high = map (λ (b : ℕ). fe32.element (b / 32)) (lowered bytes)

  low : List Fe32
  low = map fe32.element (lowered bytes)

  pub high_at : (i : ℕ) (e : Fe32) → i < length bytes → e ≡ fe32.element (to_ascii_lowercase (get_or bytes i 0) / 32)
      → Some e ≡ slice_get (hrp_elements bytes) i
  unfolding high low
  high_at i e h is =
      let size : length high ≡ length bytes = length-lowered _ bytes in
      ap Some is ∙ sym (slice_get-append_left high (fe32.zero ∷ low) i (omega arith) ∙ mapped _ bytes i h)

  pub zero_at : (i : ℕ) (e : Fe32) → i ≡ length bytes → e.value ≡ 0 → Some e ≡ slice_get (hrp_elements bytes) i
  unfolding high low
  zero_at i e h is =
      let size : length high ≡ length bytes = length-lowered _ bytes in
      ap Some (fe32.path e fe32.zero is) ∙ sym (slice_get-append_right high (fe32.zero ∷ low) i 0 (omega arith))

  pub low_at : (i : ℕ) (e : Fe32) → length bytes < i → i ≤ 2 * length bytes → e ≡ fe32.element (to_ascii_lowercase (get_or bytes (i - length bytes - 1) 0))
      → Some e ≡ slice_get (hrp_elements bytes) i
  unfolding high low
  low_at i e more less is =
      let size : length high ≡ length bytes = length-lowered _ bytes in
      ap Some is
      ∙ sym (slice_get-append_right high (fe32.zero ∷ low) i (suc (i - length bytes - 1)) (omega arith) ∙ mapped fe32.element bytes (i - length bytes - 1) (omega arith))

  pub length-hrp_elements : length (hrp_elements bytes) ≡ 2 * length bytes + 1
  unfolding high low
  length-hrp_elements =
      let size : length high ≡ length bytes = length-lowered _ bytes in
      let others : length low ≡ length bytes = length-lowered _ bytes in
      length-append high (fe32.zero ∷ low) ∙ (omega arith)

  pub none_at : (i : ℕ) → 2 * length bytes < i → None ≡ slice_get (hrp_elements bytes) i
  none_at i h = sym (slice_get_past (hrp_elements bytes) i (omega (arith, length-hrp_elements)))

-- one element of the first ones is taken
pub fewer : {A : Type 0} (xs ys : List A) (x : A) → xs ≡ x ∷ ys → length ys < length xs
fewer xs ys x e = let size : length xs ≡ suc (length ys) = ap length e in omega arith
