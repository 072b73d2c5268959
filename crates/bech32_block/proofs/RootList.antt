-- The exponents of the roots.
use Rattle.std.specs.List.{All, Contains, filter, range_with_len}
use Rattle.std.specs.List.Sorted.{IsStrictlyIncreasing}
use Rattle.std.specs.Prelude.{◌↔◌, IsTrue}
use Rattle.std.proofs.Common.{◌≡◌, ◌<◌, ◌+◌, ◌-◌, ℕ, Bool, true, false, cond, List, [], ◌∷◌, ◌++◌, length, get_or, map, reverse, append-nil, map-id, sym, ap, ◌∙◌, arith}
use Rattle.std.proofs.lemmas.List.{reverse-append}
use Rattle.std.proofs.lemmas.List.Elements.{All-filter, All-contains, filter_passes}
use Rattle.std.proofs.lemmas.List.FromFn.{length-range_with_len, get_or-range_with_len, filter_of_map_range_with_len_more}
use Rattle.std.proofs.lemmas.List.Kept.{IsStrictlyIncreasing-filter}
use Rattle.bech32_gf.specs.Field.{Ops, IsField, power, value_at}
use Rattle.bech32_gf.specs.Fe32 as fe32
use Rattle.bech32_gf.specs.laws.Fe32Laws as fe32_laws
use Rattle.bech32_gf.specs.laws.Ring.{ring}
use Rattle.bech32_gf.specs.declared.gf32.Fe32.{Fe32}
use Rattle.bech32_poly.specs.Embedding.{Embeds, value_in}
use Rattle.bech32_poly.specs.Remainder.{monic}
use Rattle.bech32_poly.specs.RootSearch.{root_exponents}
use Rattle.bech32_poly.proofs.Embedding.{value_in-monic}
use Rattle.bech32_checksum.specs.Roots.{generator_at}
use Rattle.bech32_packing.specs.Words.{code_of_written}
use Rattle.bech32_block.specs.Roots.{RootField, roots_of}

range-rises : (a n : ℕ) → IsStrictlyIncreasing (range_with_len a n)
range-rises a n = λ k h.
    let size : length (range_with_len a n) ≡ n = length-range_with_len a n in
    let here : get_or (range_with_len a n) k 0 ≡ a + k = get_or-range_with_len a n k 0 (omega arith) in
    let next : get_or (range_with_len a n) (k + 1) 0 ≡ a + (k + 1) = get_or-range_with_len a n (k + 1) 0 (omega arith) in
    omega arith

range-below : (n m : ℕ) → n ≡ m → All (λ i. i < m) (range_with_len 0 n)
range-below n m same = λ k d h.
    let size : length (range_with_len 0 n) ≡ n = length-range_with_len 0 n in
    let here : get_or (range_with_len 0 n) k d ≡ 0 + k = get_or-range_with_len 0 n k d (omega arith) in
    omega arith

module _ {E : Type 0} (f : RootField E) (g : List Fe32) where
  abbrev is_root : ℕ → Bool
  is_root k = f.same (value_at f.ops (power f.ops f.generator k) (map f.embed (monic fe32.ops (reverse g)))) f.ops.zero

  pub roots-rise : IsStrictlyIncreasing (roots_of f g)
  roots-rise = IsStrictlyIncreasing-filter is_root (range_with_len 0 (f.order - 0)) (range-rises 0 (f.order - 0))

  pub roots-below : All (λ i. i < f.order) (roots_of f g)
  roots-below = All-filter is_root (λ i. i < f.order) (range_with_len 0 (f.order - 0)) (range-below (f.order - 0) f.order (omega arith))

  -- the exponents of roots below n
  abbrev pub exponents_below : ℕ → List ℕ
  exponents_below n = root_exponents f.ops f.same (map f.embed (monic fe32.ops (reverse g))) f.generator 0 n

  one_more : (n : ℕ) → exponents_below (n + 1) ≡ exponents_below n ++ cond (is_root n) (n ∷ []) []
  one_more n =
      let up : n + 1 - 0 ≡ n + 1 = omega arith in
      let down : n ≡ n - 0 = omega arith in
      let place : 0 + n ≡ n = omega arith in
      ap (λ m. filter is_root (range_with_len 0 m)) up
      ∙ ap (filter is_root) (sym (map-id (range_with_len 0 (n + 1))))
      ∙ filter_of_map_range_with_len_more is_root (λ k. k) 0 n n place
      ∙ ap (λ ks. filter is_root ks ++ cond (is_root n) (n ∷ []) []) (map-id (range_with_len 0 n))
      ∙ ap (λ m. filter is_root (range_with_len 0 m) ++ cond (is_root n) (n ∷ []) []) down

  told : (n : ℕ) (x value nothing : E) (answer : Bool) → x ≡ power f.ops f.generator n
      → value ≡ value_in f.ops f.embed (monic fe32.ops (reverse g)) x → nothing ≡ f.ops.zero → answer ≡ f.same value nothing
      → is_root n ≡ answer
  told n x value nothing answer x_is value_is nothing_is is =
      sym
      (is
      ∙ ap (λ v. f.same v nothing) (value_is ∙ ap (value_in f.ops f.embed (monic fe32.ops (reverse g))) x_is)
      ∙ ap (f.same (value_in f.ops f.embed (monic fe32.ops (reverse g)) (power f.ops f.generator n))) nothing_is)

  -- the search puts a root behind those that it has found
  pub root_found : (n : ℕ) (x value nothing : E) (answer : Bool) (found found' : List ℕ) → x ≡ power f.ops f.generator n
      → value ≡ value_in f.ops f.embed (monic fe32.ops (reverse g)) x → nothing ≡ f.ops.zero → answer ≡ f.same value nothing
      → answer ≡ true → found ≡ exponents_below n → found' ≡ found ++ (n ∷ []) → found' ≡ exponents_below (n + 1)
  root_found n x value nothing answer found found' x_is value_is nothing_is is e before pushed =
      pushed
      ∙ ap (λ ks. ks ++ (n ∷ [])) before
      ∙ sym (one_more n ∙ ap (λ b. exponents_below n ++ cond b (n ∷ []) []) (told n x value nothing answer x_is value_is nothing_is is ∙ e))

  -- and goes past what is none
  pub root_missed : (n : ℕ) (x value nothing : E) (answer : Bool) (found found' : List ℕ) → x ≡ power f.ops f.generator n
      → value ≡ value_in f.ops f.embed (monic fe32.ops (reverse g)) x → nothing ≡ f.ops.zero → answer ≡ f.same value nothing
      → answer ≡ false → found ≡ exponents_below n → found' ≡ found → found' ≡ exponents_below (n + 1)
  root_missed n x value nothing answer found found' x_is value_is nothing_is is e before kept =
      kept
      ∙ before
      ∙ sym
      (one_more n
      ∙ ap (λ b. exponents_below n ++ cond b (n ∷ []) []) (told n x value nothing answer x_is value_is nothing_is is ∙ e)
      ∙ append-nil (exponents_below n))

  -- at the order it has all
  pub all_found : (n : ℕ) (found : List ℕ) → n ≡ f.order → found ≡ exponents_below n → found ≡ roots_of f g
  all_found n found whole is = is ∙ ap exponents_below whole

  -- each is the exponent of a root
  pub root_at : (l : IsField f.ops) → Embeds fe32.ops f.ops f.embed → ((x y : E) → IsTrue (f.same x y) ↔ (x ≡ y))
      → (target : List Fe32) (code_length i : ℕ) → Contains (roots_of f g) i
      → generator_at f.ops f.embed (code_of_written g target code_length) (power f.ops f.generator i) ≡ f.ops.zero
  root_at l into tells target code_length i c =
      let x = power f.ops f.generator i in
      let passes : is_root i ≡ true =
      All-contains (λ k. is_root k ≡ true) (roots_of f g) i (filter_passes is_root (range_with_len 0 (f.order - 0))) c in
      sym (value_in-monic fe32_laws.is_field l into (reverse g) x) ∙ (tells _ _).0 passes

-- the value of a generator, one coefficient after another

module _ {E : Type 0} {o : Ops E} (l : IsField o) (embed : Fe32 → E) where
  none_above : (a x : E) → a ≡ o.add a (o.mul x o.zero)
  none_above a x = simp (ring, l)

  pub value_start : (x value : E) → value ≡ o.one → embed fe32.one ≡ o.one → value ≡ value_in o embed (monic fe32.ops (reverse [])) x
  value_start x value is one = is ∙ sym one ∙ none_above (embed fe32.one) x

  pub value_next : (ys zs : List Fe32) (c : Fe32) (x value lifted product : E) → zs ≡ ys ++ (c ∷ [])
      → value ≡ value_in o embed (monic fe32.ops (reverse ys)) x → lifted ≡ embed c → product ≡ o.mul x value
      → o.add lifted product ≡ value_in o embed (monic fe32.ops (reverse zs)) x
  value_next ys zs c x value lifted product more is lift_is product_is =
      ap (λ a. o.add a product) lift_is
      ∙ ap (λ b. o.add (embed c) b) product_is
      ∙ ap (λ v. o.add (embed c) (o.mul x v)) is
      ∙ sym
      (ap (λ ws. value_in o embed (monic fe32.ops (reverse ws)) x) more
      ∙ ap (λ ws. value_in o embed (monic fe32.ops ws) x) (reverse-append ys (c ∷ [])))
