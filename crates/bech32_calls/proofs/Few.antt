-- How many texts are near one: two patterns of two errors that leave one remainder share no place.
use Rattle.std.specs.Prelude.{◌≢◌, true, false, Bool, map, Result, Ok, Err, IfOk}
use Rattle.std.specs.List.{AllByRecursion}
use Rattle.std.proofs.Common.{◌≡◌, ◌<◌, ◌≤◌, ◌+◌, ◌*◌, ◌⊎◌, ℕ, zero, suc, List, [], ◌∷◌, ◌++◌, length, length-append, inl, inr, refl, sym, ap, subst, ◌∙◌, arith}
use Rattle.std.proofs.lemmas.Bool.Decides.{eqb_tells}
use Rattle.std.proofs.lemmas.List.{length-map}
use Rattle.std.proofs.Math.Decide.{dec_lt}
use Rattle.bech32_gf.specs.Fe32.{ops, value}
use Rattle.bech32_gf.specs.Field.{Ops, IsField}
use Rattle.bech32_gf.specs.declared.gf32.Fe32.{Fe32}
use Rattle.bech32_gf.specs.laws.Fe32Laws.{is_field}
use Rattle.bech32_gf_ext.specs.Fe1024 as fe1024
use Rattle.bech32_gf_ext.specs.laws.Fe1024Laws as fe1024_laws
use Rattle.bech32_gf_ext.specs.declared.Fe32Ext.{Fe32Ext}
use Rattle.bech32_poly.specs.Distinct.{IsAmong, IsOnce}
use Rattle.bech32_poly.specs.Division.{remainder_of}
use Rattle.bech32_poly.specs.Embedding.{Embeds}
use Rattle.bech32_poly.specs.Pattern.{pattern_polynomial, value_of_pattern_at}
use Rattle.bech32_poly.proofs.Remainder.{remainder_of-itself, remainder_of-same, remainder_unique}
use Rattle.bech32_checksum.specs.Code.{Code, bech32, bech32m}
use Rattle.bech32_checksum.specs.Roots.{AreLawfulRoots}
use Rattle.bech32_checksum.specs.laws.RootLaws.{base, bech32_roots, bech32m_roots}
use Rattle.bech32_bch.specs.Knock.{without}
use Rattle.bech32_bch.specs.Pattern.{HasRemainder, errors_outside, locations}
use Rattle.bech32_bch.specs.Search.{AreUsableRoots}
use Rattle.bech32_bch.proofs.Alone.{All-without, length-without_mem, mem-without}
use Rattle.bech32_bch.proofs.Candidates.{apart_inside}
use Rattle.bech32_bch.proofs.Counting.{alone, outside, outside_located}
use Rattle.bech32_bch.proofs.Patterns.{all_located}
use Rattle.bech32_bch.proofs.Places.{all_of, length-locations, look, mem_left, mem_right, mem_split, once-append, once_fits}
use Rattle.bech32_bch.proofs.Usable.{usable}
use Rattle.bech32_near.specs.search.Nearest.{AreRising, IsEarlier, IsNearListing, IsNearestList}
use Rattle.bech32_near.proofs.NearestAlone.{Leaves, gathered_leaves}
use Rattle.bech32_near.proofs.NearestListing.{all_weaker}
use Rattle.bech32_near.proofs.NearestPatterns.{gathered_of}
use Rattle.bech32_near.specs.NearTexts.{AreNearTexts}
use Rattle.bech32_calls.specs.Checksums.{ForChecksum}
use Rattle.bech32_calls.specs.Correct.{bound}
use Rattle.bech32_calls.specs.Listing.{IfAllPut, IfNotAllPut}
use Rattle.bech32_calls.specs.Nearest.{PutsFirstNear, PutsNear}
use Rattle.bech32_calls.specs.declared.listed.Listed.{Listed}
use Rattle.bech32_calls.specs.declared.refusal.Refusal.{Refusal}
use Rattle.bech32_calls.proofs.ByNumber.{from_either}

-- ---- places

-- all below one, from the highest
abbrev places_below : ℕ → List ℕ
places_below zero = []
places_below (suc n) = n ∷ places_below n

length_below : (n : ℕ) → length (places_below n) ≡ n
length_below zero = refl
length_below (suc n) = ap suc (length_below n)

among_below : (i n : ℕ) → i < n → IsAmong i (places_below n)
among_below i zero h = absurd (omega arith)
among_below i (suc n) h = elim (dec_lt i n) [
  | yes k ↦ inr (among_below i n k)
  | no k ↦ inl (omega (arith, k, h))
]

none_outside : {F : Type 0} (s : List ℕ) (e : List (ℕ × F)) → ((i : ℕ) → IsAmong i (locations e) → IsAmong i s) → length (outside s e) ≡ 0
none_outside s e within = step (outside s e) refl
  where
    step : (u : List ℕ) → outside s e ≡ u → length (outside s e) ≡ 0
    step [] same = ap (λ (v : List ℕ). length v) same
    step (i ∷ u) same =
        let out : IsAmong i (locations e) × (IsAmong i s → ⊥) = outside_located s e i (subst (λ (v : List ℕ). IsAmong i v) (sym same) (inl refl)) in
        absurd (out.1 (within i out.0))

-- the locations of all patterns
abbrev all_locations : {F : Type 0} → List (List (ℕ × F)) → List ℕ
all_locations [] = []
all_locations (x ∷ xs) = locations x ++ all_locations xs

-- ---- patterns of at most two errors that leave one remainder, where three places tell patterns apart

module _ {F K : Type 0} {f : Ops F} {o : Ops K} (fl : IsField f) (l : IsField o) {embed : F → K} (into : Embeds f o embed) (apart : (x y : F) → embed x ≡ embed y → x ≡ y)
    (b : K) (start w : ℕ) (g residue : List F) (roots : AreUsableRoots f o embed g b start 3 w) where
  abbrev IsLeft : List (ℕ × F) → Type 0
  IsLeft x = Leaves fl g residue w 2 x

  abbrev Differ : List (ℕ × F) → List (ℕ × F) → Type 0
  Differ x y = ((i : ℕ) → value_of_pattern_at f x i ≡ value_of_pattern_at f y i) → ⊥

  one_rest : (x y : List (ℕ × F)) → HasRemainder f g residue x → HasRemainder f g residue y → remainder_of f g (pattern_polynomial f x) ≡ remainder_of f g (pattern_polynomial f y)
  one_rest x y r r' =
      sym (remainder_unique fl g (pattern_polynomial f x) r.0 r.1)
      ∙ sym (remainder_of-itself fl g r.0 r.1.short) ∙ remainder_of-same fl g r.0 r'.0 (λ i. r.2 i ∙ sym (r'.2 i)) ∙ remainder_of-itself fl g r'.0 r'.1.short
      ∙ remainder_unique fl g (pattern_polynomial f y) r'.0 r'.1

  -- two at three places in all are the same
  three_places : (x y : List (ℕ × F)) (s : List ℕ) → IsLeft x → IsLeft y → length s ≤ 3 → AllByRecursion (λ i. i < w) s
      → ((i : ℕ) → IsAmong i (locations x) → IsAmong i s) → ((i : ℕ) → IsAmong i (locations y) → IsAmong i s)
      → (i : ℕ) → value_of_pattern_at f x i ≡ value_of_pattern_at f y i
  three_places x y s h k few below within within' =
      alone fl l into b roots.order.order w start 3 g (remainder_of f g (pattern_polynomial f y)) s x y apart roots.order.is_order roots.order.not_zero roots.order.long_enough roots.roots below
      (all_located (λ i. i < w) x h.below) (all_located (λ i. i < w) y k.below) (one_rest x y h.remainder k.remainder) refl
      (omega (arith, few, none_outside s x within)) (omega (arith, none_outside s x within, none_outside s y within'))

  module _ (x y : List (ℕ × F)) (h : IsLeft x) (k : IsLeft y) (differ : Differ x y) where
    four_places : 4 ≤ length x + length y
    four_places = elim (dec_lt (length (locations x ++ locations y)) 4) [
      | yes few ↦ absurd (differ (three_places x y (locations x ++ locations y) h k (omega (arith, few)) below (λ i m. mem_left i (locations x) (locations y) m) (λ i m. mem_right i (locations x) (locations y) m)))
      | no many ↦ omega (arith, many, length-append (locations x) (locations y), length-locations x, length-locations y)
    ]
      where
        below : AllByRecursion (λ i. i < w) (locations x ++ locations y)
        below = all_of (λ i. i < w) (locations x ++ locations y) (λ i m. elim (mem_split i (locations x) (locations y) m) [
          | inl n ↦ look (λ j. j < w) i (locations x) h.below n
          | inr n ↦ look (λ j. j < w) i (locations y) k.below n
        ])

    first_two : length x ≡ 2
    first_two = omega (arith, four_places, h.few, k.few)

    second_two : length y ≡ 2
    second_two = omega (arith, four_places, h.few, k.few)

    no_shared : (i : ℕ) → IsAmong i (locations x) → IsAmong i (locations y) → ⊥
    no_shared i m n = differ (three_places x y (locations x ++ without i (locations y)) h k size below (λ j p. mem_left j (locations x) (without i (locations y)) p) within)
      where
        size : length (locations x ++ without i (locations y)) ≤ 3
        size = omega (arith, length-append (locations x) (without i (locations y)), length-without_mem i (locations y) n, length-locations x, length-locations y, h.few, k.few)

        rest : AllByRecursion (λ j. (j < w) × (j ≢ i)) (without i (locations y))
        rest = All-without (λ j. j < w) i (locations y) k.below

        below : AllByRecursion (λ j. j < w) (locations x ++ without i (locations y))
        below = all_of (λ j. j < w) (locations x ++ without i (locations y)) (λ j p. elim (mem_split j (locations x) (without i (locations y)) p) [
          | inl q ↦ look (λ u. u < w) j (locations x) h.below q
          | inr q ↦ (look (λ u. (u < w) × (u ≢ i)) j (without i (locations y)) rest q).0
        ])

        within : (j : ℕ) → IsAmong j (locations y) → IsAmong j (locations x ++ without i (locations y))
        within j p = elim (eqb_tells j i) [
          | inl e ↦ mem_left j (locations x) (without i (locations y)) (subst (λ u. IsAmong u (locations x)) (sym e.1) m)
          | inr e ↦ mem_right j (locations x) (without i (locations y)) (mem-without j i (locations y) p e.1)
        ]

  -- one shares no place with those behind it
  no_shared_behind : (x : List (ℕ × F)) (xs : List (List (ℕ × F))) → IsLeft x → AllByRecursion IsLeft xs → AllByRecursion (Differ x) xs → (i : ℕ) → IsAmong i (locations x) → IsAmong i (all_locations xs) → ⊥
  no_shared_behind x [] h each differ i m n = n
  no_shared_behind x (y ∷ ys) h each differ i m n = elim (mem_split i (locations y) (all_locations ys) n) [
    | inl p ↦ no_shared x y h each.0 differ.0 i m p
    | inr p ↦ no_shared_behind x ys h each.1 differ.1 i m p
  ]

  all_once : (xs : List (List (ℕ × F))) → AllByRecursion IsLeft xs → AreRising Differ xs → IsOnce (all_locations xs)
  all_once [] each differ = tt
  all_once (x ∷ xs) each differ = once-append (locations x) (all_locations xs) each.0.once (all_once xs each.1 differ.1) (no_shared_behind x xs each.0 each.1 differ.0)

  all_below : (xs : List (List (ℕ × F))) → AllByRecursion IsLeft xs → (i : ℕ) → IsAmong i (all_locations xs) → i < w
  all_below [] each i m = absurd m
  all_below (x ∷ xs) each i m = elim (mem_split i (locations x) (all_locations xs) m) [
    | inl p ↦ look (λ j. j < w) i (locations x) each.0.below p
    | inr p ↦ all_below xs each.1 i p
  ]

  -- those behind one have two errors each
  count_behind : (x : List (ℕ × F)) (xs : List (List (ℕ × F))) → IsLeft x → AllByRecursion IsLeft xs → AllByRecursion (Differ x) xs → length (all_locations xs) ≡ 2 * length xs
  count_behind x [] h each differ = omega arith
  count_behind x (y ∷ ys) h each differ =
      omega (arith, length-append (locations y) (all_locations ys), length-locations y, second_two x y h each.0 differ.0, count_behind x ys h each.1 differ.1)

  few_left : (xs : List (List (ℕ × F))) → AllByRecursion IsLeft xs → AreRising Differ xs → (length xs ≤ 1) ⊎ (2 * length xs ≤ w)
  few_left [] each differ = inl (omega arith)
  few_left (x ∷ []) each differ = inl (omega arith)
  few_left (x ∷ y ∷ ys) each differ =
      let fits : length (all_locations (x ∷ y ∷ ys)) ≤ length (places_below w) =
      once_fits (all_locations (x ∷ y ∷ ys)) (places_below w) (all_once (x ∷ y ∷ ys) each differ) (λ i m. among_below i w (all_below (x ∷ y ∷ ys) each i m)) in
      inr (omega (
        arith,
        fits,
        length_below w,
        length-append (locations x) (all_locations (y ∷ ys)),
        length-locations x,
        first_two x y each.0 each.1.0 differ.0.0,
        count_behind x (y ∷ ys) each.0 each.1 differ.0,
      ))

  -- of the listings of all such patterns there are as few
  pub few_listings : (rank : F → ℕ) (errors : ℕ) (listings : List (List (ℕ × F))) → errors ≤ 2 → IsNearestList f rank g residue [] w 3 errors listings
      → (length listings ≤ 1) ⊎ (2 * length listings ≤ w)
  few_listings rank errors listings few h = few_left listings (all_weaker (IsNearListing f g residue [] w 3 errors) IsLeft listings left h.each) (differing listings h.rising)
    where
      left : (x : List (ℕ × F)) → IsNearListing f g residue [] w 3 errors x → IsLeft x
      left x n =
          let k : Leaves fl g residue w (errors_outside [] n.pattern) x =
          gathered_leaves fl g residue w (errors_outside [] n.pattern) x (gathered_of fl g residue [] w n.pattern x (record { once = tt; below = tt }) n.near.is_pattern n.near.remainder n.listing) in
          record { once = k.once; below = k.below; few = omega (arith, k.few, n.near.few, few); remainder = k.remainder }

      apart_by : (x y : List (ℕ × F)) → IsEarlier f rank [] x y → Differ x y
      apart_by x y e same =
          let less : rank (value_of_pattern_at f x e.location) < rank (value_of_pattern_at f y e.location) = e.lower in
          let equal : rank (value_of_pattern_at f x e.location) ≡ rank (value_of_pattern_at f y e.location) = ap rank (same e.location) in
          omega (arith, less, equal)

      differing : (xs : List (List (ℕ × F))) → AreRising (IsEarlier f rank []) xs → AreRising Differ xs
      differing [] r = tt
      differing (x ∷ xs) r = (all_weaker (IsEarlier f rank [] x) (Differ x) xs (apart_by x) r.0, differing xs r.1)

-- ---- of a text

abbrev IsFew : ℕ → List ℕ → Type 0
IsFew count text = (count ≤ 1) ⊎ (2 * count ≤ length text)

into_larger : Embeds ops fe1024.ops fe1024.embed
into_larger = record { one = refl; add = fe1024_laws.embed-add; mul = fe1024_laws.embed-mul }

few_texts : (code : Code) (root : Fe32Ext 2) → AreLawfulRoots fe1024.ops fe1024.embed code root 24 26 → (text given : List ℕ) (errors : ℕ) (found : List (List (ℕ × Fe32) × List ℕ)) (count : ℕ)
    → given ≡ [] → errors ≤ 2 → count ≡ length found → AreNearTexts code bound text given errors found → IsFew count text
few_texts code root lawful text given errors found count none few counted near =
    few_of (subst (λ (s : List ℕ). AreNearTexts code bound text s errors found) none near)
  where
    few_of : AreNearTexts code bound text [] errors found → IsFew count text
    few_of h =
        let list = h.listings in
        let w = length list.data_part in
        let whole : length text ≡ length list.hrp + suc w = ap (λ (u : List ℕ). length u) list.read.grammar.split ∙ length-append list.hrp (49 ∷ list.data_part) in
        let within : w ≤ lawful.order = omega (arith, whole, list.read.text_length, lawful.long_enough) in
        let sizes : length (map (λ m. m.0) found) ≡ length found = length-map found (λ m. m.0) in
        elim (few_listings is_field fe1024_laws.is_field into_larger (apart_inside fe1024.embed fe1024.retract fe1024_laws.retract-embed) root 24 w code.generator list.residue
        (usable ops fe1024.ops fe1024.embed refl root 24 26 lawful.order w code.generator lawful.not_zero lawful.is_order within lawful.ordered lawful.few lawful.are_roots) value errors (map (λ m. m.0) found) few
        (list.nearest (omega (arith, lawful.few), tt))) [
          | inl one ↦ inl (omega (arith, one, sizes, counted))
          | inr half ↦ inr (omega (arith, half, sizes, counted, whole))
        ]

pub few_listed : (n : ℕ) (text given : List ℕ) (errors : ℕ) (old new : List ℕ) → given ≡ [] → (r : Result Listed Refusal)
    → IfAllPut r (λ count. ForChecksum n (PutsNear text given errors old new count)) → IfNotAllPut r (λ count. ForChecksum n (PutsFirstNear text given errors old new count))
    → IfOk r (λ listed. (listed.count ≤ 1) ⊎ (2 * listed.count ≤ length text))
few_listed n text given errors old new none (Ok listed) all first = step listed.fit refl
  where
    step : (fit : Bool) → listed.fit ≡ fit → IsFew listed.count text
    step true is =
        from_either (PutsNear text given errors old new listed.count) (IsFew listed.count text)
        (λ h. few_texts bech32 base (bech32_roots (omega arith)) text given errors h.found listed.count none h.few h.count_is h.near)
        (λ h. few_texts bech32m base (bech32m_roots (omega arith)) text given errors h.found listed.count none h.few h.count_is h.near) n (all is)
    step false is =
        from_either (PutsFirstNear text given errors old new listed.count) (IsFew listed.count text)
        (λ h. few_texts bech32 base (bech32_roots (omega arith)) text given errors h.found listed.count none h.few h.count_is h.near)
        (λ h. few_texts bech32m base (bech32m_roots (omega arith)) text given errors h.found listed.count none h.few h.count_is h.near) n (first is)
few_listed n text given errors old new none (Err e) all first = tt
