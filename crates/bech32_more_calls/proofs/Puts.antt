-- Edits and the texts that they make put into buffers.
use Rattle.std.specs.Prelude.{map, flat_map, set}
use Rattle.std.specs.List.{AllByRecursion}
use Rattle.std.proofs.Common.{◌≡◌, ◌<◌, ◌≤◌, ◌+◌, ◌*◌, ℕ, zero, suc, List, [], ◌∷◌, ◌++◌, append_assoc, get_or, length, length-append, drop, take, min, subst, sym, ap, ◌∙◌, refl, arith}
use Rattle.std.proofs.lemmas.List.{drop_more, length-map, length-take-le, set_at, take-map, take_all}
use Rattle.std.proofs.lemmas.Simd.{map-map}
use Rattle.bech32_encode.specs.Buffers.{IsPut}
use Rattle.bech32_calls.specs.Fitting.{FirstFit, IsMost}
use Rattle.bech32_calls.proofs.Fitting.{first_fit, first_fit_back, joined_first, most_as}
use Rattle.bech32_calls.proofs.Joined.{joined_more, put_joined}
use Rattle.bech32_calls.proofs.Puts.{put-same}
use Rattle.bech32_descriptor.specs.Edits.{IsMendWithin, IsToldAt}
use Rattle.bech32_descriptor.specs.Mends.{AreMends}
use Rattle.bech32_descriptor.specs.declared.edits.Change.{Change}
use Rattle.bech32_descriptor.specs.declared.edits.Change.TheVariants.{Changed, LeftOut, PutIn, Swapped}
use Rattle.bech32_descriptor.specs.declared.edits.Edit.{Edit}
use Rattle.bech32_descriptor.proofs.Short.{no_mends}
use Rattle.bech32_more_calls.specs.descriptor.Mends.{MendsFit, PutsEachMend, PutsFirstMends, PutsMends, number_of_mend_change, places_of}

-- two numbers more at the front of a buffer
pair_put : (front old : List ℕ) (i x y : ℕ) → length front ≡ 2 * i → 2 * i + 1 < length old
    → set (set (front ++ drop (2 * i) old) (2 * i) x) (2 * i + 1) y ≡ (front ++ (x ∷ y ∷ [])) ++ drop (2 * (i + 1)) old
pair_put front old i x y size room =
    let n = 2 * i in
    let a = get_or old n 0 in
    let b = get_or old (n + 1) 0 in
    let rest = drop (n + 1 + 1) old in
    let one : n < length old = omega arith in
    let parts : drop n old ≡ a ∷ b ∷ rest = drop_more old n 0 one ∙ ap (λ (u : List ℕ). a ∷ u) (drop_more old (n + 1) 0 room) in
    let longer : length (front ++ x ∷ []) ≡ n + 1 = omega (arith, length-append front (x ∷ []), size) in
    let end : n + 1 + 1 ≡ 2 * (i + 1) = omega arith in
    ap (λ (u : List ℕ). set (set (front ++ u) n x) (n + 1) y) parts
    ∙ ap (λ (u : List ℕ). set u (n + 1) y) (set_at front a (b ∷ rest) x n size ∙ sym (append_assoc front (x ∷ []) (b ∷ rest)))
    ∙ set_at (front ++ x ∷ []) b rest y (n + 1) longer
    ∙ append_assoc front (x ∷ []) (y ∷ rest) ∙ sym (append_assoc front (x ∷ y ∷ []) rest)
    ∙ ap (λ (k : ℕ). (front ++ (x ∷ y ∷ [])) ++ drop k old) end

module _ {A : Type 0} (pairs : A → List ℕ) (two : (m : A) → length (pairs m) ≡ 2) (items : List A) where
  pairs-length : (xs : List A) → length (flat_map pairs xs) ≡ 2 * length xs
  pairs-length [] = refl
  pairs-length (x ∷ xs) = omega (arith, pairs-length xs, two x, length-append (pairs x) (flat_map pairs xs))

  first-pairs : (n : ℕ) → n ≤ length items → length (flat_map pairs (take n items)) ≡ 2 * n
  first-pairs n few = pairs-length (take n items) ∙ ap (λ (k : ℕ). 2 * k) (length-take-le n items few)

  -- the places of one more
  pub pair_more : (old b : List ℕ) (i x y : ℕ) (d : A) → i < length items → 2 * i + 1 < length old → b ≡ flat_map pairs (take i items) ++ drop (2 * i) old
      → x ∷ y ∷ [] ≡ pairs (get_or items i d) → set (set b (2 * i) x) (2 * i + 1) y ≡ flat_map pairs (take (i + 1) items) ++ drop (2 * (i + 1)) old
  pair_more old b i x y d less room is same =
      ap (λ (u : List ℕ). set (set u (2 * i) x) (2 * i + 1) y) is
      ∙ pair_put (flat_map pairs (take i items)) old i x y (first-pairs i (omega arith)) room
      ∙ ap (λ (u : List ℕ). (flat_map pairs (take i items) ++ u) ++ drop (2 * (i + 1)) old) same
      ∙ ap (λ (u : List ℕ). u ++ drop (2 * (i + 1)) old) (sym (joined_more pairs items i d less))

  -- those of the first
  pub first_places : (old b : List ℕ) (n : ℕ) → n ≤ length items → 2 * n ≤ length old → b ≡ flat_map pairs (take n items) ++ drop (2 * n) old
      → IsPut (flat_map pairs (take n items)) old b (length (flat_map pairs (take n items)))
  first_places old b n few room is =
      let size = first-pairs n few in
      record {
        fits = omega (arith, size, room);
        buffer = is ∙ ap (λ (k : ℕ). flat_map pairs (take n items) ++ drop k old) (sym size);
        count_is = refl;
      }

-- one text more behind the others
pub text_more : {A : Type 0} (f : A → List ℕ) (items : List A) (old b c x : List ℕ) (i end next : ℕ) (d : A) → i < length items → x ≡ f (get_or items i d)
    → end ≡ length (flat_map f (take i items)) → b ≡ flat_map f (take i items) ++ drop end old → next ≡ end + length x → c ≡ take end b ++ (x ++ drop (length x) (drop end b))
    → c ≡ flat_map f (take (i + 1) items) ++ drop next old
text_more f items old b c x i end next d less same size is at put =
    put
    ∙ put_joined f items old b (x ++ drop (length x) (drop end b)) i end d less size is (ap (λ (y : List ℕ). y ++ drop (length y) (drop end b)) same)
    ∙ ap (λ (k : ℕ). flat_map f (take (i + 1) items) ++ drop k old) (ap (λ (y : List ℕ). end + length y) (sym same) ∙ sym at)

module _ {A : Type 0} (edit : A → Edit) (text : A → List ℕ) (items : List A) where
  abbrev pairs : A → List ℕ
  pairs m = places_of (edit m)

  -- each with the text that it makes
  abbrev pub made : List (Edit × List ℕ)
  made = map (λ m. (edit m, text m)) items

  length_made : length made ≡ length items
  length_made = length-map {B = Edit × List ℕ} items (λ m. (edit m, text m))

  size : (n : ℕ) → n ≤ length items → length (take n made) ≡ n
  size n few = length-take-le n made (omega (arith, few, length_made))

  mapped : (k : Edit × List ℕ → ℕ) (n : ℕ) → map (λ m. k (edit m, text m)) (take n items) ≡ map k (take n made)
  mapped k n = sym (ap (map k) (take-map (λ m. (edit m, text m)) n items) ∙ map-map k (λ m. (edit m, text m)) (take n items))

  -- the first of them are put into buffers
  pub puts_each : (kinds kinds' places places' texts texts' : List ℕ) (n : ℕ) → n ≤ length items → IsPut (map (λ m. number_of_mend_change (edit m).change) (take n items)) kinds kinds' n
      → IsPut (flat_map pairs (take n items)) places places' (length (flat_map pairs (take n items)))
      → IsPut (flat_map text (take n items)) texts texts' (length (flat_map text (take n items)))
      → PutsEachMend (take n made) kinds kinds' places places' texts texts'
  puts_each kinds kinds' places places' texts texts' n few k l t = record {
    kinds_put = put-same (map (λ m. number_of_mend_change (edit m).change) (take n items)) (map (λ m. number_of_mend_change m.0.change) (take n made)) kinds kinds' n (length (take n made))
        (mapped (λ m. number_of_mend_change m.0.change) n) (sym (size n few)) k;
    places_put = put-same (flat_map pairs (take n items)) (flat_map (λ m. places_of m.0) (take n made)) places places' (length (flat_map pairs (take n items)))
        (length (flat_map (λ m. places_of m.0) (take n made)))
        (sym (joined_first (λ m. (edit m, text m)) (λ m. places_of m.0) items n)) (ap length (sym (joined_first (λ m. (edit m, text m)) (λ m. places_of m.0) items n))) l;
    texts_put = put-same (flat_map text (take n items)) (flat_map (λ m. m.1) (take n made)) texts texts' (length (flat_map text (take n items))) (length (flat_map (λ m. m.1) (take n made)))
        (sym (joined_first (λ m. (edit m, text m)) (λ m. m.1) items n)) (ap length (sym (joined_first (λ m. (edit m, text m)) (λ m. m.1) items n))) t;
  }

  module _ (kinds_room places_room texts_room n : ℕ) where
    most_mends : IsMost (λ k. (k ≤ kinds_room) × (2 * k ≤ places_room) × FirstFit text items texts_room k) (length items) n
        → IsMost (MendsFit made kinds_room places_room texts_room) (length items) n
    most_mends =
        most_as (λ k. (k ≤ kinds_room) × (2 * k ≤ places_room) × FirstFit text items texts_room k) (MendsFit made kinds_room places_room texts_room) (length items) (length items) n refl
        (λ k h. (h.0, h.1, first_fit (λ m. (edit m, text m)) (λ m. m.1) items texts_room k h.2)) (λ k h. (h.0, h.1, first_fit_back (λ m. (edit m, text m)) (λ m. m.1) items texts_room k h.2))

    -- of those that have room in two buffers the texts fit so far
    pub most_of_texts : n ≤ kinds_room → 2 * n ≤ places_room → IsMost (FirstFit text items texts_room) (length items) n → IsMost (MendsFit made kinds_room places_room texts_room) (length items) n
    most_of_texts few_kinds few_places h =
        most_mends record {
          within = h.within;
          fits = (few_kinds, few_places, h.fits);
          full = λ less next. h.full less next.2;
        }

    -- the others have no room in one of two buffers
    pub most_of_rooms : n ≤ length items → n ≤ kinds_room → 2 * n ≤ places_room → (n < length items → n < kinds_room → places_room < 2 * (n + 1)) → FirstFit text items texts_room n
        → IsMost (MendsFit made kinds_room places_room texts_room) (length items) n
    most_of_rooms few few_kinds few_places lacks fits =
        most_mends record {
          within = few;
          fits = (few_kinds, few_places, fits);
          full = λ less next. let none = lacks less (omega (arith, next.0)) in omega (arith, none, next.1);
        }

-- ---- places within the text

all_at : {A : Type 0} (P : A → Type 0) (xs : List A) (i : ℕ) (d : A) → AllByRecursion P xs → i < length xs → P (get_or xs i d)
all_at P [] i d h low = absurd (omega arith)
all_at P (x ∷ xs) zero d h low = h.0
all_at P (x ∷ xs) (suc i) d h low = all_at P xs i d h.1 (omega arith)

pub place_at : {A : Type 0} (edit : A → Edit) (xs : List A) (i : ℕ) (d : A) → AllByRecursion (λ m. (edit m).place ≤ 7500) xs → i < length xs → (edit (get_or xs i d)).place ≤ 7500
place_at edit xs i d h low = all_at (λ m. (edit m).place ≤ 7500) xs i d h low

place_told : (i : ℕ) (c : Change) (text : List ℕ) → IsToldAt i c text → i ≤ length text
place_told i (Changed b) text t = omega (arith, t.0)
place_told i Swapped text t = omega (arith, t.0)
place_told i LeftOut text t = omega (arith, t.0)
place_told i (PutIn b) text t = t.0

all-places : {A : Type 0} (edit : A → Edit) (text : A → List ℕ) (most : ℕ) (old : List ℕ) (items : List A) → length old ≤ 7500
    → AllByRecursion (IsMendWithin most old) (map (λ (m : Edit × List ℕ). m.0) (map (λ m. (edit m, text m)) items)) → AllByRecursion (λ m. (edit m).place ≤ 7500) items
all-places edit text most old [] short h = tt
all-places edit text most old (m ∷ items) short h =
    let low : (edit m).place ≤ length old = place_told (edit m).place (edit m).change old h.0.1.0 in
    (omega arith, all-places edit text most old items short h.1)

pub all_places : {A : Type 0} (edit : A → Edit) (text : A → List ℕ) (most : ℕ) (old : List ℕ) (near items : List A) → near ≡ items → length old ≤ 7500
    → AreMends most old (map (λ m. (edit m, text m)) items) → AllByRecursion (λ m. (edit m).place ≤ 7500) near
all_places {A} edit text most old near items same short are =
    subst (λ (l : List A). AllByRecursion (λ m. (edit m).place ≤ 7500) l) (sym same) (all-places edit text most old items short are.edits.each)

-- ---- of a copy of the list

module _ {A : Type 0} (edit : A → Edit) (text : A → List ℕ) (most : ℕ) (old : List ℕ) (near items : List A) (same : near ≡ items)
    (are : AreMends most old (map (λ m. (edit m, text m)) items)) where
  these : AreMends most old (map (λ m. (edit m, text m)) near)
  these = subst (λ (l : List A). AreMends most old (map (λ m. (edit m, text m)) l)) (sym same) are

  module _ (kinds kinds' places places' texts texts' : List ℕ) (count k : ℕ) (counted : count ≡ length near)
      (put : PutsEachMend (take k (map (λ m. (edit m, text m)) near)) kinds kinds' places places' texts texts') where
    pub puts_mends : k ≡ length near → PutsMends most old kinds kinds' places places' texts texts' count
    puts_mends whole = record {
      found = map (λ m. (edit m, text m)) near;
      are = these;
      count_is = counted ∙ sym (length-map {B = Edit × List ℕ} near (λ m. (edit m, text m)));
      put = subst (λ l. PutsEachMend l kinds kinds' places places' texts texts')
          (take_all k (map (λ m. (edit m, text m)) near) (omega (arith, whole, length-map {B = Edit × List ℕ} near (λ m. (edit m, text m))))) put;
    }

    pub puts_first_mends : k < length near → IsMost (MendsFit (map (λ m. (edit m, text m)) near) (length kinds) (length places) (length texts)) (length near) k
        → PutsFirstMends most old kinds kinds' places places' texts texts' count
    puts_first_mends less fit = record {
      found = map (λ m. (edit m, text m)) near;
      are = these;
      count_is = counted ∙ sym (length-map {B = Edit × List ℕ} near (λ m. (edit m, text m)));
      put_count = k;
      lacks = omega (arith, less, length-map {B = Edit × List ℕ} near (λ m. (edit m, text m)));
      most_fit = subst (λ all. IsMost (MendsFit (map (λ m. (edit m, text m)) near) (length kinds) (length places) (length texts)) all k)
          (sym (length-map {B = Edit × List ℕ} near (λ m. (edit m, text m)))) fit;
      put = put;
    }

-- ---- of a text that is too short for any

pub nothing_put : (old : List ℕ) → IsPut [] old old 0
nothing_put old = record { fits = omega arith; buffer = refl; count_is = refl }

pub puts_no_mends : (most : ℕ) (old kinds places texts : List ℕ) → length old < 8 → PutsMends most old kinds kinds places places texts texts 0
puts_no_mends most old kinds places texts short = record {
  found = [];
  are = no_mends most old short;
  count_is = refl;
  put = record { kinds_put = nothing_put kinds; places_put = nothing_put places; texts_put = nothing_put texts };
}
