-- Two edits and the texts that they make put into buffers.
use Rattle.std.specs.Prelude.{map, flat_map}
use Rattle.std.proofs.Common.{◌≡◌, ◌<◌, ◌≤◌, ◌+◌, ◌*◌, ℕ, List, [], length, take, subst, sym, ap, ◌∙◌, refl, arith}
use Rattle.std.proofs.lemmas.List.{length-map, length-take-le, take_all}
use Rattle.bech32_encode.specs.Buffers.{IsPut}
use Rattle.bech32_calls.specs.Fitting.{FirstFit, IsMost}
use Rattle.bech32_calls.proofs.Fitting.{first_fit, first_fit_back, joined_first, most_as}
use Rattle.bech32_calls.proofs.Puts.{put-same}
use Rattle.bech32_descriptor.specs.Pairs.{AreTwoMends}
use Rattle.bech32_descriptor.specs.declared.edits.TwoEdits.{TwoEdits}
use Rattle.bech32_descriptor.proofs.Short.{no_two_mends}
use Rattle.bech32_more_calls.specs.descriptor.TwoMends.{PutsEachTwo, PutsFirstTwoMends, PutsTwoMends, TwoMendsFit, places_of_two}
use Rattle.bech32_more_calls.proofs.Puts.{nothing_put}

module _ {A : Type 0} (edits : A → TwoEdits) (text : A → List ℕ) (items : List A) where
  abbrev pub made_two : List (TwoEdits × List ℕ)
  made_two = map (λ m. (edits m, text m)) items

  pub length_made_two : length made_two ≡ length items
  length_made_two = length-map {B = TwoEdits × List ℕ} items (λ m. (edits m, text m))

  -- the first of them are put into buffers
  pub puts_each_two : (places places' texts texts' : List ℕ) (n : ℕ)
      → IsPut (flat_map (λ m. places_of_two (edits m)) (take n items)) places places' (length (flat_map (λ m. places_of_two (edits m)) (take n items)))
      → IsPut (flat_map text (take n items)) texts texts' (length (flat_map text (take n items)))
      → PutsEachTwo (take n made_two) places places' texts texts'
  puts_each_two places places' texts texts' n l t = record {
    places_put = put-same (flat_map (λ m. places_of_two (edits m)) (take n items)) (flat_map (λ m. places_of_two m.0) (take n made_two)) places places'
        (length (flat_map (λ m. places_of_two (edits m)) (take n items))) (length (flat_map (λ m. places_of_two m.0) (take n made_two)))
        (sym (joined_first (λ m. (edits m, text m)) (λ m. places_of_two m.0) items n))
        (ap length (sym (joined_first (λ m. (edits m, text m)) (λ m. places_of_two m.0) items n))) l;
    texts_put = put-same (flat_map text (take n items)) (flat_map (λ m. m.1) (take n made_two)) texts texts' (length (flat_map text (take n items)))
        (length (flat_map (λ m. m.1) (take n made_two)))
        (sym (joined_first (λ m. (edits m, text m)) (λ m. m.1) items n)) (ap length (sym (joined_first (λ m. (edits m, text m)) (λ m. m.1) items n))) t;
  }

  module _ (places_room texts_room n : ℕ) where
    most_two : IsMost (λ k. (2 * k ≤ places_room) × FirstFit text items texts_room k) (length items) n
        → IsMost (TwoMendsFit made_two places_room texts_room) (length items) n
    most_two =
        most_as (λ k. (2 * k ≤ places_room) × FirstFit text items texts_room k) (TwoMendsFit made_two places_room texts_room) (length items) (length items) n refl
        (λ k h. (h.0, first_fit (λ m. (edits m, text m)) (λ m. m.1) items texts_room k h.1))
        (λ k h. (h.0, first_fit_back (λ m. (edits m, text m)) (λ m. m.1) items texts_room k h.1))

    -- of those whose places have room the texts fit so far
    pub most_of_two_texts : 2 * n ≤ places_room → IsMost (FirstFit text items texts_room) (length items) n → IsMost (TwoMendsFit made_two places_room texts_room) (length items) n
    most_of_two_texts few h = most_two record { within = h.within; fits = (few, h.fits); full = λ less next. h.full less next.1 }

    -- the places of the others have no room
    pub most_of_two_rooms : n ≤ length items → 2 * n ≤ places_room → (n < length items → places_room < 2 * (n + 1)) → FirstFit text items texts_room n
        → IsMost (TwoMendsFit made_two places_room texts_room) (length items) n
    most_of_two_rooms few room lacks fits =
        most_two record { within = few; fits = (room, fits); full = λ less next. let none = lacks less in omega (arith, none, next.0) }

-- ---- of a copy of the list

module _ {A : Type 0} (edits : A → TwoEdits) (text : A → List ℕ) (old : List ℕ) (near items : List A) (same : near ≡ items)
    (are : AreTwoMends old (map (λ m. (edits m, text m)) items)) where
  these : AreTwoMends old (map (λ m. (edits m, text m)) near)
  these = subst (λ (l : List A). AreTwoMends old (map (λ m. (edits m, text m)) l)) (sym same) are

  module _ (places places' texts texts' : List ℕ) (count k : ℕ) (counted : count ≡ length near)
      (put : PutsEachTwo (take k (map (λ m. (edits m, text m)) near)) places places' texts texts') where
    pub puts_two_mends : k ≡ length near → PutsTwoMends old places places' texts texts' count
    puts_two_mends whole = record {
      found = map (λ m. (edits m, text m)) near;
      are = these;
      count_is = counted ∙ sym (length_made_two edits text near);
      put = subst (λ l. PutsEachTwo l places places' texts texts')
          (take_all k (map (λ m. (edits m, text m)) near) (omega (arith, whole, length_made_two edits text near))) put;
    }

    pub puts_first_two_mends : k < length near → IsMost (TwoMendsFit (map (λ m. (edits m, text m)) near) (length places) (length texts)) (length near) k
        → PutsFirstTwoMends old places places' texts texts' count
    puts_first_two_mends less fit = record {
      found = map (λ m. (edits m, text m)) near;
      are = these;
      count_is = counted ∙ sym (length_made_two edits text near);
      put_count = k;
      lacks = omega (arith, less, length_made_two edits text near);
      most_fit = subst (λ all. IsMost (TwoMendsFit (map (λ m. (edits m, text m)) near) (length places) (length texts)) all k)
          (sym (length_made_two edits text near)) fit;
      put = put;
    }

-- ---- of a text that is too short for any

pub puts_no_two_mends : (old places texts : List ℕ) → length old < 9 → PutsTwoMends old places places texts texts 0
puts_no_two_mends old places texts short = record {
  found = [];
  are = no_two_mends old short;
  count_is = refl;
  put = record { places_put = nothing_put places; texts_put = nothing_put texts };
}
