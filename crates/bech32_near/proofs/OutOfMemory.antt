-- What is known where memory runs out.
use Rattle.std.specs.List.{AllByRecursion}
use Rattle.std.specs.Prelude.{Result, Ok, Err, OnErr}
use Rattle.std.proofs.Common.{◌≡◌, ℕ, ◌+◌, ◌*◌, ◌<◌, ◌≤◌, List, [], ◌∷◌, length, inl, inr, subst, refl, arith}
use Rattle.bech32_gf.specs.Fe32.{elements_of, ops}
use Rattle.bech32_gf.specs.declared.gf32.Fe32.{Fe32}
use Rattle.bech32_checksum.specs.Code.{Code}
use Rattle.bech32_checksum.specs.Encoded.{spelled}
use Rattle.bech32_bch.specs.Erasures.{with_erasures}
use Rattle.bech32_correction.specs.Given.{AreWithin, with_given}
use Rattle.bech32_correction.specs.MendedElements.{mended}
use Rattle.bech32_lookup.specs.Question.{Question}
use Rattle.bech32_near.specs.search.Nearest.{AreNearest}
use Rattle.bech32_near.specs.NearTexts.{AreNearestListings, IsNearText, IsOutOfMemory, IsSearched, IsSearcherOf}
use Rattle.bech32_near.proofs.Found.{near_text}
use Rattle.bech32_near.proofs.Nearby.{listings-from_all, searched_or_not}

module _ (code : Code) (bound errors : ℕ) (text given : List ℕ) (size : length code.target ≡ length code.generator) (some : 0 < length code.generator) where
  -- where a listing is found, a text is near
  near_listed : (item : List (ℕ × Fe32)) (rest : List (List (ℕ × Fe32))) (h : AreNearestListings code bound text given errors (item ∷ rest))
      → IsSearched code h.data_part given × (length (with_erasures [] given) ≤ bound) × ((other : List ℕ) × IsNearText code bound text given errors other)
  near_listed item rest h = elim (searched_or_not code h.data_part given) [
    | inl s ↦ (
      s,
      (h.nearest s).each.0.near.erased,
      (
        spelled h.hrp (mended ops item (elements_of h.data_part)),
        near_text code bound errors text given size h.hrp h.data_part h.residue h.read s item (spelled h.hrp (mended ops item (elements_of h.data_part)))
            (record { hrp = h.hrp; data_part = h.data_part; grammar = h.read.grammar; spelling = refl }) (h.nearest s).each.0,
      ),
    )
    | inr k ↦ absurd (cc (h.none k))
  ]

  -- the listings are there, and no memory for their texts
  pub memory-from_listings : (listings : List (List (ℕ × Fe32))) → AreNearestListings code bound text given errors listings → 0 < length listings → IsOutOfMemory code bound text given errors
  memory-from_listings [] h more = absurd (omega arith)
  memory-from_listings (item ∷ rest) h more =
      let k = near_listed item rest h in record {
        hrp = h.hrp;
        data_part = h.data_part;
        residue = h.residue;
        read = h.read;
        some = some;
        searched = λ six. (k.0.1, k.1);
        near = λ six few. k.2;
      }

  -- there is no memory for the listings that a corrector finds
  pub memory-from_search : (c : Question) → IsSearcherOf code text c → (length code.generator ≤ 6 → AreWithin c.window bound given)
      → (length code.generator ≤ 6 → 2 * errors + length (with_erasures [] given) ≤ bound → (listing : List (ℕ × Fe32)) × AreNearest code bound (with_given c given) errors (listing ∷ []))
      → IsOutOfMemory code bound text given errors
  memory-from_search c is within near = record {
    hrp = is.hrp;
    data_part = is.data_part;
    residue = c.residue;
    read = is.read;
    some = some;
    searched = λ six. (subst (λ (n : ℕ). AllByRecursion (λ i. i < n) given) is.window (within six).0, (within six).1);
    near = λ six few.
        let l = near six few in
        (near_listed l.0 [] (listings-from_all code bound errors text given c some is (l.0 ∷ []) (within six).0 l.1 (λ detects no two. omega arith))).2;
  }

-- of what the search for the listings returned
pub memory_returned : {R E : Type 0} (code : Code) (bound errors : ℕ) (given : List ℕ) (size : length code.target ≡ length code.generator) (c q : Question) (r : Result R E) → AreWithin c.window bound given → q ≡ with_given c given
    → OnErr r (length code.generator ≤ 6 → 2 * errors + length q.erasures ≤ bound → (listing : List (ℕ × Fe32)) × AreNearest code bound q errors (listing ∷ []))
    → OnErr r ((text : List ℕ) → 0 < length code.generator → IsSearcherOf code text c → IsOutOfMemory code bound text given errors)
memory_returned code bound errors given size c q (Ok l) within same h = tt
memory_returned code bound errors given size c q (Err e) within same h = λ text some is.
    memory-from_search code bound errors text given size some c is (λ six. within)
    (subst (λ (u : Question). length code.generator ≤ 6 → 2 * errors + length u.erasures ≤ bound → (listing : List (ℕ × Fe32)) × AreNearest code bound u errors (listing ∷ [])) same h)
