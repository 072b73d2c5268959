-- The texts near one with the first different locations of a word are those with all of them, where they are one more than the bound.
use Rattle.std.specs.List.{AllByRecursion}
use Rattle.std.proofs.Common.{◌≡◌, ◌⊎◌, ◌<◌, ◌≤◌, ◌+◌, ◌*◌, ℕ, inl, inr, List, [], ◌∷◌, Option, Some, None, MatchOption, length, take, map, refl, sym, ap, subst, ◌∙◌, arith, take_all}
use Rattle.std.proofs.lemmas.Bool.{cases_lt}
use Rattle.bech32_gf.specs.Fe32.{elements_of}
use Rattle.bech32_gf.specs.declared.gf32.Fe32.{Fe32}
use Rattle.bech32_checksum.specs.Code.{Code}
use Rattle.bech32_bch.specs.Erasures.{with_erasures}
use Rattle.bech32_bch.specs.Pattern.{errors_outside}
use Rattle.bech32_near.specs.search.Nearest.{AreNearest}
use Rattle.bech32_near.specs.NearTexts.{AreNearTexts, AreNearestListings, IsNearText, IsSearched, differences_outside}
use Rattle.bech32_near.proofs.Differing.{differences, few_outside}
use Rattle.b32_replies.proofs.FewLocations.{each_few, each_given, no_more, same_erasures}
use Rattle.line_program.specs.Refused.{SaysRefusal, err}
use Rattle.bech32_numbers.specs.Numbers.{number_of_correct_error}
use Rattle.blech32.specs.Words.{blech32_code}
use Rattle.bech32_more_calls.specs.confidential.Nearest.{IsLiquidAsked}
use Rattle.mend.specs.Reply.{IsLiquidAnswer, IsLiquidNearAnswer, IsNearTextsAnswer, IsNearTextsRefusal, SaysNear}
use Rattle.mend.specs.Request.{errors_of_word, liquid_errors_of_word}

module _ (code : Code) (bound : ℕ) (text few given : List ℕ) (errors : ℕ) (is : few ≡ take (bound + 1) (with_erasures [] given)) where
  -- ---- one text

  same_differences : length (with_erasures [] given) ≤ bound → (xs ys : List Fe32) → differences_outside few xs ys ≡ differences_outside given xs ys
  same_differences size xs ys =
      sym (few_outside few xs ys) ∙ ap (λ (s : List ℕ). errors_outside s (differences xs ys)) (same_erasures bound few given is size) ∙ few_outside given xs ys

  text-given : (other : List ℕ) → IsNearText code bound text few errors other → IsNearText code bound text given errors other
  text-given other h =
      let size : length (with_erasures [] given) ≤ bound = no_more bound few given is h.erased in
      record {
        hrp = h.hrp;
        data_part = h.data_part;
        other_hrp = h.other_hrp;
        other_data = h.other_data;
        grammar = h.grammar;
        accepted = h.accepted;
        same_hrp = h.same_hrp;
        same_length = h.same_length;
        searched = (h.searched.0, each_given bound few given is (λ i. i < length h.data_part) size h.searched.1);
        erased = size;
        few = subst (λ (n : ℕ). n ≤ errors) (same_differences size (elements_of h.data_part) (elements_of h.other_data)) h.few;
      }

  text-few : (other : List ℕ) → IsNearText code bound text given errors other → IsNearText code bound text few errors other
  text-few other h =
      let size : length (with_erasures [] given) ≤ bound = h.erased in
      record {
        hrp = h.hrp;
        data_part = h.data_part;
        other_hrp = h.other_hrp;
        other_data = h.other_data;
        grammar = h.grammar;
        accepted = h.accepted;
        same_hrp = h.same_hrp;
        same_length = h.same_length;
        searched = (h.searched.0, each_few bound few given is (λ i. i < length h.data_part) h.searched.1);
        erased = subst (λ (s : List ℕ). length s ≤ bound) (sym (same_erasures bound few given is size)) size;
        few = subst (λ (n : ℕ). n ≤ errors) (sym (same_differences size (elements_of h.data_part) (elements_of h.other_data))) h.few;
      }

  each_near : (found : List (List (ℕ × Fe32) × List ℕ)) → AllByRecursion (λ m. IsNearText code bound text few errors m.1) found
      → AllByRecursion (λ m. IsNearText code bound text given errors m.1) found
  each_near [] h = tt
  each_near (m ∷ ms) h = (text-given m.1 h.0, each_near ms h.1)

  -- ---- listings

  none_few : given ≡ [] → few ≡ []
  none_few e = is ∙ ap (λ (s : List ℕ). take (bound + 1) (with_erasures [] s)) e ∙ take_all (bound + 1) [] (omega arith)

  -- there are none with more than the bound
  no_listings : bound < length (with_erasures [] given) → (ls : List (List (ℕ × Fe32))) → AreNearestListings code bound text few errors ls → ls ≡ []
  no_listings long [] h = refl
  no_listings long (x ∷ xs) h =
      h.none
      (λ searched.
      let erased : length (with_erasures [] few) ≤ bound = (h.nearest searched).each.0.near.erased in
      let size : length (with_erasures [] given) ≤ bound = no_more bound few given is erased in
      omega arith)

  listings-given : (ls : List (List (ℕ × Fe32))) → AreNearestListings code bound text few errors ls → AreNearestListings code bound text given errors ls
  listings-given ls h =
      let At : List ℕ → List (List (ℕ × Fe32)) → Type 0 =
      λ s l. AreNearest code bound (record { residue = h.residue; window = length h.data_part; erasures = s }) errors l in
      let inside : IsSearched code h.data_part given → IsSearched code h.data_part few =
      λ s. (s.0, each_few bound few given is (λ i. i < length h.data_part) s.1) in
      record {
        hrp = h.hrp;
        data_part = h.data_part;
        residue = h.residue;
        read = h.read;
        nearest =
            λ s. elim (cases_lt (length (with_erasures [] given)) (bound + 1)) [
              | inl short ↦ subst (λ (t : List ℕ). At t ls) (same_erasures bound few given is (omega arith)) (h.nearest (inside s))
              | inr long ↦
                  subst (At (with_erasures [] given)) (sym (no_listings (omega arith) ls h))
                  (record { each = tt; all = λ pattern near. absurd (let few : length (with_erasures [] given) ≤ bound = near.erased in omega arith); rising = tt })
            ];
        none =
            λ no. elim (cases_lt (length (with_erasures [] given)) (bound + 1)) [
              | inl short ↦ h.none (λ s. no (s.0, each_given bound few given is (λ i. i < length h.data_part) (omega arith) s.1))
              | inr long ↦ no_listings (omega arith) ls h
            ];
        one = λ detects e two. h.one detects (none_few e) two;
      }

  -- ---- all texts

  pub near-given : (found : List (List (ℕ × Fe32) × List ℕ)) → AreNearTexts code bound text few errors found
      → AreNearTexts code bound text given errors found
  unfolding listings-given
  near-given found h = record {
    listings = listings-given (map (λ m. m.0) found) h.listings;
    each = h.each;
    near = each_near found h.near;
    once = h.once;
    all = λ other n. h.all other (text-few other n);
    itself = λ n. h.itself (text-few text n);
    one = λ a. h.one (a.0, a.1, none_few a.2, a.3);
    only = λ a other n. h.only (a.0, a.1, none_few a.2, a.3) other (text-few other n);
  }

-- ---- what is said

abbrev pub SaysBy : Code → List ℕ → List ℕ → List ℕ → Option ℕ → Type 0
SaysBy code text given said o =
    MatchOption o (said ≡ err 4) (λ errors. SaysNear code text given errors said ⊎ SaysRefusal (IsNearTextsRefusal code text) number_of_correct_error said)

by_errors : (code : Code) (text few given said : List ℕ) → few ≡ take 4 (with_erasures [] given) → (o : Option ℕ) → SaysBy code text few said o → SaysBy code text given said o
by_errors code text few given said is None h = h
by_errors code text few given said is (Some errors) (inl h) = inl (record { found = h.found; near = near-given code 3 text few given errors is h.found h.near; spelling = h.spelling })
by_errors code text few given said is (Some errors) (inr h) = inr h

-- what is said with the few is said with all of them
pub says-given : (code : Code) (text few given word said : List ℕ) → few ≡ take 4 (with_erasures [] given) → IsNearTextsAnswer code text few word said → IsNearTextsAnswer code text given word said
says-given code text few given word said is = by_errors code text few given said is (errors_of_word word)

-- ---- confidential addresses

module _ (few given : List ℕ) (errors : ℕ) (is : few ≡ take 7 (with_erasures [] given)) where
  abbrev AreFew : List ℕ → Type 0
  AreFew s = (6 < length s) ⊎ (2 * errors + length s ≤ 7)

  -- so many errors may be looked for beside the few where they may beside all of them
  asked-given : IsLiquidAsked few errors → IsLiquidAsked given errors
  asked-given a = elim (cases_lt (length (with_erasures [] given)) 7) [
    | inl short ↦ (a.0, subst AreFew (same_erasures 6 few given is (omega arith)) a.1)
    | inr long ↦ (a.0, inl (omega arith))
  ]

  asked-few : IsLiquidAsked given errors → IsLiquidAsked few errors
  asked-few a = elim (cases_lt (length (with_erasures [] given)) 7) [
    | inl short ↦ (a.0, subst AreFew (sym (same_erasures 6 few given is (omega arith))) a.1)
    | inr long ↦
        elim (cases_lt (length (with_erasures [] few)) 7) [
          | inl less ↦ let size : length (with_erasures [] given) ≤ 6 = no_more 6 few given is (omega arith) in absurd (omega (arith, size, long))
          | inr many ↦ (a.0, inl (omega arith))
        ]
  ]

abbrev pub SaysLiquidBy : List ℕ → List ℕ → List ℕ → Option ℕ → Type 0
SaysLiquidBy text given said o = MatchOption o (said ≡ err 4) (λ errors. IsLiquidNearAnswer text given errors said)

liquid_by_errors : (text few given said : List ℕ) → few ≡ take 7 (with_erasures [] given) → (o : Option ℕ) → SaysLiquidBy text few said o → SaysLiquidBy text given said o
liquid_by_errors text few given said is None h = h
liquid_by_errors text few given said is (Some errors) (inl (unasked, refused)) = inl (λ asked. unasked (asked-few few given errors is asked), refused)
liquid_by_errors text few given said is (Some errors) (inr (asked, inl h)) =
    inr (asked-given few given errors is asked, inl (record { found = h.found; near = near-given blech32_code 6 text few given errors is h.found h.near; spelling = h.spelling }))
liquid_by_errors text few given said is (Some errors) (inr (asked, inr h)) = inr (asked-given few given errors is asked, inr h)

-- what is said with the few is said with all of them
pub says_liquid-given : (text few given word said : List ℕ) → few ≡ take 7 (with_erasures [] given) → IsLiquidAnswer text few word said → IsLiquidAnswer text given word said
says_liquid-given text few given word said is = liquid_by_errors text few given said is (liquid_errors_of_word word)
