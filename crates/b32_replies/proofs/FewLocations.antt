-- The first different locations of a word tell what all of them tell, where they are one more than a search takes.
use Rattle.std.specs.Prelude.{Bool, true, false, cond}
use Rattle.std.specs.List.{AllByRecursion}
use Rattle.std.proofs.Common.{◌≡◌, ℕ, ◌+◌, ◌*◌, ◌-◌, ◌<◌, ◌≤◌, inl, inr, List, [], ◌∷◌, ◌++◌, take, drop, length, length-append, length-drop, subst, sym, ap, ◌∙◌, refl, arith}
use Rattle.std.proofs.ByRecursion.{All-take}
use Rattle.std.proofs.lemmas.Bool.{cases_lt}
use Rattle.std.proofs.lemmas.List.{length-take-le, take_all, take-append-drop, take-append-le, take-take}
use Rattle.bech32_gf.specs.declared.gf32.Fe32.{Fe32}
use Rattle.bech32_checksum.specs.Code.{Code}
use Rattle.bech32_checksum.specs.Roots.{singleton_bound}
use Rattle.bech32_bch.specs.Erasures.{has, with_erasures}
use Rattle.bech32_bch.specs.Pattern.{errors_outside}
use Rattle.bech32_bch.proofs.Loops.{has-true}
use Rattle.bech32_bch.proofs.Places.{look}
use Rattle.bech32_correction.specs.Mistyped.{HasNoListing, IsListingOf}
use Rattle.bech32_lookup.proofs.Added.{with_erasures-append}
use Rattle.bech32_correction.proofs.Inside.{all-with_erasures}
use Rattle.b32_replies.specs.Reply.{IsCorrectAnswer, SaysMended, SaysNone}

-- ---- one location more

-- what is put behind a list is not among its first ones
cut_before : (k : ℕ) (s : List ℕ) (x : ℕ) (b : Bool) → k ≤ length s → take k (cond b s (s ++ x ∷ [])) ≡ take k s
cut_before k s x true long = refl
cut_before k s x false long = take-append-le k s (x ∷ []) long

-- there are as many as are kept
pub stays-full : (k : ℕ) (few : List ℕ) (x : ℕ) → length few ≡ k → few ≡ take k (with_erasures few (x ∷ []))
stays-full k few x size = sym (cut_before k few x (has few x) (omega arith) ∙ take_all k few (omega arith))

-- it is one of them
pub stays-known : (k : ℕ) (few : List ℕ) (x : ℕ) → length few ≤ k → has few x ≡ true → few ≡ take k (with_erasures few (x ∷ []))
stays-known k few x size known = sym (ap (λ (b : Bool). take k (cond b few (few ++ x ∷ []))) known ∙ take_all k few size)

-- it is added
pub grows-new : (k : ℕ) (few new : List ℕ) (x : ℕ) → length few < k → has few x ≡ false → new ≡ few ++ x ∷ [] → new ≡ take k (with_erasures few (x ∷ []))
grows-new k few new x size other pushed =
    let longer : length (few ++ x ∷ []) ≡ length few + 1 = length-append few (x ∷ []) in
    pushed ∙ sym (ap (λ (b : Bool). take k (cond b few (few ++ x ∷ []))) other ∙ take_all k (few ++ x ∷ []) (omega arith))

-- to add it to the first ones gives the first ones of all
among_first : (k : ℕ) (all : List ℕ) (x : ℕ) → take k (with_erasures (take k all) (x ∷ [])) ≡ take k (with_erasures all (x ∷ []))
among_first k all x = elim (cases_lt (length all) k) [
  | inl short ↦ ap (λ (s : List ℕ). take k (with_erasures s (x ∷ []))) (take_all k all (omega arith))
  | inr long ↦
      let size : length (take k all) ≡ k = length-take-le k all long in
      cut_before k (take k all) x (has (take k all) x) (omega arith) ∙ take-take k k all (omega arith) ∙ sym (cut_before k all x (has all x) long)
]

pub first-more : (k : ℕ) (few new given : List ℕ) (x : ℕ) → few ≡ take k (with_erasures [] given) → new ≡ take k (with_erasures few (x ∷ []))
    → new ≡ take k (with_erasures [] (given ++ x ∷ []))
first-more k few new given x is added =
    added ∙ ap (λ (s : List ℕ). take k (with_erasures s (x ∷ []))) is ∙ among_first k (with_erasures [] given) x
    ∙ ap (take k) (sym (with_erasures-append [] given (x ∷ [])))

-- ---- the different ones

-- different locations are the erasures themselves
again : (s more : List ℕ) → with_erasures [] s ≡ s → with_erasures [] (with_erasures s more) ≡ with_erasures s more
again s [] e = e
again s (x ∷ more) e = again (cond (has s x) s (s ++ x ∷ [])) more (step (has s x) refl)
  where
    step : (b : Bool) → has s x ≡ b → with_erasures [] (cond b s (s ++ x ∷ [])) ≡ cond b s (s ++ x ∷ [])
    step true known = e
    step false new =
        with_erasures-append [] s (x ∷ []) ∙ ap (λ (t : List ℕ). with_erasures t (x ∷ [])) e
        ∙ ap (λ (b : Bool). cond b s (s ++ x ∷ [])) new

-- each further location adds one at most
at_most : (s more : List ℕ) → length (with_erasures s more) ≤ length s + length more
at_most s [] = omega arith
at_most s (x ∷ more) =
    let here : length (cond (has s x) s (s ++ x ∷ [])) ≤ length s + 1 = step (has s x) in
    let rest : length (with_erasures (cond (has s x) s (s ++ x ∷ [])) more) ≤ length (cond (has s x) s (s ++ x ∷ [])) + length more =
    at_most (cond (has s x) s (s ++ x ∷ [])) more in
    omega arith
  where
    step : (b : Bool) → length (cond b s (s ++ x ∷ [])) ≤ length s + 1
    step true = omega arith
    step false = omega (arith, length-append s (x ∷ []))

-- where one more than so many are no more than these, neither are all
all_few : (n : ℕ) (all : List ℕ) → with_erasures [] all ≡ all → length (with_erasures [] (take (n + 1) all)) ≤ n → length all ≤ n
all_few n all e few =
    let whole : all ≡ with_erasures (with_erasures [] (take (n + 1) all)) (drop (n + 1) all) =
    sym e ∙ ap (with_erasures []) (sym (take-append-drop (n + 1) all)) ∙ with_erasures-append [] (take (n + 1) all) (drop (n + 1) all) in
    let most : length (with_erasures (with_erasures [] (take (n + 1) all)) (drop (n + 1) all)) ≤ length (with_erasures [] (take (n + 1) all)) + length (drop (n + 1) all) =
    at_most (with_erasures [] (take (n + 1) all)) (drop (n + 1) all) in
    let size : length (drop (n + 1) all) ≡ length all - (n + 1) = length-drop (n + 1) all in
    let same : length all ≡ length (with_erasures (with_erasures [] (take (n + 1) all)) (drop (n + 1) all)) = ap (λ (s : List ℕ). length s) whole in
    omega arith

-- what holds of the different ones holds of all
all_and_more : (P : ℕ → Type 0) (s given : List ℕ) → AllByRecursion P (with_erasures s given) → AllByRecursion P s × AllByRecursion P given
all_and_more P s [] h = (h, tt)
all_and_more P s (x ∷ more) h =
    let rest : AllByRecursion P (cond (has s x) s (s ++ x ∷ [])) × AllByRecursion P more = all_and_more P (cond (has s x) s (s ++ x ∷ [])) more h in
    let here : AllByRecursion P s × P x = step (has s x) refl rest.0 in
    (here.0, (here.1, rest.1))
  where
    last : (t : List ℕ) → AllByRecursion P (t ++ x ∷ []) → AllByRecursion P t × P x
    last [] k = (tt, k.0)
    last (y ∷ t) k = let more : AllByRecursion P t × P x = last t k.1 in ((k.0, more.0), more.1)

    step : (b : Bool) → has s x ≡ b → AllByRecursion P (cond b s (s ++ x ∷ [])) → AllByRecursion P s × P x
    step true known k = (k, look P x s k (has-true s x known))
    step false new k = last s k

-- ---- the few and all

module _ (n : ℕ) (few given : List ℕ) (is : few ≡ take (n + 1) (with_erasures [] given)) where
  different : with_erasures [] (with_erasures [] given) ≡ with_erasures [] given
  different = again [] given refl

  -- where there are no more than a search takes, the few are all of them
  pub few_are : length (with_erasures [] given) ≤ n → few ≡ with_erasures [] given
  few_are size = is ∙ take_all (n + 1) (with_erasures [] given) (omega arith)

  pub same_erasures : length (with_erasures [] given) ≤ n → with_erasures [] few ≡ with_erasures [] given
  same_erasures size = ap (with_erasures []) (few_are size) ∙ different

  -- they are no more than a search takes where the few are
  pub no_more : length (with_erasures [] few) ≤ n → length (with_erasures [] given) ≤ n
  no_more size = all_few n (with_erasures [] given) different (subst (λ (s : List ℕ). length (with_erasures [] s) ≤ n) is size)

  -- what holds of the few then holds of all
  pub each_given : (P : ℕ → Type 0) → length (with_erasures [] given) ≤ n → AllByRecursion P few → AllByRecursion P given
  each_given P size h = (all_and_more P [] given (subst (λ (s : List ℕ). AllByRecursion P s) (few_are size) h)).1

  -- and what holds of all of the few
  pub each_few : (P : ℕ → Type 0) → AllByRecursion P given → AllByRecursion P few
  each_few P h =
      subst (λ (s : List ℕ). AllByRecursion P s) (sym is) (All-take P (n + 1) (with_erasures [] given) (all-with_erasures P [] given tt h))

-- ---- what is said

module _ (code : Code) (text few given : List ℕ) (is : few ≡ take 4 (with_erasures [] given)) where
  listing-given : (listing : List (ℕ × Fe32)) → IsListingOf code (singleton_bound 24 26) text few listing → IsListingOf code (singleton_bound 24 26) text given listing
  listing-given listing h =
      let fits : 2 * errors_outside (with_erasures [] few) h.only.pattern + length (with_erasures [] few) ≤ 3 = h.only.explains.few in
      let small : length (with_erasures [] few) ≤ 3 = omega arith in
      let size : length (with_erasures [] given) ≤ 3 = no_more 3 few given is small in
      record {
        hrp = h.hrp;
        data_part = h.data_part;
        residue = h.residue;
        refused = h.refused;
        inside = each_given 3 few given is (λ i. i < length h.data_part) size h.inside;
        only = rw (← same_erasures 3 few given is size) h.only;
        mends = h.mends;
      }

  -- where a pattern explains the residue with all of them, they are no more than three
  no_listing-given : HasNoListing code (singleton_bound 24 26) text few → HasNoListing code (singleton_bound 24 26) text given
  no_listing-given h = record {
    hrp = h.hrp;
    data_part = h.data_part;
    residue = h.residue;
    refused = h.refused;
    none = λ inside e explains.
        let fits : 2 * errors_outside (with_erasures [] given) e + length (with_erasures [] given) ≤ 3 = explains.few in
        let size : length (with_erasures [] given) ≤ 3 = omega arith in
        h.none (each_few 3 few given is (λ i. i < length h.data_part) inside) e (rw (same_erasures 3 few given is size) explains);
  }

  mended-given : (said : List ℕ) → SaysMended code text few said → SaysMended code text given said
  mended-given said h = record {
    listing = h.listing;
    is_listing = listing-given h.listing h.is_listing;
    mended_text = h.mended_text;
    is_mended = h.is_mended;
    accepted = h.accepted;
    spelling = h.spelling;
  }

  none-given : (said : List ℕ) → SaysNone code text few said → SaysNone code text given said
  none-given said h = record { none = no_listing-given h.none; spelling = h.spelling }

  -- what is said with the few is said with all of them
  pub says-given : (said : List ℕ) → IsCorrectAnswer code text few said → IsCorrectAnswer code text given said
  says-given said (inl fine) = inl fine
  says-given said (inr (inl mended)) = inr (inl (mended-given said mended))
  says-given said (inr (inr (inl none))) = inr (inr (inl (none-given said none)))
  says-given said (inr (inr (inr refused))) = inr (inr (inr refused))
