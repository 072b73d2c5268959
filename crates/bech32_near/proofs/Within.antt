-- Where the errors and the erasures are within the bound, the corrector's one listing is all.
use Rattle.std.specs.List.{AllByRecursion}
use Rattle.std.specs.Prelude.{IfOk, OnErr}
use Rattle.std.proofs.Common.{◌≡◌, ℕ, ◌+◌, ◌*◌, ◌<◌, ◌≤◌, List, [], ◌∷◌, ◌++◌, drop, length, Option, Some, Result, Ok, Err, subst, sym, ap, ◌∙◌, refl, arith}
use Rattle.std.proofs.lemmas.List.{length-append}
use Rattle.bech32_gf.specs.Fe32 as fe32
use Rattle.bech32_gf.specs.declared.gf32.Fe32.{Fe32}
use Rattle.bech32_gf.specs.laws.Fe32Laws.{is_field}
use Rattle.bech32_bch.specs.Erasures.{AreErasures}
use Rattle.bech32_bch.proofs.Places.{drop_first}
use Rattle.bech32_checksum.specs.Code.{Code}
use Rattle.bech32_lookup.specs.Question.{IsAnswerTo, Question}
use Rattle.bech32_near.specs.search.Nearest.{AreNearest}
use Rattle.bech32_near.proofs.NearestAdded.{AreWithin, IsAnswer, alone_not, alone_one, found_gathered}
use Rattle.bech32_near.proofs.NearestAnswers.{answer_of, are_nearest}
use Rattle.bech32_near.proofs.NearestListing.{each_below, length-placed}

module _ (code : Code) (bound : ℕ) (q : Question) (errors : ℕ) (erased : AreErasures q.window q.erasures) (few : 2 * errors + length q.erasures ≤ bound) (answer : Option (List (ℕ × Fe32)))
    (is : IsAnswerTo code bound q answer) where
  abbrev g : List Fe32
  g = code.generator

  abbrev s : List ℕ
  s = q.erasures

  its : IsAnswer is_field fe32.value g q.residue s q.window bound s answer
  its = answer_of fe32.value s code bound q answer erased is

  fits : length s ≤ bound
  fits = omega (arith, few)

  module _ (items : List (ℕ × Fe32)) (e : answer ≡ Some items) where
    -- its parts
    parts : (rest : List (ℕ × Fe32)) × (drop (length s) items ≡ rest) × (length items ≡ length s + length rest) × AllByRecursion (λ (p : ℕ × Fe32). p.0 < q.window) rest
    parts =
        let k = found_gathered is_field fe32.value g q.residue s q.window bound s answer items its e in
        let placed : length k.1.given ≡ length s = length-placed k.1.given s k.1.placed in
        let whole : length items ≡ length (k.1.given ++ k.1.errors) = ap (λ u. length u) k.1.parts in (
          k.1.errors,
          ap (drop (length s)) k.1.parts ∙ ap (λ n. drop n (k.1.given ++ k.1.errors)) (sym placed) ∙ drop_first k.1.given k.1.errors,
          omega (arith, length-append k.1.given k.1.errors),
          each_below fe32.ops s q.window k.1.errors k.1.each,
        )

    -- it has too many errors
    pub many_within : length s + errors < length items → AreNearest code bound q errors []
    many_within many = are_nearest code bound q errors q.window [] [] refl refl
        (alone_not is_field fe32.value g q.residue s q.window bound answer q.window errors [] items its few (omega arith) e
        (λ w. let least : length (drop (length s) items) ≤ errors = w.0 in omega (arith, many, least, ap length parts.1, parts.2))) erased fits

    -- it is all
    pub one_within : length items ≤ length s + errors → AreNearest code bound q errors (items ∷ [])
    one_within small = are_nearest code bound q errors q.window [] (items ∷ []) refl refl
        (alone_one is_field fe32.value g q.residue s q.window bound answer q.window errors [] (items ∷ []) items its few (omega arith) e
        (subst (λ u. AreWithin q.window errors u) (sym parts.1) (omega (arith, small, parts.2), parts.3)) refl) erased fits

-- ---- of what a call returned

pub one_returned : {R E : Type 0} (items : R → List (List (ℕ × Fe32))) (A B C : Type 0) (r : Result R E) → IfOk r (λ l. length (items l) ≤ 1) → IfOk r (λ l. A → B → C → length (items l) ≤ 1)
one_returned items A B C (Ok l) h = λ a b c. h
one_returned items A B C (Err e) h = tt

pub memory_returned : {R E : Type 0} (A B C : Type 0) (r : Result R E) → OnErr r (A → C) → OnErr r (A → B → C)
memory_returned A B C (Ok l) h = tt
memory_returned A B C (Err e) h = λ a b. h a

pub never_returned : {R E : Type 0} (A B C : Type 0) (r : Result R E) → (B → ⊥) → OnErr r (A → B → C)
never_returned A B C (Ok l) h = tt
never_returned A B C (Err e) h = λ a b. absurd (h b)
