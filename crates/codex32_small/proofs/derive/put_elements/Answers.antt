use Rattle.std.proofs.Common.{◌≡◌, ◌≤◌, ◌+◌, ◌∙◌, ℕ, List, length, map, take, drop, get_or, inr, refl, sym, ap, subst, arith}
use Rattle.std.proofs.lemmas.List.{length-take-le, take_at}
use Rattle.bech32_gf.specs.Fe32.{elements_of, ops}
use Rattle.bech32_gf.specs.declared.gf32.Fe32.{Fe32}
use Rattle.codex32_steady.specs.shares.Shares.{AreShares, DoAgree, IsGiven}
use Rattle.codex32.specs.Derive.{count_of, indices_of, rows_of, size_of}
use Rattle.codex32.proofs.Derived.{count-some, shares-from_set}
use Rattle.codex32.proofs.ShareParts.{fits}
use Rattle.codex32_small.specs.Parts.{shares_of}
use Rattle.codex32_small.specs.declared.part.Part.{Part}
use Rattle.codex32_small.proofs.Parts.{characters_of_part, index_of_part, indices-parts, rows-parts, size-parts}
use Rattle.codex32_small.proofs.derive.put_elements.Goals as goal

-- the rows of parts
abbrev rows : List Part → List (List Fe32)
rows ps = map (λ t. elements_of (characters_of_part t)) ps

record IsSized (ps : List Part) (room : List Fe32) (first : Part) : Type 0 where
  size : length first.characters.now ≡ size_of (shares_of ps)
  small : length first.characters.now ≤ 124
  row : length (take (length first.characters.now) room) ≡ length first.characters.now

sized : (ps : List Part) (room : List Fe32) (item : Part) (n : ℕ) → n ≡ count_of (shares_of ps) → n ≤ length ps → item ≡ get_or ps 0 item → 124 ≤ length room → IsSized ps room (get_or ps 0 item)
sized ps room item n count enough is wide =
    let first : Part = get_or ps 0 item in
    let some : 1 ≤ length ps = omega (arith, count-some (shares_of ps), count, enough) in
    let size = size-parts ps first some (ap (λ (d : Part). get_or ps 0 d) is) in
    let most = (fits (3 + length first.characters.now) first.within).most in
    let small : length first.characters.now ≤ 124 = omega (arith, most) in
    record { size = size; small = small; row = length-take-le (length first.characters.now) room (omega (arith, small, wide)) }

pub interpolate_if_consistent-requires-clause-shares : goal.interpolate_if_consistent-requires-clause-shares
interpolate_if_consistent-requires-clause-shares c =
    let ps = c.args.parts.now in
    let s = sized ps c.args.room.now c.index-parts-0.result c.in_ok-count.count c.in_ok-count.ensures.outcome.1 c.in_ok-count.ensures.few.1 c.index-parts-0.is c.requires in
    subst (λ (n : ℕ). AreShares (map index_of_part ps) (rows ps) n) (sym (s.row ∙ s.size))
    (subst (λ (ts : List (List Fe32)). AreShares (map index_of_part ps) ts (size_of (shares_of ps))) (rows-parts ps)
    (subst (λ (xs : List Fe32). AreShares xs (rows_of (shares_of ps)) (size_of (shares_of ps))) (indices-parts ps)
    (shares-from_set (shares_of ps) c.args.index c.in_ok-count.ensures.outcome.0)))

pub returns-then-not-interpolate_if_consistent-clause-outcome : goal.returns-then-not-interpolate_if_consistent-clause-outcome
returns-then-not-interpolate_if_consistent-clause-outcome c =
    let ps = c.args.parts.now in
    let s = sized ps c.args.room.now c.index-parts-0.result c.in_ok-count.count c.in_ok-count.ensures.outcome.1 c.in_ok-count.ensures.few.1 c.index-parts-0.is c.requires in
    inr (
      refl,
      c.in_ok-count.ensures.outcome.0,
      λ agree.
          let same =
          subst (λ (n : ℕ). DoAgree ops c.in_ok-count.count (map index_of_part ps) (rows ps) n) (sym (s.row ∙ s.size))
          (subst (λ (ts : List (List Fe32)). DoAgree ops c.in_ok-count.count (map index_of_part ps) ts (size_of (shares_of ps))) (rows-parts ps)
          (subst (λ (xs : List Fe32). DoAgree ops c.in_ok-count.count xs (rows_of (shares_of ps)) (size_of (shares_of ps))) (indices-parts ps)
          (subst (λ (k : ℕ). DoAgree ops k (indices_of (shares_of ps)) (rows_of (shares_of ps)) (size_of (shares_of ps))) (sym c.in_ok-count.ensures.outcome.1) agree))) in
          let answer = c.interpolate_if_consistent.ensures.answer.1 same in
          absurd (let k = sym c.if-not-interpolate_if_consistent.true ∙ answer in cc),
    )

given_in : (ps : List Part) (x : Fe32) (k n m : ℕ) (row : List Fe32) → k ≡ count_of (shares_of ps) → m ≡ n → IsGiven ops k (map index_of_part ps) (rows ps) m x row
    → IsGiven ops (count_of (shares_of ps)) (indices_of (shares_of ps)) (rows_of (shares_of ps)) n x row
given_in ps x k n m row count size h =
    subst (λ (i : ℕ). IsGiven ops i (indices_of (shares_of ps)) (rows_of (shares_of ps)) n x row) count
    (subst (λ (xs : List Fe32). IsGiven ops k xs (rows_of (shares_of ps)) n x row) (sym (indices-parts ps))
    (subst (λ (ts : List (List Fe32)). IsGiven ops k (map index_of_part ps) ts n x row) (sym (rows-parts ps))
    (subst (λ (j : ℕ). IsGiven ops k (map index_of_part ps) (rows ps) j x row) size h)))

pub returns-clause-outcome : goal.returns-clause-outcome
returns-clause-outcome c =
    let ps = c.args.parts.now in
    let first : Part = get_or ps 0 c.index-parts-0.result in
    let n : ℕ = length first.characters.now in
    let row = c.interpolate_if_consistent.new.target in
    let s = sized ps c.args.room.now c.index-parts-0.result c.in_ok-count.count c.in_ok-count.ensures.outcome.1 c.in_ok-count.ensures.few.1 c.index-parts-0.is c.requires in
    let given = given_in ps c.args.index c.in_ok-count.count n _ row c.in_ok-count.ensures.outcome.1 s.row (c.interpolate_if_consistent.ensures.text c.if-not-interpolate_if_consistent.false) in
    let front = take_at row (drop n c.args.room.now) n (c.interpolate_if_consistent.ensures.size ∙ s.row) in (
      s.size,
      s.small,
      c.in_ok-count.ensures.outcome.0,
      subst (λ (l : List Fe32). IsGiven ops (count_of (shares_of ps)) (indices_of (shares_of ps)) (rows_of (shares_of ps)) n c.args.index l) (sym front) given,
    )
