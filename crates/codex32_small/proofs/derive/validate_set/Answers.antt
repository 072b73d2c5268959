use Rattle.std.specs.Prelude.{◌==◌, nat_lt, not}
use Rattle.std.proofs.Common.{◌≡◌, ◌≤◌, ◌<◌, ◌∙◌, true, false, length, get_or, inl, inr, refl, sym, ap, subst, rules, arith}
use Rattle.std.proofs.lemmas.Bool.{eqb-true, false_from_ne_true, lt-ltb, ltb-true, not-false}
use Rattle.bech32_gf.specs.Fe32 as fe32
use Rattle.bech32_gf.specs.declared.gf32.Fe32.{Fe32}
use Rattle.bech32_poly.specs.Distinct.{IsOnce}
use Rattle.codex32.specs.Derive.{IsUnshared, count_of}
use Rattle.codex32.specs.HeaderParts.{points_of, secret_index, threshold_number}
use Rattle.codex32.specs.declared.threshold.Threshold.{Threshold}
use Rattle.codex32_small.specs.Parts.{shares_of}
use Rattle.codex32_small.proofs.Parts.{count-parts, indices-parts, length-shares, parts-from_set, parts-unshared, set-from_parts, unshared-parts}
use Rattle.codex32_small.proofs.derive.validate_set.Goals as goal
use Rattle.codex32_small.proofs.derive.validate_set.Goals.{else-number-eq0-via-then-number-eq0+else-ne, else-number-eq0-via-else-number-eq0}

pub returns-then-not-are_of_set-clause-outcome : goal.returns-then-not-are_of_set-clause-outcome
returns-then-not-are_of_set-clause-outcome c =
    let ps = c.args.parts.now in
    let some : 1 ≤ length ps = search rules in
    let is : c.in-Some.first.now ≡ get_or ps 0 c.in-Some.first.now = search rules in
    inl (refl, λ set. absurd (let k = sym c.if-not-are_of_set.true ∙ c.are_of_set.ensures.1 (parts-from_set ps c.in-Some.first.now some is set) in cc))

pub returns-then-not-are_indices_distinct-clause-outcome : goal.returns-then-not-are_indices_distinct-clause-outcome
returns-then-not-are_indices_distinct-clause-outcome c =
    let ps = c.args.parts.now in
    let some : 1 ≤ length ps = search rules in
    let is : c.in-Some.first.now ≡ get_or ps 0 c.in-Some.first.now = search rules in
    let set = set-from_parts ps c.in-Some.first.now some is (c.are_of_set.ensures.0 c.if-not-are_of_set.false) in
    inr (inl (refl, set, λ once. absurd (let k = sym c.if-not-are_indices_distinct.true ∙ c.are_indices_distinct.ensures.1 (subst IsOnce (indices-parts ps) once) in cc)))

pub returns-then-ne-clause-outcome : goal.returns-then-ne-clause-outcome
returns-then-ne-clause-outcome c =
    let ps = c.args.parts.now in
    let first = c.in-Some.first.now in
    let some : 1 ≤ length ps = search rules in
    let is : first ≡ get_or ps 0 first = search rules in
    let set = set-from_parts ps first some is (c.are_of_set.ensures.0 c.if-not-are_of_set.false) in
    let once = subst IsOnce (sym (indices-parts ps)) (c.are_indices_distinct.ensures.0 c.if-not-are_indices_distinct.false) in
    let zero : first.header.threshold.number ≡ 0 = sym (c.number.ensures ∙ ap (λ (t : Threshold). threshold_number t) c.threshold-threshold.ensures) ∙ c.if-number-eq0.true in
    let apart : c.args.index ≡ secret_index → ⊥ = λ same. absurd (let k = sym c.if-ne.true ∙ c.ne.ensures ∙ ap (λ (x : Fe32). not (x.value == 16)) same in cc) in
    inr (inr (inl (refl, set, once, unshared-parts ps first c.args.index some is (zero, apart))))

pub returns-then-parts-count-clause-outcome : goal.returns-then-parts-count-clause-outcome
returns-then-parts-count-clause-outcome c =
    let ps = c.args.parts.now in
    let first = c.in-Some.first.now in
    let some : 1 ≤ length ps = search rules in
    let is : first ≡ get_or ps 0 first = search rules in
    let set = set-from_parts ps first some is (c.are_of_set.ensures.0 c.if-not-are_of_set.false) in
    let once = subst IsOnce (sym (indices-parts ps)) (c.are_indices_distinct.ensures.0 c.if-not-are_indices_distinct.false) in
    let number : c.number.result ≡ first.header.threshold.number = c.number.ensures ∙ ap (λ (t : Threshold). threshold_number t) c.threshold-threshold.ensures in
    let shared : IsUnshared (shares_of ps) c.args.index → ⊥ = λ un.
    let h = parts-unshared ps first c.args.index some is un in
    elim c.else-number-eq0.branch [
      | else-number-eq0-via-then-number-eq0+else-ne w ↦
          h.1 (fe32.path c.args.index secret_index (eqb-true c.args.index.value 16 (not-false (c.args.index.value == 16) (sym w.ne.ensures ∙ w.if-ne.false))))
      | else-number-eq0-via-else-number-eq0 w ↦ omega (arith, number, h.0, w.if-number-eq0.false)
    ] in
    let count : c.count_by-count.result ≡ count_of (shares_of ps) =
    c.count_by-count.ensures.value ∙ ap (λ (t : Threshold). points_of t) c.threshold-threshold.ensures ∙ sym (count-parts ps first some is) in
    let few : nat_lt (length (shares_of ps)) (count_of (shares_of ps)) ≡ true =
    lt-ltb (length (shares_of ps)) (count_of (shares_of ps)) (omega (arith, length-shares ps, count, c.if-parts-count.true)) in
    inr (inr (inr (refl, set, once, shared, few)))

pub returns-clause-outcome : goal.returns-clause-outcome
returns-clause-outcome c =
    let ps = c.args.parts.now in
    let first = c.in-Some.first.now in
    let some : 1 ≤ length ps = search rules in
    let is : first ≡ get_or ps 0 first = search rules in
    let set = set-from_parts ps first some is (c.are_of_set.ensures.0 c.if-not-are_of_set.false) in
    let once = subst IsOnce (sym (indices-parts ps)) (c.are_indices_distinct.ensures.0 c.if-not-are_indices_distinct.false) in
    let number : c.number.result ≡ first.header.threshold.number = c.number.ensures ∙ ap (λ (t : Threshold). threshold_number t) c.threshold-threshold.ensures in
    let shared : IsUnshared (shares_of ps) c.args.index → ⊥ = λ un.
    let h = parts-unshared ps first c.args.index some is un in
    elim c.else-number-eq0.branch [
      | else-number-eq0-via-then-number-eq0+else-ne w ↦
          h.1 (fe32.path c.args.index secret_index (eqb-true c.args.index.value 16 (not-false (c.args.index.value == 16) (sym w.ne.ensures ∙ w.if-ne.false))))
      | else-number-eq0-via-else-number-eq0 w ↦ omega (arith, number, h.0, w.if-number-eq0.false)
    ] in
    let count : c.count_by-count.result ≡ count_of (shares_of ps) =
    c.count_by-count.ensures.value ∙ ap (λ (t : Threshold). points_of t) c.threshold-threshold.ensures ∙ sym (count-parts ps first some is) in
    let enough : nat_lt (length (shares_of ps)) (count_of (shares_of ps)) ≡ false =
    false_from_ne_true (nat_lt (length (shares_of ps)) (count_of (shares_of ps)))
    (λ t. let less : length (shares_of ps) < count_of (shares_of ps) = ltb-true (length (shares_of ps)) (count_of (shares_of ps)) t in absurd (omega (arith, less, length-shares ps, count, c.if-parts-count.false))) in (
      record { set = set; once = once; shared = shared; enough = enough },
      count,
    )
