use Rattle.std.proofs.Common.{◌≡◌, ◌⊎◌, ◌∙◌, ◌+◌, ◌-◌, ◌/◌, ◌%◌, ◌<◌, ◌≤◌, ℕ, List, [], ◌∷◌, length, get_or, take, drop, map, ap, sym, subst, arith, ⊎_elim, inl, inr}
use Rattle.std.proofs.lemmas.List.{take_rest, length-drop, length-take-le}
use Rattle.bech32_gf.specs.Fe32 as fe32
use Rattle.bech32_gf.specs.declared.gf32.Fe32.{Fe32 as Element}
use Rattle.bech32_poly.specs.Polynomial.{appended}
use Rattle.bech32_poly.proofs.Appended.{appended-append}
use Rattle.bech32_checksum.specs.Code.{IsResidueOf}
use Rattle.bech32_checksum.specs.TextPolynomial.{hrp_elements, text_polynomial}
use Rattle.bech32_hrp.specs.Hrp.{is_lower, is_upper, is_mixed_case}
use Rattle.bech32_decode.specs.Cases.{lower_count, upper_count}
use Rattle.bech32_decode.proofs.Cases.{lower_count-le, upper_count-le}
use Rattle.bech32_gf.specs.laws.Fe32Laws.{is_field}
use Rattle.bech32_poly.proofs.Remainder.{remainder_unique}
use Rattle.bech32_decode.specs.Text.{IsText}
use Rattle.bech32_decode.specs.Letters.{letter_count}
use Rattle.bech32_decode.proofs.PartCases.{letter_count-le}
use Rattle.bech32_decode.proofs.OneCase.{one_case, split_is}
use Rattle.bech32_decode.proofs.reading.Reading.walked.Goals as goal

-- the characters behind the separator
abbrev behind : List ℕ → ℕ → List ℕ
behind text n = take (length text - (n + 1)) (drop (n + 1) text)

pub invariant_of-result : goal.invariant_of-result
invariant_of-result g c =
    let text = c.args.text.now in
    let n = c.front_of-front.result.length in
    let h : List ℕ = take n text in
    let d : List ℕ = drop (n + 1) text in
    let front_is = c.front_of-front.ensures in
    let inside : n < length text = omega (arith, front_is.bound, c.if-end-text.false) in
    let some : 1 ≤ n = omega (arith, c.if-end-eq0.false) in
    let few : n ≤ 83 = omega (arith, c.if-end-gt83.false) in
    let short : length text < 1024 = omega (arith, c.requires) in
    let size : length h ≡ n = length-take-le n text (omega (arith, inside)) in
    let one : get_or text n 0 ≡ 49 = omega (arith, c.if-text-end-ne49.false) in
    let same : behind text n ≡ d = take_rest text (n + 1) in
    let cases = c.walk-counts.ensures.cases in
    let lower_few = lower_count-le (behind text n) in
    let upper_few = upper_count-le (behind text n) in
    let long : length (behind text n) ≤ 1023 = omega (arith, ap length same, length-drop (n + 1) text, short) in
    let part_lower = letter_count-le is_lower h in
    let part_upper = letter_count-le is_upper h in
    let known : ((letter_count is_lower h ≡ 0) × (lower_count d ≡ 0)) ⊎ ((letter_count is_upper h ≡ 0) × (upper_count d ≡ 0)) =
    ⊎_elim
    (λ (e : (c.front_of-front.result.counts + c.walk-counts.result) % 4096 ≡ 0).
    inl (omega (arith, e, front_is.counts, cases, lower_few, upper_few, long, part_lower, part_upper, size, few), ap lower_count (sym same) ∙ omega (arith, e, front_is.counts, cases, lower_few, upper_few, long, part_lower, part_upper, size, few)))
    (λ (e : (c.front_of-front.result.counts + c.walk-counts.result) / 4096 ≡ 0).
    inr (omega (arith, e, front_is.counts, cases, lower_few, upper_few, long, part_lower, part_upper, size, few), ap upper_count (sym same) ∙ omega (arith, e, front_is.counts, cases, lower_few, upper_few, long, part_lower, part_upper, size, few)))
    (c.is_one_case.ensures.0 c.if-not-is_one_case.false) in
    let parts = one_case h d known in
    let split = split_is text n inside one in
    let number = g.Ck.MidstateRepr.PackedFe32.number in
    let code = g.Ck.Checksum.code in
    let front : List Element = fe32.one ∷ [] in
    let left = c.walk-counts.ensures.after _ (c.input_part.ensures front c.new-engine.ensures) in
    let all : appended (appended front (hrp_elements h)) (map fe32.element_of (behind text n)) ≡ text_polynomial h (fe32.elements_of d) =
    ap (λ (l : List ℕ). appended (appended front (hrp_elements h)) (map fe32.element_of l)) same
    ∙ sym (appended-append front (hrp_elements h) (map fe32.element_of d)) in
    let grammar : IsText text h d = record {
      split = split;
      is_hrp = record { not_empty = omega (arith, size, some); not_long = omega (arith, size, few); graphic = front_is.graphic; one_case = parts.1 };
      data_bytes = parts.0;
      one_case = ap is_mixed_case split ∙ parts.2;
    } in
    let degree = g.met.Ck.Checksum.degree_law in
    record {
      is_reading = record {
        grammar = subst (λ (b : List ℕ). IsText text h b) (sym same) grammar;
        clear = rw degree c.residue.ensures.clear;
        leaves = remainder_unique is_field code.generator _ _
            (subst (λ (b : List ℕ). IsResidueOf number code c.residue.result.now (text_polynomial h (fe32.elements_of b))) (sym same)
            (rw c.residue.ensures.value (subst (IsResidueOf number code c.walk-counts.new.engine) all left)));
      };
    }

pub overflow_add-front : goal.overflow_add-front
overflow_add-front g c =
    let text = c.args.text.now in
    let n = c.front_of-front.result.length in
    let size = length-take-le n text c.front_of-front.ensures.bound in
    omega (
      arith,
      size,
      c.requires,
      c.front_of-front.ensures.counts,
      c.front_of-front.ensures.few,
      letter_count-le is_lower (take n text),
      letter_count-le is_upper (take n text),
      c.walk-counts.ensures.cases,
      lower_count-le (behind text n),
      upper_count-le (behind text n),
      ap length (take_rest text (n + 1)),
      length-drop (n + 1) text,
    )
