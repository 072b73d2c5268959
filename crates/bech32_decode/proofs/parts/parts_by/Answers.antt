use Rattle.std.proofs.Common.{◌≡◌, false, ◌∙◌, sym, ap, List, ℕ, ◌++◌, ◌∷◌, subst}
use Rattle.bech32_gf.specs.Alphabet.{is_data}
use Rattle.bech32_hrp.specs.Hrp.{IsHrp, is_mixed_case}
use Rattle.bech32_decode.proofs.Grammar.{behind-slice}
use Rattle.bech32_decode.proofs.OneCase.{one_case-front}
use Rattle.bech32_decode.proofs.parts.parts_by.Goals as goal

pub part_fault-requires : goal.part_fault-requires
part_fault-requires g c =
    let one : is_mixed_case c.args.s.now ≡ false = ap is_mixed_case (sym c.as_bytes-bytes.ensures.value) ∙ sym c.has_both_cases.ensures ∙ c.if-has_both_cases.false in
    let found = rw c.in-Some.is at (c.in_ok-before.ensures.1) in
    let (behind, e, d, cut) = found in
    one_case-front c.args.s.now c.in-Some.front.now (49 ∷ behind) e one

pub returns : goal.returns
returns g c =
    let one : is_mixed_case c.args.s.now ≡ false = ap is_mixed_case (sym c.as_bytes-bytes.ensures.value) ∙ sym c.has_both_cases.ensures ∙ c.if-has_both_cases.false in
    let found = rw c.in-Some.is at (c.in_ok-before.ensures.1) in
    let (behind, e, d, cut) = found in
    let part = c.as_bytes.ensures.value in
    let same = behind-slice c.as_bytes-bytes.result.now c.args.s.now c.in-Some.front.now behind c.as_bytes-bytes.ensures.value e in
    record {
      split = e ∙ ap (λ (x : List ℕ). x ++ 49 ∷ behind) (sym part) ∙ ap (λ (x : List ℕ). c.as_bytes.result.now ++ 49 ∷ x) (sym same);
      is_hrp = subst IsHrp (sym part) c.in_default-part_fault.ensures;
      data_bytes = ap is_data same ∙ d;
      one_case = one;
    }
