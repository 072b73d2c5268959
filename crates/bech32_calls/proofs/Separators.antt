-- What stands before the last `1` of a text.
use Rattle.std.proofs.Common.{◌≡◌, ℕ, suc, ◌+◌, ◌-◌, true, List, [], ◌∷◌, ◌++◌, Option, Some, None, length, take, get_or, eqb, inl, inr, refl, sym, ap, subst, ◌∙◌, arith, length-append}
use Rattle.std.proofs.lemmas.Bool.{and_from, eqb-true, not_from_false}
use Rattle.std.proofs.lemmas.List.{take_at, get_or-append-add}
use Rattle.std.proofs.lemmas.Option.{some_pair_parts}
use Rattle.std.proofs.lemmas.Str.{IsUtf8-take, IsCharBoundary-before_ascii}
use Rattle.std.specs.List.{list_all, suffix_len}
use Rattle.std.specs.Str.{IsUtf8}
use Rattle.bech32_decode.specs.Text.{split_at_last, before_byte}
use Rattle.bech32_calls.specs.Kinds.{is_not_separator}
use Rattle.bech32_calls.proofs.Ends.{end_at}
use Rattle.bech32_calls.proofs.Options.{cases_option, not_none, cond-none, cond-some}

abbrev Parts : Type 0
Parts = List ℕ × List ℕ

no_separator : (bs : List ℕ) → split_at_last bs ≡ None → list_all is_not_separator bs ≡ true
unfolding split_at_last
no_separator [] h = refl
no_separator (b ∷ bs) h =
    elim (cases_option (split_at_last bs)) [
      | inl none ↦
          let here = cond-none (eqb b 49) ([], bs) (sym (ap (λ (o : Option Parts). before_byte b o bs) none) ∙ h) in
          and_from (is_not_separator b) (list_all is_not_separator bs) (not_from_false (eqb b 49) here) (no_separator bs none)
      | inr some ↦ absurd (not_none (b ∷ some.0.0, some.0.1) (sym (ap (λ (o : Option Parts). before_byte b o bs) some.1) ∙ h))
    ]

pub separated : (text hrp data_part : List ℕ) → split_at_last text ≡ Some (hrp, data_part)
    → (text ≡ hrp ++ (49 ∷ data_part)) × (list_all is_not_separator data_part ≡ true)
unfolding split_at_last
separated [] hrp data_part h = absurd (cc)
separated (b ∷ bs) hrp data_part h =
    elim (cases_option (split_at_last bs)) [
      | inl none ↦
          let here = cond-some (eqb b 49) ([], bs) (hrp, data_part) (sym (ap (λ (o : Option Parts). before_byte b o bs) none) ∙ h) in
          let front : [] ≡ hrp = ap (λ (p : Parts). p.0) here.1 in
          let back : bs ≡ data_part = ap (λ (p : Parts). p.1) here.1 in (
            ap (λ (x : ℕ). x ∷ bs) (eqb-true b 49 here.0) ∙ ap (λ (x : List ℕ). 49 ∷ x) back ∙ ap (λ (x : List ℕ). x ++ (49 ∷ data_part)) front,
            ap (list_all is_not_separator) (sym back) ∙ no_separator bs none,
          )
      | inr some ↦
          let here = some_pair_parts (b ∷ some.0.0) hrp some.0.1 data_part (sym (ap (λ (o : Option Parts). before_byte b o bs) some.1) ∙ h) in
          let rest = separated bs some.0.0 some.0.1 some.1 in (
            ap (λ (x : List ℕ). b ∷ x) rest.0 ∙ ap (λ (x : List ℕ). x ++ (49 ∷ some.0.1)) here.0 ∙ ap (λ (x : List ℕ). hrp ++ (49 ∷ x)) here.1,
            ap (list_all is_not_separator) (sym here.1) ∙ rest.1,
          )
    ]

-- behind it: where the bytes begin that are not `1`
pub part_end-at : (text hrp data_part : List ℕ) (end : ℕ) → split_at_last text ≡ Some (hrp, data_part)
    → end ≡ length text - suffix_len is_not_separator text → end ≡ suc (length hrp)
part_end-at text hrp data_part end h end_is =
    let parts = separated text hrp data_part h in
    end_is ∙ ap (λ (x : List ℕ). length x - suffix_len is_not_separator x) parts.0 ∙ end_at is_not_separator hrp data_part 49 refl parts.1

pub IsUtf8-part : (text hrp data_part : List ℕ) → IsUtf8 text → split_at_last text ≡ Some (hrp, data_part) → IsUtf8 hrp
IsUtf8-part text hrp data_part u h =
    let split = (separated text hrp data_part h).0 in
    let n = length hrp in
    let here : n ≡ n + 0 = omega arith in
    let byte : get_or text n 0 ≡ 49 =
    ap (λ (x : List ℕ). get_or x n 0) split ∙ ap (λ (i : ℕ). get_or (hrp ++ (49 ∷ data_part)) i 0) here ∙ get_or-append-add hrp (49 ∷ data_part) 0 0 in
    let size : length text ≡ n + suc (length data_part) = ap (λ (x : List ℕ). length x) split ∙ length-append hrp (49 ∷ data_part) in
    subst IsUtf8 (ap (take n) split ∙ take_at hrp (49 ∷ data_part) n refl)
    (IsUtf8-take text n u (IsCharBoundary-before_ascii text n (omega (arith, size)) (omega (arith, byte))))
