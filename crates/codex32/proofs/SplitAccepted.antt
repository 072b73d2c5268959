-- Each choice of the elements that are drawn is that of random bytes that are not refused.
use Rattle.std.specs.Prelude.{◌||◌, ◌==◌, nat_le, nat_lt}
use Rattle.std.specs.List.{list_all}
use Rattle.std.proofs.Common.{◌≡◌, ℕ, zero, suc, ◌+◌, ◌-◌, ◌*◌, ◌<◌, ◌≤◌, ◌&&◌, Bool, true, false, inl, inr, List, [], ◌∷◌, length, map, Option, Some, None, refl, sym, ap, subst, ◌∙◌, arith, suc-mul}
use Rattle.std.proofs.lemmas.Bool.{and_parts, cases_lt, cond-false, cond-true, eq-eqb, eqb-true, false_from_ne_true, le-leb, leb-true, lt-ltb}
use Rattle.std.proofs.lemmas.List.{length-map}
use Rattle.bech32_gf.specs.Fe32.{element, path}
use Rattle.bech32_gf.specs.declared.gf32.Fe32.{Fe32}
use Rattle.bech32_hrp.specs.Hrp.{first_of}
use Rattle.bech32_poly.proofs.Lists.{same_cons}
use Rattle.codex32.specs.Encode.{is_byte_count, is_long_byte_count}
use Rattle.codex32.specs.HeaderParts.{threshold_number}
use Rattle.codex32.specs.Secrecy.{DealKnown, HasOneDeal}
use Rattle.codex32.specs.Split.{are_all_equal, count_fault, drawn, equal_fault, payload_count, random_fault, random_size, secret_fault, split_refusal, text_size, unshared_split_fault}
use Rattle.codex32.specs.declared.error.SplitError.TheVariants as refusals
use Rattle.codex32.specs.declared.identifier.Identifier.{Identifier}
use Rattle.codex32.specs.declared.threshold.Threshold.{Threshold}
use Rattle.codex32.proofs.DerivedStrings.{alone}
use Rattle.codex32.proofs.Digits.{or_true}
use Rattle.codex32.proofs.SplitRefusals.{CanSplit}

-- ---- bytes of elements, the first with a bit more

abbrev values_of : List Fe32 → List ℕ
values_of es = map (λ (e : Fe32). e.value) es

abbrev bytes_for : List Fe32 → List ℕ
bytes_for [] = []
bytes_for (e ∷ es) = (32 + e.value) ∷ values_of es

of_value : (e : Fe32) → element e.value ≡ e
of_value e = let small : e.value < 32 = e.in_field in path (element e.value) e (omega (arith, small))

of_more : (e : Fe32) → element (32 + e.value) ≡ e
of_more e = let small : e.value < 32 = e.in_field in path (element (32 + e.value)) e (omega (arith, small))

drawn-values : (es : List Fe32) → drawn (values_of es) ≡ es
drawn-values [] = refl
drawn-values (e ∷ es) = same_cons _ _ _ _ (of_value e) (drawn-values es)

drawn-bytes : (es : List Fe32) → drawn (bytes_for es) ≡ es
drawn-bytes [] = refl
drawn-bytes (e ∷ es) = same_cons _ _ _ _ (of_more e) (drawn-values es)

length-bytes : (es : List Fe32) → length (bytes_for es) ≡ length es
length-bytes [] = refl
length-bytes (e ∷ es) = ap suc (length-map es (λ (e : Fe32). e.value))

small-values : (es : List Fe32) → list_all (λ b. nat_lt b 256) (values_of es) ≡ true
small-values [] = refl
small-values (e ∷ es) = let small : e.value < 32 = e.in_field in ap (λ (t : Bool). t && list_all (λ b. nat_lt b 256) (values_of es)) (lt-ltb e.value 256 (omega (arith, small))) ∙ small-values es

small-bytes : (es : List Fe32) → list_all (λ b. nat_lt b 256) (bytes_for es) ≡ true
small-bytes [] = refl
small-bytes (e ∷ es) = let small : e.value < 32 = e.in_field in ap (λ (t : Bool). t && list_all (λ b. nat_lt b 256) (values_of es)) (lt-ltb (32 + e.value) 256 (omega (arith, small))) ∙ small-values es

third : (a b c d : Bool) → c ≡ false → (a && (b && (c && d))) ≡ false
third false b c d e = refl
third true false c d e = refl
third true true false d e = refl
third true true true d e = absurd cc

-- they are not all equal
not-equal : (es : List Fe32) → 2 ≤ length es → are_all_equal (bytes_for es) ≡ false
not-equal [] some = absurd (omega (arith, some))
not-equal (e ∷ []) some = absurd (omega (arith, some))
not-equal (e ∷ f ∷ es) some =
    let small : f.value < 32 = f.in_field in
    let apart : (f.value == 32 + e.value) ≡ false = false_from_ne_true (f.value == 32 + e.value) (λ h. let same = eqb-true f.value (32 + e.value) h in absurd (omega (arith, same, small))) in
    third (nat_le 2 (length (bytes_for (e ∷ f ∷ es)))) (32 + e.value == 32 + e.value) (f.value == 32 + e.value) (list_all (λ b. b == 32 + e.value) (values_of es)) apart

-- ---- nothing is wrong

none-first : {E : Type 0} (a b : Option E) → a ≡ None → b ≡ None → first_of a b ≡ None
none-first {E} a b h k = ap (λ (o : Option E). first_of o b) h ∙ k

unrefused : (t : Threshold) (n count : ℕ) (random : List ℕ) (room : ℕ) → CanSplit t n count random room → are_all_equal random ≡ false → split_refusal t n count random room ≡ None
unrefused t n count random room can differ =
    none-first (unshared_split_fault t) _ (cond-false (threshold_number t == 0) (Some refusals.Unshared) None (false_from_ne_true (threshold_number t == 0) (λ h. absurd (can.shared (eqb-true (threshold_number t) 0 h)))))
    (none-first (secret_fault n) _ (cond-true (is_byte_count n || is_long_byte_count n) None (Some refusals.Size) can.counted)
    (none-first (count_fault t count) _ (rw (le-leb (threshold_number t) count can.enough, le-leb count 31 can.few) refl)
    (none-first (random_fault t n random) _ (cond-true (length random == random_size t n) None (Some refusals.Random) (eq-eqb (length random) (random_size t n) can.random_is))
    (none-first (equal_fault random) _ (cond-false (are_all_equal random) (Some refusals.EqualRandom) None differ) (cond-true (nat_le (count * text_size n) room) None (Some refusals.NoRoom) (le-leb (count * text_size n) room can.fits))))))

at_least : (k m : ℕ) → 1 ≤ k → m ≤ k * m
at_least zero m some = absurd (omega (arith, some))
at_least (suc k) m some = omega (arith, suc-mul k m)

-- at least 26 elements are drawn
many : (t : Threshold) (n count : ℕ) (random : List ℕ) (room : ℕ) → CanSplit t n count random room → 2 ≤ random_size t n
many t n count random room can =
    let some : 1 ≤ threshold_number t - 1 =
    elim (cases_lt (threshold_number t) 2) [
      | inl low ↦ absurd (can.shared (alone t.number t.lawful (omega (arith, low))))
      | inr past ↦ omega (arith, past)
    ] in
    let least : 16 ≤ n =
    elim (or_true (is_byte_count n) (is_long_byte_count n) can.counted) [
      | inl e ↦ leb-true 16 n (and_parts (nat_le 16 n) (nat_le n 44) e).0
      | inr e ↦ let far : 63 ≤ n = leb-true 63 n (and_parts (nat_le 63 n) (nat_le n 64) e).0 in omega (arith, far)
    ] in
    let payload : 26 ≤ payload_count n = omega (arith, least) in
    let whole = at_least (threshold_number t - 1) (payload_count n) some in
    omega (arith, payload, whole)

pub accepted-deal : (t : Threshold) (i : Identifier) (secret other random : List ℕ) (count n room : ℕ) (numbers texts : List ℕ) → CanSplit t (length secret) count random room → length other ≡ length secret → HasOneDeal t i other count n numbers texts
    → (again : List ℕ) × (list_all (λ b. nat_lt b 256) again ≡ true) × (split_refusal t (length other) count again room ≡ None) × DealKnown t i other again count n numbers texts
accepted-deal t i secret other random count n room numbers texts can same deal =
    let bytes : List ℕ = bytes_for deal.0 in
    let size : length bytes ≡ random_size t (length other) = length-bytes deal.0 ∙ deal.1 in
    let fine : CanSplit t (length other) count bytes room =
    record {
      shared = can.shared;
      counted = ap (λ (l : ℕ). is_byte_count l || is_long_byte_count l) same ∙ can.counted;
      enough = can.enough;
      few = can.few;
      random_is = size;
      fits = subst (λ (l : ℕ). count * text_size l ≤ room) (sym same) can.fits;
    } in
    let some : 2 ≤ length deal.0 = let e = deal.1 in omega (arith, many t (length other) count bytes room fine, e) in
    (bytes, small-bytes deal.0, unrefused t (length other) count bytes room fine (not-equal deal.0 some), (deal.2 bytes size).0 (drawn-bytes deal.0))
