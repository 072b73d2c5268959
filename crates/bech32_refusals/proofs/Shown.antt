-- Where a row of elements is cut off, with zeros alone behind it.
use Rattle.std.proofs.Common.{◌≡◌, ◌≢◌, ◌<◌, ◌≤◌, ◌+◌, ◌==◌, ◌&&◌, cond, true, false, refl, ℕ, zero, suc, List, [], ◌∷◌, length, get_or, take, sym, ap, ◌∙◌, arith}
use Rattle.std.specs.List.{list_all}
use Rattle.std.proofs.lemmas.Bool.{ne_eqb}
use Rattle.std.proofs.lemmas.List.{get_or_default}
use Rattle.std.proofs.lemmas.List.Folds.{list_all_at}
use Rattle.std.proofs.Math.Decide.{dec_lt}
use Rattle.bech32_gf.specs.Fe32 as fe32
use Rattle.bech32_gf.specs.declared.gf32.Fe32.{Fe32}
use Rattle.bech32_refusals.specs.ResidueText.{shown}

-- of the first i elements those from place n on are zero, and the one before is not, where it is not the first
pub record IsCut (p : List Fe32) (i n : ℕ) : Type 0 where
  pub some : 0 < n
  pub within : n ≤ length p
  pub above : (k : ℕ) → n ≤ k → k < i → (get_or p k fe32.zero).value ≡ 0
  pub leads : (m : ℕ) → n ≡ suc (suc m) → (get_or p (suc m) fe32.zero).value ≢ 0

pub first_cut : (p : List Fe32) → 0 < length p → IsCut p 0 1
first_cut p h = record {
  some = omega arith;
  within = omega arith;
  above = λ k far near. absurd (omega arith);
  leads = λ m e. absurd (omega arith);
}

here : (p : List Fe32) (x : Fe32) (i : ℕ) → i < length p → x ≡ get_or p i x → (get_or p i fe32.zero).value ≡ x.value
here p x i within read = ap (λ (y : Fe32). y.value) (get_or_default p i fe32.zero x within ∙ sym read)

pub zero_cut : (p : List Fe32) (x : Fe32) (i n n' : ℕ) → IsCut p i n → i < length p → x ≡ get_or p i x → x.value ≡ 0 → n' ≡ n → IsCut p (i + 1) n'
zero_cut p x i n n' h within read is same = record {
  some = omega (arith, h.some);
  within = omega (arith, h.within);
  above = λ k far near. elim (dec_lt k i) [
    | yes less ↦ h.above k (omega arith) less
    | no more ↦ let last : k ≡ i = omega arith in ap (λ j. (get_or p j fe32.zero).value) last ∙ (here p x i within read ∙ is)
  ];
  leads = λ m e. h.leads m (sym same ∙ e);
}

pub other_cut : (p : List Fe32) (x : Fe32) (i n' : ℕ) → i < length p → x ≡ get_or p i x → x.value ≢ 0 → n' ≡ i + 1 → IsCut p (i + 1) n'
other_cut p x i n' within read is same = record {
  some = omega arith;
  within = omega arith;
  above = λ k far near. absurd (omega arith);
  leads = λ m e z. let at : i ≡ suc m = omega arith in is (sym (here p x i within read) ∙ (ap (λ j. (get_or p j fe32.zero).value) at ∙ z));
}

all_zero : (p : List Fe32) → ((k : ℕ) → k < length p → (get_or p k fe32.zero).value ≡ 0) → list_all (λ (y : Fe32). y.value == 0) p ≡ true
all_zero [] h = refl
all_zero (x ∷ p) h =
    let first : x.value ≡ 0 = h 0 (omega arith) in
    let rest : list_all (λ (y : Fe32). y.value == 0) p ≡ true = all_zero p (λ k less. h (suc k) (omega arith)) in
    ap (λ n. (n == 0) && list_all (λ (y : Fe32). y.value == 0) p) first ∙ rest

-- what is left is what is shown
pub cut_shown : (p : List Fe32) (n : ℕ) → 0 < n → n ≤ length p
    → ((k : ℕ) → n ≤ k → k < length p → (get_or p k fe32.zero).value ≡ 0)
    → ((m : ℕ) → n ≡ suc (suc m) → (get_or p (suc m) fe32.zero).value ≢ 0)
    → take n p ≡ shown p
cut_shown [] n some within above leads = absurd (omega arith)
cut_shown (x ∷ p) zero some within above leads = absurd (omega arith)
cut_shown (x ∷ p) (suc zero) some within above leads =
    sym (ap (λ b. x ∷ cond b [] (shown p)) (all_zero p (λ k less. above (suc k) (omega arith) (omega arith))))
cut_shown (x ∷ p) (suc (suc m)) some within above leads =
    let other : list_all (λ (y : Fe32). y.value == 0) p ≡ false =
    list_all_at (λ (y : Fe32). y.value == 0) p m fe32.zero (omega arith) (ne_eqb (get_or p m fe32.zero).value 0 (leads m refl)) in
    let rest : take (suc m) p ≡ shown p =
    cut_shown p (suc m) (omega arith) (omega arith) (λ k far near. above (suc k) (omega arith) (omega arith))
    (λ j e. let at : m ≡ suc j = omega arith in λ z. leads m refl (ap (λ k. (get_or p k fe32.zero).value) at ∙ z)) in
    ap (λ u. x ∷ u) rest ∙ sym (ap (λ b. x ∷ cond b [] (shown p)) other)
