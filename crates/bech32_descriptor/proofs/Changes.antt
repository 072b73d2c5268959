-- The symbols of characters of which one is changed.
use Rattle.std.specs.Prelude.{◌/◌, ◌==◌, cond, min, set}
use Rattle.std.proofs.Common.{◌≡◌, ◌<◌, ◌≤◌, ◌+◌, ◌-◌, ◌*◌, ℕ, zero, suc, List, [], ◌∷◌, ◌++◌, length, get_or, sym, ap, ◌∙◌, refl, arith}
use Rattle.std.proofs.lemmas.Bool.{cond-false, ne_eqb}
use Rattle.bech32_gf.specs.Fe32.{element}
use Rattle.bech32_gf.specs.declared.gf32.Fe32.{Fe32}
use Rattle.bech32_descriptor.specs.Descriptor.{group, symbol, symbols}
use Rattle.bech32_descriptor.specs.Walks.{behind_group, behind_symbol, count, first_at, group_from, group_number}

-- one list is the other with two symbols changed, behind which so many stand
pub record IsChange (old new : List Fe32) (behind_groups behind_symbols : ℕ) (x y g h : Fe32) : Type 0 where
  pub front : List Fe32
  pub mid : List Fe32
  pub behind : List Fe32
  pub old_is : old ≡ front ++ (x ∷ (mid ++ (g ∷ behind)))
  pub new_is : new ≡ front ++ (y ∷ (mid ++ (h ∷ behind)))
  pub symbol_is : length (mid ++ (g ∷ behind)) ≡ behind_symbols
  pub group_is : length behind ≡ behind_groups

pub symbols-length : (t : List ℕ) → length (symbols t) ≡ count (length t)
symbols-length [] = refl
symbols-length (a ∷ []) = refl
symbols-length (a ∷ b ∷ []) = refl
symbols-length (a ∷ b ∷ c ∷ more) = omega (arith, symbols-length more)

full : (left a b c : ℕ) → 3 ≤ left → group_number left a b c ≡ 9 * a + 3 * b + c
full left a b c h =
    cond-false (left == 1) a (cond (left == 2) (3 * a + b) (9 * a + 3 * b + c)) (ne_eqb left 1 (λ e. omega arith))
    ∙ cond-false (left == 2) (3 * a + b) (9 * a + 3 * b + c) (ne_eqb left 2 (λ e. omega arith))

-- the groups of the first three
first-group : (a b c : ℕ) (more : List ℕ) → group_from (a ∷ b ∷ c ∷ more) 0 ≡ 9 * group a + 3 * group b + group c
first-group a b c more = full (length (a ∷ b ∷ c ∷ more) - 0) (group a) (group b) (group c) (omega arith)

first-behind : (m i : ℕ) → i < 3 → behind_group (suc (suc (suc m))) i ≡ count m
first-behind m i h =
    let left : suc (suc (suc m)) - min (3 * (i / 3) + 3) (suc (suc (suc m))) ≡ m = omega arith in
    ap count left

first-symbol : (m i : ℕ) → i < 3 → behind_symbol (suc (suc (suc m))) i ≡ count m + (3 - i)
first-symbol m i h =
    let end : min (3 * (i / 3) + 3) (suc (suc (suc m))) - i ≡ 3 - i = omega arith in
    (λ j. first-behind m i h j + end j)

-- those further behind are at the same places of what is left
next-behind : (m i : ℕ) → behind_group (suc (suc (suc m))) (suc (suc (suc i))) ≡ behind_group m i
next-behind m i =
    let left : suc (suc (suc m)) - min (3 * (suc (suc (suc i)) / 3) + 3) (suc (suc (suc m))) ≡ m - min (3 * (i / 3) + 3) m = omega arith in
    ap count left

next-symbol : (m i : ℕ) → behind_symbol (suc (suc (suc m))) (suc (suc (suc i))) ≡ behind_symbol m i
next-symbol m i =
    let end : min (3 * (suc (suc (suc i)) / 3) + 3) (suc (suc (suc m))) - suc (suc (suc i)) ≡ min (3 * (i / 3) + 3) m - i = omega arith in
    (λ j. next-behind m i j + end j)

next-group : (a b c i : ℕ) (more : List ℕ) → group_from (a ∷ b ∷ c ∷ more) (first_at (suc (suc (suc i)))) ≡ group_from more (first_at i)
next-group a b c i more =
    let k = first_at i in
    let at : first_at (suc (suc (suc i))) ≡ suc (suc (suc k)) = omega arith in
    let left : length (a ∷ b ∷ c ∷ more) - suc (suc (suc k)) ≡ length more - k = omega arith in
    let one : suc (suc (suc k)) + 1 ≡ suc (suc (suc (k + 1))) = omega arith in
    let two : suc (suc (suc k)) + 2 ≡ suc (suc (suc (k + 2))) = omega arith in
    ap (group_from (a ∷ b ∷ c ∷ more)) at
    ∙ (λ j. group_number (left j) (group (get_or more k 0)) (group (get_or (a ∷ b ∷ c ∷ more) (one j) 0)) (group (get_or (a ∷ b ∷ c ∷ more) (two j) 0)))

abbrev four : ℕ → ℕ → ℕ → List Fe32 → List Fe32
four a b c u = symbol a ∷ symbol b ∷ symbol c ∷ element (9 * group a + 3 * group b + group c) ∷ u

length-same : (mid behind : List Fe32) (g h : Fe32) → length (mid ++ (g ∷ behind)) ≡ length (mid ++ (h ∷ behind))
length-same [] behind g h = refl
length-same (x ∷ mid) behind g h = ap (λ (n : ℕ). suc n) (length-same mid behind g h)

pub changes : (t : List ℕ) (i b : ℕ) → i < length t
    → IsChange (symbols t) (symbols (set t i b)) (behind_group (length t) i) (behind_symbol (length t) i)
    (symbol (get_or t i 0)) (symbol b) (element (group_from t (first_at i))) (element (group_from (set t i b) (first_at i)))
changes [] i b h = absurd (omega arith)
changes (p ∷ []) zero b h = record { front = []; mid = []; behind = []; old_is = refl; new_is = refl; symbol_is = refl; group_is = refl }
changes (p ∷ []) (suc i) b h = absurd (omega arith)
changes (p ∷ q ∷ []) zero b h = record { front = []; mid = symbol q ∷ []; behind = []; old_is = refl; new_is = refl; symbol_is = refl; group_is = refl }
changes (p ∷ q ∷ []) (suc zero) b h = record { front = symbol p ∷ []; mid = []; behind = []; old_is = refl; new_is = refl; symbol_is = refl; group_is = refl }
changes (p ∷ q ∷ []) (suc (suc i)) b h = absurd (omega arith)
changes (p ∷ q ∷ r ∷ more) zero b h = record {
  front = [];
  mid = symbol q ∷ symbol r ∷ [];
  behind = symbols more;
  old_is = λ j. symbol p ∷ symbol q ∷ symbol r ∷ element (sym (first-group p q r more) j) ∷ symbols more;
  new_is = λ j. symbol b ∷ symbol q ∷ symbol r ∷ element (sym (first-group b q r more) j) ∷ symbols more;
  symbol_is = omega (arith, symbols-length more, first-symbol (length more) 0 (omega arith));
  group_is = symbols-length more ∙ sym (first-behind (length more) 0 (omega arith));
}
changes (p ∷ q ∷ r ∷ more) (suc zero) b h = record {
  front = symbol p ∷ [];
  mid = symbol r ∷ [];
  behind = symbols more;
  old_is = λ j. symbol p ∷ symbol q ∷ symbol r ∷ element (sym (first-group p q r more) j) ∷ symbols more;
  new_is = λ j. symbol p ∷ symbol b ∷ symbol r ∷ element (sym (first-group p b r more) j) ∷ symbols more;
  symbol_is = omega (arith, symbols-length more, first-symbol (length more) 1 (omega arith));
  group_is = symbols-length more ∙ sym (first-behind (length more) 1 (omega arith));
}
changes (p ∷ q ∷ r ∷ more) (suc (suc zero)) b h = record {
  front = symbol p ∷ symbol q ∷ [];
  mid = [];
  behind = symbols more;
  old_is = λ j. symbol p ∷ symbol q ∷ symbol r ∷ element (sym (first-group p q r more) j) ∷ symbols more;
  new_is = λ j. symbol p ∷ symbol q ∷ symbol b ∷ element (sym (first-group p q b more) j) ∷ symbols more;
  symbol_is = omega (arith, symbols-length more, first-symbol (length more) 2 (omega arith));
  group_is = symbols-length more ∙ sym (first-behind (length more) 2 (omega arith));
}
changes (p ∷ q ∷ r ∷ more) (suc (suc (suc i))) b h =
    let rest = changes more i b (omega arith) in
    record {
      front = four p q r rest.front;
      mid = rest.mid;
      behind = rest.behind;
      old_is = ap (four p q r) (rest.old_is ∙ (λ j. rest.front ++ (symbol (get_or more i 0) ∷ (rest.mid ++ (element (sym (next-group p q r i more) j) ∷ rest.behind)))));
      new_is = ap (four p q r) (rest.new_is ∙ (λ j. rest.front ++ (symbol b ∷ (rest.mid ++ (element (sym (next-group p q r i (set more i b)) j) ∷ rest.behind)))));
      symbol_is = length-same rest.mid rest.behind _ _ ∙ rest.symbol_is ∙ sym (next-symbol (length more) i);
      group_is = rest.group_is ∙ sym (next-behind (length more) i);
    }
