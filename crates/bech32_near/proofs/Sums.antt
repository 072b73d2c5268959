-- Sums of polynomials that differ in a few coefficients alone.
use Rattle.std.specs.Prelude.{◌==◌, ◌%◌, ◌/◌, Bool, cond}
use Rattle.std.proofs.Common.{◌≡◌, ℕ, zero, suc, ◌+◌, add-one, List, [], ◌∷◌, ◌++◌, length, append_assoc, replicate, sym, ap, ◌∙◌, refl}
use Rattle.std.proofs.lemmas.Bool.{eqb-true}
use Rattle.bech32_gf.specs.laws.Below.{each_below-at}
use Rattle.bech32_gf.specs.Fe32 as fe32
use Rattle.bech32_gf.specs.Fe32.{ops}
use Rattle.bech32_gf.specs.declared.gf32.Fe32.{Fe32}
use Rattle.bech32_gf.specs.laws.Fe32Laws.{is_field}
use Rattle.bech32_poly.proofs.Lists.{same_cons}
use Rattle.bech32_poly.proofs.Appended.{appended-append}
use Rattle.bech32_poly.specs.Polynomial.{add, appended}
use Rattle.bech32_checksum.specs.TextPolynomial.{hrp_elements, text_polynomial}
use Rattle.bech32_near.specs.edits.Walks.{times_power}

pub raised-zero : (n : ℕ) (p : List Fe32) → fe32.zero ∷ times_power n p ≡ times_power n (fe32.zero ∷ p)
raised-zero zero p = refl
raised-zero (suc n) p = ap (λ (u : List Fe32). fe32.zero ∷ u) (raised-zero n p)

-- what stands above is added
pub added_above : (behind p q : List Fe32) → add ops (appended p behind) (times_power (length behind) q) ≡ appended (add ops p q) behind
added_above [] p q = refl
added_above (b ∷ behind) p q =
    ap (add ops (appended (b ∷ p) behind)) (raised-zero (length behind) q)
    ∙ added_above behind (b ∷ p) (fe32.zero ∷ q)
    ∙ ap (λ (x : Fe32). appended (x ∷ add ops p q) behind) (is_field.add_zero b)

pub add-raised : (n : ℕ) (p q : List Fe32) → add ops (times_power n p) (times_power n q) ≡ times_power n (add ops p q)
add-raised zero p q = refl
add-raised (suc n) p q = same_cons _ _ _ _ (is_field.add_zero fe32.zero) (add-raised n p q)

pub add-replicate : (n : ℕ) (x y : Fe32) → add ops (replicate n x) (replicate n y) ≡ replicate n (fe32.add x y)
add-replicate zero x y = refl
add-replicate (suc n) x y = ap (λ (u : List Fe32). fe32.add x y ∷ u) (add-replicate n x y)

pub add-nothing : (p : List Fe32) → add ops p [] ≡ p
add-nothing [] = refl
add-nothing (x ∷ p) = refl

-- the sum of an element and a sum with it is the other
pub twice : (x y : Fe32) → fe32.add x (fe32.add y x) ≡ y
twice x y =
    ap (fe32.add x) (is_field.add_comm y x) ∙ sym (is_field.add_assoc x x y)
    ∙ ap (λ (z : Fe32). fe32.add z y) (is_field.add_neg x)
    ∙ is_field.add_comm fe32.zero y ∙ is_field.add_zero y

pub itself : (x : Fe32) → fe32.add x x ≡ fe32.zero
itself x = is_field.add_neg x

-- the coefficient of one element is that of another
pub changed_one : (p behind : List Fe32) (x y : Fe32)
    → add ops (appended (x ∷ p) behind) (times_power (length behind) (replicate 1 (fe32.add y x))) ≡ appended (y ∷ p) behind
changed_one p behind x y =
    added_above behind (x ∷ p) (fe32.add y x ∷ [])
    ∙ (λ i. appended (twice x y i ∷ add-nothing p i) behind)

-- two neighbours are swapped
pub changed_two : (p behind : List Fe32) (x y : Fe32)
    → add ops (appended (x ∷ y ∷ p) behind) (times_power (length behind) (replicate 2 (fe32.add y x))) ≡ appended (y ∷ x ∷ p) behind
changed_two p behind x y =
    added_above behind (x ∷ y ∷ p) (fe32.add y x ∷ fe32.add y x ∷ [])
    ∙ (λ i. appended (twice x y i ∷ (ap (fe32.add y) (is_field.add_comm y x) ∙ twice y x) i ∷ add-nothing p i) behind)

-- a zero below an element comes above it
pub zero_above : (p behind : List Fe32) (x : Fe32)
    → add ops (appended (fe32.zero ∷ x ∷ p) behind) (times_power (length behind) (replicate 2 x)) ≡ appended (x ∷ fe32.zero ∷ p) behind
zero_above p behind x =
    added_above behind (fe32.zero ∷ x ∷ p) (x ∷ x ∷ [])
    ∙ (λ i. appended ((is_field.add_comm fe32.zero x ∙ is_field.add_zero x) i ∷ itself x i ∷ add-nothing p i) behind)

-- an element is put in where a zero stands
pub in_place_of_zero : (p behind : List Fe32) (x : Fe32)
    → add ops (appended (fe32.zero ∷ p) behind) (times_power (length behind) (replicate 1 x)) ≡ appended (x ∷ p) behind
in_place_of_zero p behind x =
    added_above behind (fe32.zero ∷ p) (x ∷ [])
    ∙ (λ i. appended ((is_field.add_comm fe32.zero x ∙ is_field.add_zero x) i ∷ add-nothing p i) behind)

-- the polynomial of a human-readable part and elements in two parts
pub polynomial-parts : (hrp : List ℕ) (front behind : List Fe32) → text_polynomial hrp (front ++ behind) ≡ appended (text_polynomial hrp front) behind
polynomial-parts hrp front behind =
    ap (appended (fe32.one ∷ [])) (sym (append_assoc (hrp_elements hrp) front behind))
    ∙ appended-append (fe32.one ∷ []) (hrp_elements hrp ++ front) behind

pub raised-next : (n : ℕ) (x : Fe32) (p : List Fe32) → x ≡ fe32.zero → x ∷ times_power n p ≡ times_power (n + 1) p
raised-next n x p e = ap (λ (y : Fe32). y ∷ times_power n p) e ∙ ap (λ m. times_power m p) (sym (add-one n))

-- ---- an element as the sum of those of its bits

abbrev pick : Bool → ℕ → Fe32 → Fe32
pick bit word x = cond bit (fe32.add x (fe32.element word)) x

abbrev pub of_bits : ℕ → Fe32
of_bits v =
    pick (v / 16 % 2 == 1) 16 (pick (v / 8 % 2 == 1) 8 (pick (v / 4 % 2 == 1) 4 (pick (v / 2 % 2 == 1) 2 (pick (v % 2 == 1) 1 fe32.zero))))

pub all_bits : (x : Fe32) → of_bits x.value ≡ x
all_bits x = fe32.path (of_bits x.value) x (eqb-true _ _ (each_below-at 32 (λ v. (of_bits v).value == v) refl x.value x.in_field))
