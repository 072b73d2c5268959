-- Shares of which the first ones give the others.
use Rattle.std.proofs.Common.{◌≡◌, ◌≢◌, ℕ, zero, suc, ◌+◌, ◌-◌, ◌<◌, ◌≤◌, List, [], ◌∷◌, ◌++◌, length, map, take, drop, get_or, sym, ap, subst, ◌∙◌, refl, arith}
use Rattle.std.proofs.Math.Decide.{dec_lt}
use Rattle.std.proofs.lemmas.List.{map-append, take-append-drop, length-take-le, length-drop}
use Rattle.std.specs.List.{AllByRecursion}
use Rattle.bech32_gf.specs.Field.{Ops, IsField}
use Rattle.bech32_poly.specs.Distinct.{IsOnce}
use Rattle.bech32_poly.specs.Polynomial.{coefficient}
use Rattle.codex32_steady.specs.shares.Points.{IsValueThrough, values_at}
use Rattle.codex32_steady.specs.shares.Shares.{column, AreShares, AreDerived, DoAgree, IsDerived, IsGiven}
use Rattle.codex32_steady.proofs.Agreed.{agree_from_derived, derived_from_agree, parted}
use Rattle.codex32_steady.proofs.Through.{through_unique}
use Rattle.codex32_steady.proofs.Written.{length-mapped}

all_front : {A B : Type 0} (P : B → Type 0) (g : A → B) (xs : List A) (k : ℕ) → AllByRecursion P (map g xs) → AllByRecursion P (map g (take k xs))
all_front P g [] zero h = tt
all_front P g [] (suc k) h = tt
all_front P g (x ∷ xs) zero h = tt
all_front P g (x ∷ xs) (suc k) h = (h.0, all_front P g xs k h.1)

all_back : {A B : Type 0} (P : B → Type 0) (g : A → B) (xs : List A) (k : ℕ) → AllByRecursion P (map g xs) → AllByRecursion P (map g (drop k xs))
all_back P g [] zero h = tt
all_back P g [] (suc k) h = tt
all_back P g (x ∷ xs) zero h = h
all_back P g (x ∷ xs) (suc k) h = all_back P g xs k h.1

once_front : {A B : Type 0} (g : A → B) (xs : List A) (k : ℕ) → IsOnce (map g xs) → IsOnce (map g (take k xs))
once_front g [] zero h = tt
once_front g [] (suc k) h = tt
once_front g (x ∷ xs) zero h = tt
once_front g (x ∷ xs) (suc k) h = (all_front (λ y. g x ≢ y) g xs k h.0, once_front g xs k h.1)

get_dropped : {A : Type 0} (xs : List A) (k m : ℕ) (t : A) → get_or (drop k xs) m t ≡ get_or xs (k + m) t
get_dropped xs zero m t = let e : m ≡ 0 + m = omega arith in ap (λ n. get_or xs n t) e
get_dropped [] (suc k) m t = refl
get_dropped (x ∷ xs) (suc k) m t =
    let e : suc k + m ≡ suc (k + m) = omega arith in
    get_dropped xs k m t ∙ ap (λ n. get_or (x ∷ xs) n t) (sym e)

same_item : {A : Type 0} (xs : List A) (i : ℕ) (t u : A) → i < length xs → t ≡ get_or xs i t → u ≡ get_or xs i u → t ≡ u
same_item [] i t u within e h = absurd (omega arith)
same_item (x ∷ xs) zero t u within e h = e ∙ sym h
same_item (x ∷ xs) (suc i) t u within e h = same_item xs i t u (omega arith) e h

-- what is so of the items that were passed, with one more
pub passed_more : {A : Type 0} (P : A → Type 0) (xs : List A) (k i : ℕ) (u : A) → i < length xs → u ≡ get_or xs i u → P u
    → ((m : ℕ) (t : A) → k ≤ m → m < i → t ≡ get_or xs m t → P t) → (m : ℕ) (t : A) → k ≤ m → m < i + 1 → t ≡ get_or xs m t → P t
passed_more P xs k i u within item h before m t past below read =
    elim (dec_lt m i) [
      | yes less ↦ before m t past less read
      | no more ↦
          let at : m ≡ i = omega (arith, below, more) in
          subst P (same_item xs i u t within item (read ∙ ap (λ n. get_or xs n t) at)) h
    ]

module _ {F B : Type 0} {o : Ops F} (l : IsField o) (f : B → F) (e : B → List F) where
  pub front_shares : (shares : List B) (k n : ℕ) → AreShares (map f shares) (map e shares) n → AreShares (map f (take k shares)) (map e (take k shares)) n
  front_shares shares k n are = record {
    once = once_front f shares k are.once;
    one_each = length-mapped e (take k shares) ∙ sym (length-mapped f (take k shares));
    alike = all_front (λ t. length t ≡ n) e shares k are.alike;
  }

  each_derived : (xs : List F) (ts : List (List F)) (n : ℕ) (us : List B) → ((m : ℕ) (t : B) → m < length us → t ≡ get_or us m t → IsDerived o xs ts n (f t) (e t)) → AreDerived o xs ts n (map f us) (map e us)
  each_derived xs ts n [] h = tt
  each_derived xs ts n (u ∷ us) h = (h 0 u (omega arith) refl, each_derived xs ts n us (λ m t within read. h (suc m) t (omega (arith, within)) read))

  one_derived : (xs : List F) (ts : List (List F)) (n : ℕ) (us : List B) → AreDerived o xs ts n (map f us) (map e us) → (m : ℕ) (t : B) → m < length us → t ≡ get_or us m t → IsDerived o xs ts n (f t) (e t)
  one_derived xs ts n [] h m t within read = absurd (omega arith)
  one_derived xs ts n (u ∷ us) h zero t within read = subst (λ v. IsDerived o xs ts n (f v) (e v)) (sym read) h.0
  one_derived xs ts n (u ∷ us) h (suc m) t within read = one_derived xs ts n us h.1 m t (omega arith) read

  module _ (shares : List B) (k n : ℕ) (fits : k ≤ length shares) (are : AreShares (map f shares) (map e shares) n) where
    count : length (map f (take k shares)) ≡ k
    count = length-mapped f (take k shares) ∙ length-take-le k shares fits

    whole : {C : Type 0} (g : B → C) → map g (take k shares) ++ map g (drop k shares) ≡ map g shares
    whole g = sym (map-append g (take k shares) (drop k shares)) ∙ ap (map g) (take-append-drop k shares)

    sized : length (map e (drop k shares)) ≡ length (map f (drop k shares))
    sized = length-mapped e (drop k shares) ∙ sym (length-mapped f (drop k shares))

    -- where the first ones give each of the others, all agree
    pub agreeing : ((m : ℕ) (t : B) → k ≤ m → m < length shares → t ≡ get_or shares m t → IsDerived o (map f (take k shares)) (map e (take k shares)) n (f t) (e t)) → DoAgree o k (map f shares) (map e shares) n
    agreeing h =
        subst (λ c. DoAgree o c (map f shares) (map e shares) n) count
        (subst (λ ys. DoAgree o (length (map f (take k shares))) ys (map e shares) n) (whole f)
        (subst (λ ts. DoAgree o (length (map f (take k shares))) (map f (take k shares) ++ map f (drop k shares)) ts n) (whole e)
        (agree_from_derived l (map f (take k shares)) (map f (drop k shares)) (map e (take k shares)) (map e (drop k shares)) n (front_shares shares k n are)
        (each_derived (map f (take k shares)) (map e (take k shares)) n (drop k shares)
        (λ m t within read. h (k + m) t (omega arith) (omega (arith, within, length-drop k shares, fits)) (read ∙ get_dropped shares k m t))))))

    parts : DoAgree o k (map f shares) (map e shares) n → DoAgree o (length (map f (take k shares))) (map f (take k shares) ++ map f (drop k shares)) (map e (take k shares) ++ map e (drop k shares)) n
    parts agree =
        subst (λ c. DoAgree o c (map f (take k shares) ++ map f (drop k shares)) (map e (take k shares) ++ map e (drop k shares)) n) (sym count)
        (subst (λ ys. DoAgree o k ys (map e (take k shares) ++ map e (drop k shares)) n) (sym (whole f))
        (subst (λ ts. DoAgree o k (map f shares) ts n) (sym (whole e)) agree))

    -- and where all agree, the first ones give each of the others
    pub giving : DoAgree o k (map f shares) (map e shares) n → (m : ℕ) (t : B) → k ≤ m → m < length shares → t ≡ get_or shares m t → IsDerived o (map f (take k shares)) (map e (take k shares)) n (f t) (e t)
    giving agree m t past within read =
        let at : k + (m - k) ≡ m = omega (arith, past) in
        one_derived (map f (take k shares)) (map e (take k shares)) n (drop k shares)
        (derived_from_agree l (map f (take k shares)) (map f (drop k shares)) (map e (take k shares)) (map e (drop k shares)) n (front_shares shares k n are) sized
        (all_back (λ t. length t ≡ n) e shares k are.alike) (parts agree))
        (m - k) t (omega (arith, within, past, length-drop k shares)) (read ∙ ap (λ j. get_or shares j t) (sym at) ∙ sym (get_dropped shares k (m - k) t))

    -- what the first ones give at x, all give
    pub given : (x : F) (text : List F) → DoAgree o k (map f shares) (map e shares) n → IsDerived o (map f (take k shares)) (map e (take k shares)) n x text → IsGiven o k (map f shares) (map e shares) n x text
    given x text agree derived = record {
      size = derived.size;
      elements = λ i within.
          let h = parts agree i within in
          let q : IsValueThrough o (map f (take k shares)) (column o (map e (take k shares)) i) x (coefficient o text i) = derived.elements i within in
          let front = front_shares shares k n are in
          let split = parted l h.0 (map f (take k shares)) (map f (drop k shares)) (map e (take k shares)) (map e (drop k shares)) i front.one_each h.2 in (
            h.0,
            subst (λ c. length h.0 ≤ c) count h.1,
            values_whole h.0 i h.2,
            q.value ∙ through_unique l (map f (take k shares)) (column o (map e (take k shares)) i) q.polynomial h.0 front.once q.through (record { short = h.1; values = split.0 }) x,
          );
    }
      where
        values_whole : (p : List F) (i : ℕ) → values_at o p (map f (take k shares) ++ map f (drop k shares)) ≡ column o (map e (take k shares) ++ map e (drop k shares)) i → values_at o p (map f shares) ≡ column o (map e shares) i
        values_whole p i v =
            ap (values_at o p) (sym (whole f)) ∙ v ∙ ap (λ ts. column o ts i) (whole e)
