-- The two ways to write a register: c1 first, or turned round with a one behind it.
use Rattle.std.proofs.Common.{◌≡◌, ℕ, zero, suc, ◌+◌, ◌<◌, ◌≤◌, ◌-◌, List, [], ◌∷◌, ◌++◌, length, reverse, take, sym, ap, subst, ◌∙◌, refl, arith}
use Rattle.std.proofs.lemmas.List.{reverse-append, reverse-reverse, length-reverse, length-append}
use Rattle.bech32_gf.specs.Field.{Ops, IsField}
use Rattle.bech32_poly.specs.Polynomial.{coefficient}
use Rattle.bech32_poly.specs.Window.{act, top_of, Annihilates, IsShortestWindow}
use Rattle.bech32_poly.specs.Register.{back_sum, Generates, IsShortest}
use Rattle.bech32_gf.specs.laws.Ring.{ring, neg_unique}

pub reverse_cons : {F : Type 0} → (c : F) (cs : List F) → reverse (c ∷ cs) ≡ reverse cs ++ (c ∷ [])
reverse_cons c cs = reverse-append (c ∷ []) cs

-- a list that is not empty ends in its last element
pub front_and_last : {F : Type 0} (o : Ops F) (r : List F) (n : ℕ) → length r ≡ suc n → r ≡ take n r ++ (top_of o r ∷ [])
front_and_last o [] n e = absurd (omega arith)
front_and_last o (a ∷ []) n e = let none : n ≡ 0 = omega arith in rw none
front_and_last o (a ∷ b ∷ r) zero e = absurd (omega arith)
front_and_last o (a ∷ b ∷ r) (suc n) e = ap (λ u. a ∷ u) (front_and_last o (b ∷ r) n (omega arith))

module _ {F : Type 0} {o : Ops F} (l : IsField o) where
  last_only : (a x : F) → o.add (o.mul a x) o.zero ≡ o.add o.zero (o.mul a x)
  last_only a x = simp (ring, l)

  last_more : (b u w x : F) → w ≡ o.add u x → o.add b w ≡ o.add (o.add b u) x
  last_more b u w x e = rw e (simp (ring, l))

  act-append_one : (p : List F) (a : F) (s : ℕ → F) (t : ℕ) → act o (p ++ (a ∷ [])) s t ≡ o.add (act o p s t) (o.mul a (s (t + length p)))
  act-append_one [] a s t = let e : t + 0 ≡ t = omega arith in rw e (last_only a (s t))
  act-append_one (b ∷ p) a s t = let e : t + suc (length p) ≡ suc t + length p = omega arith in rw e (last_more _ _ _ _ (act-append_one p a s (suc t)))

  -- the sum over what came before is a window
  pub back_sum-act : (cs : List F) (s : ℕ → F) (t : ℕ) → back_sum o cs s (t + length cs) ≡ act o (reverse cs) s t
  back_sum-act [] s t = refl
  back_sum-act (c ∷ cs) s t =
      let e : t + suc (length cs) - 1 ≡ t + length cs = omega arith in
      let f : t + length (reverse cs) ≡ t + length cs = ap (λ n. t + n) (length-reverse cs) in
      ap (λ n. o.add (o.mul c (s n)) (back_sum o cs s n)) e
      ∙ ap (o.add (o.mul c (s (t + length cs)))) (back_sum-act cs s t)
      ∙ l.add_comm (o.mul c (s (t + length cs))) (act o (reverse cs) s t)
      ∙ ap (λ n. o.add (act o (reverse cs) s t) (o.mul c (s n))) (sym f)
      ∙ sym (act-append_one (reverse cs) c s t)
      ∙ ap (λ p. act o p s t) (sym (reverse_cons c cs))

  window_sum : (cs : List F) (s : ℕ → F) (t : ℕ) → act o (reverse cs ++ (o.one ∷ [])) s t ≡ o.add (back_sum o cs s (t + length cs)) (s (t + length cs))
  window_sum cs s t =
      act-append_one (reverse cs) o.one s t
      ∙ ap (o.add (act o (reverse cs) s t)) (one_times (s (t + length (reverse cs))) ∙ ap (λ n. s (t + n)) (length-reverse cs))
      ∙ ap (λ u. o.add u (s (t + length cs))) (sym (back_sum-act cs s t))
    where
      one_times : (x : F) → o.mul o.one x ≡ x
      one_times x = simp (ring, l)

  top_of-append_one : (p : List F) (a : F) → top_of o (p ++ (a ∷ [])) ≡ a
  top_of-append_one [] a = refl
  top_of-append_one (b ∷ []) a = refl
  top_of-append_one (b ∷ c ∷ p) a = top_of-append_one (c ∷ p) a

  turned_length : (cs : List F) → length (reverse cs ++ (o.one ∷ [])) ≡ suc (length cs)
  turned_length cs = length-append (reverse cs) (o.one ∷ []) ∙ ap (λ n. n + 1) (length-reverse cs) ∙ omega arith

  -- what generates the items takes each window of them to zero
  pub annihilates : (cs items : List F) → Generates o cs items → Annihilates o (coefficient o items) (length items) (length cs) (reverse cs ++ (o.one ∷ []))
  annihilates cs items h = record {
    degree = turned_length cs;
    monic = top_of-append_one (reverse cs) o.one;
    windows = λ t within. window_sum cs (coefficient o items) t ∙ gone _ _ (h.follows (t + length cs) (omega arith) within);
  }
    where
      gone : (u x : F) → x ≡ o.neg u → o.add u x ≡ o.zero
      gone u x e = ap (o.add u) e ∙ l.add_neg u

  -- and the other way round
  pub generates : (cs items : List F) → length cs ≤ length items → Annihilates o (coefficient o items) (length items) (length cs) (reverse cs ++ (o.one ∷ [])) → Generates o cs items
  generates cs items room h = record {
    fits = room;
    follows = λ n far within. neg_unique l _ _ (place n far within);
  }
    where
      place : (n : ℕ) → length cs ≤ n → n < length items → o.add (back_sum o cs (coefficient o items) n) (coefficient o items n) ≡ o.zero
      place n far within =
          let t : ℕ = n - length cs in
          let e : t + length cs ≡ n = omega arith in
          ap (λ k. o.add (back_sum o cs (coefficient o items) k) (coefficient o items k)) (sym e) ∙ sym (window_sum cs (coefficient o items) t) ∙ h.windows t (omega arith)

  -- a shortest window, turned round and without its one, is a shortest register
  pub shortest_register_is : (items r : List F) (n : ℕ) → length r ≡ suc n → IsShortestWindow o items r → IsShortest o (reverse (take n r)) items
  shortest_register_is items r n size h = record {
    generates = generates cs items (omega (arith, same, h.within)) (subst (Annihilates o (coefficient o items) (length items) (length cs)) whole (subst (λ m. Annihilates o (coefficient o items) (length items) m r) (sym same) h.generates));
    least = λ other g. omega (arith, same, h.least (length other) (reverse other ++ (o.one ∷ [])) g.fits (annihilates other items g));
  }
    where
      cs : List F
      cs = reverse (take n r)

      whole : r ≡ reverse cs ++ (o.one ∷ [])
      whole = front_and_last o r n size ∙ ap (λ u. u ++ (top_of o r ∷ [])) (sym (reverse-reverse (take n r))) ∙ ap (λ u. reverse cs ++ (u ∷ [])) h.generates.monic

      same : length cs ≡ h.len
      same = let e : length r ≡ suc (length cs) = ap length whole ∙ turned_length cs in omega (arith, h.generates.degree)
