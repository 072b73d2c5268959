use Rattle.std.proofs.Common.{refl, ◌≡◌, ◌≢◌, ◌+◌, ◌≤◌, ℕ, zero, suc, length, map, get_or, take, drop, [], ◌∷◌, ◌++◌, arith, subst, sym, ap, ◌∙◌}
use Rattle.std.specs.Prelude.{Option, Some, None, true, false}
use Rattle.std.specs.List.{AllByRecursion}
use Rattle.std.proofs.lemmas.List.{take_all, take_more}
use Rattle.bech32_bch.specs.Pattern.{locations}
use Rattle.bech32_bch.proofs.Places.{mem_at, mem_drop, all_drop_more, locations-append, map_push, length-locations, length_take}
use Rattle.bech32_bch.proofs.values.push_values.Goals.{else-k-given-via-then-k-given+else-is_base_zero, else-k-given-via-else-k-given}
use Rattle.bech32_bch.proofs.values.push_values.Goals as goal

none_some : {A : Type 0} (a : Option A) (x : A) → a ≡ Some x → a ≡ None → ⊥
none_some a x e f = let k : Some x ≡ None = sym e ∙ f in absurd (cc k)

some_same : {A : Type 0} (a : Option A) (x y : A) → a ≡ Some x → a ≡ Some y → y ≡ x
some_same a x y e f = let k : Some y ≡ Some x = sym f ∙ e in cc k

refused : {P : Type 0} → false ≡ true → P
refused h = absurd (cc h)

pub returns-in_default-clause-found : goal.returns-in_default-clause-found
returns-in_default-clause-found g c = λ v explained not_zero.
    let x : ℕ = get_or c.args.wrong.now c.loop-k.k 0 in
    let some : c.in_ok-v.field-0 ≡ Some (v x) = c.in_ok-v.ensures.value (v x) (explained x (mem_at c.args.wrong.now c.loop-k.k 0 (omega arith))) in
    absurd (none_some c.in_ok-v.field-0 (v x) some c.in_default.is)

pub returns-then-is_base_zero-clause-found : goal.returns-then-is_base_zero-clause-found
returns-then-is_base_zero-clause-found g c = λ v explained not_zero.
    let x : ℕ = get_or c.args.wrong.now c.loop-k.k 0 in
    let some : c.in_ok-v.field-0 ≡ Some (v x) = c.in_ok-v.ensures.value (v x) (explained x (mem_at c.args.wrong.now c.loop-k.k 0 (omega arith))) in
    let none : c.in-Some.v ≡ g.E.Extension.base_ops.zero = c.is_base_zero.ensures.0 c.if-is_base_zero.true in
    let same : v x ≡ g.E.Extension.base_ops.zero = sym (some_same c.in_ok-v.field-0 (v x) c.in-Some.v some c.in-Some.is) ∙ none in
    absurd (not_zero x (mem_drop c.args.wrong.now c.args.given c.loop-k.k 0 (omega arith) (omega arith)) same)

pub returns-in_err-push-clause-in_place : goal.returns-in_err-push-clause-in_place
returns-in_err-push-clause-in_place g c = λ fits.
    let size : length c.loop-k.listing ≡ c.loop-k.k = length-locations c.loop-k.listing ∙ ap (λ u. length u) c.loop-k.invariant.placed ∙ length_take c.args.wrong.now c.loop-k.k (omega arith) in
    refused (c.in_err-push.ensures.in_place (omega (arith, size, fits, c.requires.few)))

pub loop-k-preserved : goal.loop-k-preserved
loop-k-preserved g c =
    let k : ℕ = c.loop-k.k in
    let wrong = c.args.wrong.now in
    let x : ℕ = get_or wrong k 0 in
    let w = c.in-Some.v in
    let before = c.loop-k.listing in
    let items : c.push.new.self ≡ before ++ ((x, w) ∷ []) = c.in_ok-push.ensures.ok in
    let more : take (k + 1) wrong ≡ take k wrong ++ (x ∷ []) = take_more wrong k 0 (omega arith) in
    let size : length before ≡ k = length-locations before ∙ ap (λ u. length u) c.loop-k.invariant.placed ∙ length_take wrong k (omega arith) in
    let here : c.args.given ≤ length before → w ≢ g.E.Extension.base_ops.zero = λ le. elim c.else-k-given.branch [
      | else-k-given-via-then-k-given+else-is_base_zero b ↦ (λ z. refused (sym b.if-is_base_zero.false ∙ b.is_base_zero.ensures.1 z))
      | else-k-given-via-else-k-given b ↦ absurd (omega (arith, size, le, b.if-k-given.false))
    ] in
    record {
      placed = ap locations items ∙ locations-append before ((x, w) ∷ []) ∙ ap (λ u. u ++ (x ∷ [])) c.loop-k.invariant.placed ∙ sym more;
      not_zero = subst (λ u. AllByRecursion (λ p. p.1 ≢ g.E.Extension.base_ops.zero) (drop c.args.given u)) (sym items) (all_drop_more (λ p. p.1 ≢ g.E.Extension.base_ops.zero) c.args.given before (x, w) c.loop-k.invariant.not_zero here);
      explained = λ v explained not_zero.
          let some : c.in_ok-v.field-0 ≡ Some (v x) = c.in_ok-v.ensures.value (v x) (explained x (mem_at wrong k 0 (omega arith))) in
          let same : w ≡ v x = some_same c.in_ok-v.field-0 (v x) w some c.in-Some.is in
          items ∙ ap (λ u. u ++ ((x, w) ∷ [])) (c.loop-k.invariant.explained v explained not_zero) ∙ ap (λ u. map (λ i. (i, v i)) (take k wrong) ++ ((x, u) ∷ [])) same ∙ sym (map_push (λ i. (i, v i)) (take k wrong) x) ∙ ap (map (λ i. (i, v i))) (sym more);
    }

pub returns-clause-found : goal.returns-clause-found
returns-clause-found g c = λ v explained not_zero.
    (refl, c.loop-k.invariant.explained v explained not_zero ∙ ap (map (λ i. (i, v i))) (take_all c.loop-k.k c.args.wrong.now (omega arith)))

none_left : {A : Type 0} (P : A → Type 0) (n : ℕ) → AllByRecursion P (drop n [])
none_left P zero = tt
none_left P (suc n) = tt

pub loop-k-init : goal.loop-k-init
loop-k-init g c = record {
  placed = ap locations c.requires.empty;
  not_zero = subst (λ u. AllByRecursion (λ p. p.1 ≢ g.E.Extension.base_ops.zero) (drop c.args.given u)) (sym c.requires.empty) (none_left (λ p. p.1 ≢ g.E.Extension.base_ops.zero) c.args.given);
  explained = λ v explained not_zero. c.requires.empty;
}

pub returns-in_err-v-clause-in_place : goal.returns-in_err-v-clause-in_place
returns-in_err-v-clause-in_place g c = λ fits. refused (c.in_err-v.ensures.in_place (omega (arith, fits, c.requires.few)) fits)

pub returns-in_default-clause-placed : goal.returns-in_default-clause-placed
returns-in_default-clause-placed g c = λ h. refused h

pub returns-in_default-clause-not_zero : goal.returns-in_default-clause-not_zero
returns-in_default-clause-not_zero g c = λ h. refused h

pub returns-then-is_base_zero-clause-placed : goal.returns-then-is_base_zero-clause-placed
returns-then-is_base_zero-clause-placed g c = λ h. refused h

pub returns-then-is_base_zero-clause-not_zero : goal.returns-then-is_base_zero-clause-not_zero
returns-then-is_base_zero-clause-not_zero g c = λ h. refused h

pub returns-clause-placed : goal.returns-clause-placed
returns-clause-placed g c = λ h. c.loop-k.invariant.placed ∙ take_all c.loop-k.k c.args.wrong.now (omega arith)

pub returns-clause-not_zero : goal.returns-clause-not_zero
returns-clause-not_zero g c = λ h. c.loop-k.invariant.not_zero
