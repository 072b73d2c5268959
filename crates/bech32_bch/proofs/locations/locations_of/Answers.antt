use Rattle.std.specs.Prelude.{MatchOption}
use Rattle.std.proofs.Common.{◌≡◌, length, inl, inr, Option, Some, None, Result, Ok, Err, IfOk, sym, subst, ap, ◌∙◌, arith}
use Rattle.bech32_poly.specs.Distinct.{IsAmong}
use Rattle.bech32_bch.specs.Search.{ordered}
use Rattle.bech32_bch.proofs.locations.locations_of.Goals as goal

map_ok : {T E : Type 0} (r : Result T E) (P Q : T → Type 0) → ((t : T) → P t → Q t) → IfOk r P → IfOk r Q
map_ok (Ok t) P Q f h = f t h
map_ok (Err e) P Q f h = h

map_both : {A : Type 0} (a : Option A) (N M : Type 0) (P Q : A → Type 0) → (N → M) → ((x : A) → P x → Q x) → MatchOption a N P → MatchOption a M Q
map_both (Some x) N M P Q n f h = f x h
map_both None N M P Q n f h = n h

pub returns-in_default-clause-located : goal.returns-in_default-clause-located
returns-in_default-clause-located g c = λ rising is. inl (rw c.in_default.is at c.in_ok-rising.ensures.roots)

pub returns-clause-located : goal.returns-clause-located
returns-clause-located g c =
    let made = rw c.in-Some.is at c.in_ok-rising.ensures.roots in
    map_ok c.in_order_outside.result _ _ (λ answer h rising is.
    let same : c.as_slice.result.now ≡ rising = c.as_slice.ensures ∙ made.1 ∙ sym is in
    map_both answer _ _ _ _ (λ k. inr (k.0, (subst (IsAmong k.0) same k.1.0, subst (IsAmong k.0) c.as_slice-2.ensures k.1.1)))
    (λ v k. (k.0 ∙ ap ordered same, (ap (λ u. length u) (is ∙ sym made.1) ∙ made.0, λ i m n. k.1 i (subst (IsAmong i) (sym same) m) (subst (IsAmong i) (sym c.as_slice-2.ensures) n)))) h) c.in_order_outside.ensures.ordered

pub returns-clause-in_place : goal.returns-clause-in_place
returns-clause-in_place g c = λ fits few.
    let made = rw c.in-Some.is at c.in_ok-rising.ensures.roots in
    c.in_order_outside.ensures.in_place (omega (arith, few, ap (λ u. length u) c.as_slice.ensures, made.0))
