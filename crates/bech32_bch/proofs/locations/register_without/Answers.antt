use Rattle.std.specs.Prelude.{true, false}
use Rattle.std.proofs.Common.{◌≡◌, length, take, Result, Ok, Err, IfOk, subst, ap, ◌∙◌, arith}
use Rattle.std.proofs.lemmas.List.{length-take-le}
use Rattle.bech32_poly.specs.Window.{IsShortestWindow}
use Rattle.bech32_bch.proofs.locations.register_without.Goals as goal

refused : {P : Type 0} → false ≡ true → P
refused h = absurd (cc h)

map_ok : {T E : Type 0} (r : Result T E) (P Q : T → Type 0) → ((t : T) → P t → Q t) → IfOk r P → IfOk r Q
map_ok (Ok t) P Q f h = f t h
map_ok (Err e) P Q f h = h

pub returns-in_err-left-clause-in_place : goal.returns-in_err-left-clause-in_place
returns-in_err-left-clause-in_place g c = λ few. refused (c.in_err-left.ensures.in_place (omega (arith, few)))

pub returns-clause-register : goal.returns-clause-register
returns-clause-register g c =
    map_ok c.shortest_register.result _ _ (λ r h. (c.in_ok-left.left, (c.in_ok-left.ensures.knocked, subst (λ u. IsShortestWindow g.K.Arithmetic.ops (take c.args.room u) r) c.as_slice.ensures h))) c.shortest_register.ensures.shortest

pub returns-clause-in_place : goal.returns-clause-in_place
returns-clause-in_place g c = λ few.
    let size : length c.as_slice.result.now ≡ length c.args.syndromes.now = ap (λ u. length u) c.as_slice.ensures ∙ c.in_ok-left.ensures.knocked.size in
    c.shortest_register.ensures.in_place (omega (arith, few, length-take-le c.args.room c.as_slice.result.now (omega (arith, size, c.requires)), c.requires))
