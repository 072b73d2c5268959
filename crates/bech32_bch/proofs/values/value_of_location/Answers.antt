use Rattle.std.specs.Prelude.{true, false}
use Rattle.std.proofs.Common.{◌≡◌, ◌<◌, ℕ, length, get_or, Result, Ok, Err, IfOk, subst, sym, ap, ◌∙◌, arith}
use Rattle.bech32_gf.specs.Field.{power}
use Rattle.bech32_poly.specs.Polynomial.{coefficient}
use Rattle.bech32_bch.specs.Knock.{gap, knocks, without}
use Rattle.bech32_bch.specs.Search.{IsExplained, known_at, left_at, locators}
use Rattle.bech32_bch.proofs.Alone.{length-without_mem}
use Rattle.bech32_bch.proofs.Located.{length-locators}
use Rattle.bech32_bch.proofs.Places.{mem_at}
use Rattle.bech32_bch.proofs.values.value_of_location.Goals as goal

map_ok : {T E : Type 0} (r : Result T E) (P Q : T → Type 0) → ((t : T) → P t → Q t) → IfOk r P → IfOk r Q
map_ok (Ok t) P Q f h = f t h
map_ok (Err e) P Q f h = h

pub returns-clause-value : goal.returns-clause-value
returns-clause-value g c =
    let o = g.E.Arithmetic.ops in
    let b = c.args.roots.base in
    let start = c.args.roots.start in
    let wrong = c.args.wrong.now in
    let location : ℕ = get_or wrong c.args.k 0 in
    let ms = without location wrong in
    let s = coefficient o c.args.syndromes.now in
    let here = c.power.result in
    let first = c.as_slice-2.result.now in
    let others : first ≡ locators o b ms = c.as_slice-2.ensures ∙ c.in_ok-others.ensures.locators in
    let few : length first < length c.args.syndromes.now = omega (arith, ap (λ u. length u) others, length-locators o b ms, length-without_mem location wrong (mem_at wrong c.args.k 0 c.requires.at), c.requires.few) in
    let left : knocks o first s 0 ≡ left_at o b s wrong location = ap (λ u. knocks o u s 0) others in
    let known : o.mul (power o here start) (gap o here first) ≡ known_at o b start wrong location =
    ap (λ x. o.mul (power o x start) (gap o x first)) c.power.ensures ∙ ap (λ u. o.mul (power o (power o b location) start) (gap o (power o b location) u)) others in
    map_ok c.value_beside.result _ _ (λ answer value v h. value v few
    (subst (λ u. IsExplained o u (o.mul (power o here start) (gap o here first)) (g.E.Extension.embed v)) (sym left)
    (subst (λ u. IsExplained o (left_at o b s wrong location) u (g.E.Extension.embed v)) (sym known) h))) c.value_beside.ensures.value

refused : {P : Type 0} → false ≡ true → P
refused h = absurd (cc h)

pub returns-in_err-others-clause-in_place : goal.returns-in_err-others-clause-in_place
returns-in_err-others-clause-in_place g c = λ fits more. refused (c.in_err-others.ensures.in_place fits)

pub returns-clause-in_place : goal.returns-clause-in_place
returns-clause-in_place g c = λ fits more. c.value_beside.ensures.in_place more
