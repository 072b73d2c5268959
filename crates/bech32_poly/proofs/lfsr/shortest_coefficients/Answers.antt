use Rattle.std.proofs.Common.{◌≡◌, ◌-◌, ◌≤◌, ℕ, List, length, reverse, take, sym, ap, subst, ◌∙◌, arith}
use Rattle.std.proofs.lemmas.List.{length-take-le}
use Rattle.std.proofs.lemmas.Result.{IfOk-weaker}
use Rattle.bech32_gf.specs.Field.{Ops, IsField}
use Rattle.bech32_poly.specs.Window.{IsShortestWindow}
use Rattle.bech32_poly.specs.Register.{IsShortest}
use Rattle.bech32_poly.proofs.Registers.{shortest_register_is}
use Rattle.bech32_poly.proofs.lfsr.shortest_coefficients.Goals as goal

-- the register, turned round by the code
turned : {F : Type 0} {o : Ops F} (l : IsField o) (items r r' cs : List F) (n : ℕ) → n ≡ length r → r' ≡ r → IsShortestWindow o items r → cs ≡ reverse (take (n - 1) r') → IsShortest o cs items
turned {o = o} l items r r' cs n size same h is =
    subst (λ u. IsShortest o u items) (sym (is ∙ ap (λ u. reverse (take (n - 1) u)) same)) (shortest_register_is l items r (n - 1) (omega (arith, h.generates.degree)) h)

-- and what is turned round is no longer than the items
fits : {F : Type 0} {o : Ops F} (items r r' : List F) (n : ℕ) → n ≡ length r → r' ≡ r → IsShortestWindow o items r → length items ≤ 6 → length (take (n - 1) r') ≤ 7
fits items r r' n size same h few =
    let all : length (take (n - 1) r') ≡ n - 1 = ap (λ u. length (take (n - 1) u)) same ∙ length-take-le (n - 1) r (omega arith) in
    omega (arith, all, h.within, h.generates.degree)

pub returns-clause-shortest : goal.returns-clause-shortest
returns-clause-shortest g c =
    let o = g.F.Arithmetic.ops in
    let turned_round = take (c.len.result - 1) c.as_slice.result.now in
    IfOk-weaker c.turned_copy.result (λ cs. cs ≡ reverse turned_round) (λ cs. IsShortest o cs c.args.items.now)
    (λ cs is. turned g.met.F.Arithmetic.laws c.args.items.now c.in_ok-register.register c.as_slice.result.now cs c.len.result c.len.ensures c.as_slice.ensures c.in_ok-register.ensures.shortest is)
    c.turned_copy.ensures.copy

pub returns-clause-in_place : goal.returns-clause-in_place
returns-clause-in_place g c = λ few.
    c.turned_copy.ensures.in_place
    (fits c.args.items.now c.in_ok-register.register c.as_slice.result.now c.len.result c.len.ensures c.as_slice.ensures c.in_ok-register.ensures.shortest few)
