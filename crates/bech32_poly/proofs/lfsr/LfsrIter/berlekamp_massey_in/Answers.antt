use Rattle.std.proofs.Common.{◌≡◌, ◌≤◌, ℕ, List, length, take, ap, ◌∙◌, arith}
use Rattle.std.proofs.lemmas.List.{length-take-le}
use Rattle.bech32_gf.specs.Field.{Ops}
use Rattle.bech32_poly.specs.Register.{Generates}
use Rattle.bech32_poly.proofs.Sequences.{goes_on}
use Rattle.bech32_poly.proofs.lfsr.LfsrIter.berlekamp_massey_in.Goals as goal

-- as many of the first items as there are coefficients
as_many : {F : Type 0} {o : Ops F} (cs items : List F) (n : ℕ) → Generates o cs items → n ≡ length cs → length (take n items) ≡ length cs
as_many cs items n h size = length-take-le n items (omega (arith, size, h.fits)) ∙ size

few_are : {F : Type 0} {o : Ops F} (cs items : List F) (n : ℕ) → Generates o cs items → n ≡ length cs → length items ≤ 6 → length (take n items) ≤ 7
few_are cs items n h size few = omega (arith, as_many cs items n h size, h.fits)

pub returns-in-Err-clause-in_place : goal.returns-in-Err-clause-in_place
returns-in-Err-clause-in_place g c = λ few. absurd (cc (c.in-Err.ensures.in_place few))

pub returns-in-Err-from_slice-clause-in_place : goal.returns-in-Err-from_slice-clause-in_place
returns-in-Err-from_slice-clause-in_place g c = λ few.
    absurd (cc (c.in-Err-from_slice.ensures.in_place (few_are c.in-Ok.coefficients c.args.items.now c.len.result c.in-Ok.ensures.shortest.generates c.len.ensures few)))

pub invariant_of-result : goal.invariant_of-result
invariant_of-result g c =
    (ap (λ u. length u) c.in-Ok-from_slice.ensures.ok ∙ as_many c.in-Ok.coefficients c.args.items.now c.len.result c.in-Ok.ensures.shortest.generates c.len.ensures, λ some. some)

pub returns-in-Ok-from_slice-clause-shortest : goal.returns-in-Ok-from_slice-clause-shortest
returns-in-Ok-from_slice-clause-shortest g c = c.in-Ok.ensures.shortest

pub returns-in-Ok-from_slice-clause-goes_on : goal.returns-in-Ok-from_slice-clause-goes_on
returns-in-Ok-from_slice-clause-goes_on g c =
    goes_on g.F.Arithmetic.ops c.in-Ok.coefficients c.args.items.now c.in-Ok-from_slice.ring c.in-Ok.ensures.shortest.generates
    (c.in-Ok-from_slice.ensures.ok ∙ ap (λ n. take n c.args.items.now) c.len.ensures)
