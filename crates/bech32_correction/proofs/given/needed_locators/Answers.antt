use Rattle.std.specs.Prelude.{IfOk}
use Rattle.std.proofs.Common.{◌≡◌, ◌≤◌, ◌+◌, ℕ, List, Result, Ok, Err, length, subst, sym, ap, arith}
use Rattle.bech32_bch.specs.Search.{locators}
use Rattle.bech32_poly.specs.FieldVec.{FitsInPlace}
use Rattle.bech32_correction.proofs.given.needed_locators.Goals as goal

-- what is so is so where it is needed
where_needed : {T E : Type 0} (n bound : ℕ) (Q : T → Type 0) (r : Result T E) → IfOk r Q → IfOk r (λ known. n + 2 ≤ bound → Q known)
where_needed n bound Q (Ok known) h = λ _. h
where_needed n bound Q (Err e) h = tt

pub returns-then-is_filled-clause-locators : goal.returns-then-is_filled-clause-locators
returns-then-is_filled-clause-locators g c = λ room.
    let filled = c.is_filled.ensures.0 c.if-is_filled.true in absurd (omega (arith, filled.1, c.len.ensures, room))

pub returns-clause-locators : goal.returns-clause-locators
returns-clause-locators g c =
    let ops = g.Ck.CorrectionField.Arithmetic.ops in
    where_needed (length c.args.erasures.now) g.Ck.Checksum.bound (λ known. known ≡ locators ops g.Ck.Checksum.ROOT_GENERATOR c.args.erasures.now) c.locators_of.result
    (subst (λ (s : List ℕ). IfOk c.locators_of.result (λ known. known ≡ locators ops g.Ck.Checksum.ROOT_GENERATOR s)) c.as_slice.ensures
    (subst (λ b. IfOk c.locators_of.result (λ known. known ≡ locators ops b c.as_slice.result.now)) c.ROOT_GENERATOR.ensures c.locators_of.ensures.locators))

pub returns-clause-in_place : goal.returns-clause-in_place
returns-clause-in_place g c = λ fits. c.locators_of.ensures.in_place (subst FitsInPlace (sym (ap (λ (s : List ℕ). length s) c.as_slice.ensures)) fits)
