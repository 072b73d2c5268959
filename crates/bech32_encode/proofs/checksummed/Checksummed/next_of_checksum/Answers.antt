use Rattle.std.proofs.Common.{◌≡◌, ◌∙◌, length, [], Option, Some, None, MatchOption, sym, refl}
use Rattle.std.specs.Prelude.{IfNone}
use Rattle.bech32_encode.proofs.ChecksumEnds.{then_checksum-first, then_checksum-tail, then_checksum-none}
use Rattle.bech32_encode.proofs.checksummed.Checksummed.next_of_checksum.Goals as goal

where_none : {A : Type 0} → (P Q R : Type 0) (r : Option A) → MatchOption r P (λ _. R) → (P → Q) → IfNone r Q
where_none P Q R None h k = k h
where_none P Q R (Some x) h k = tt

pub returns-in-Some-clause-nothing_left : goal.returns-in-Some-clause-nothing_left
returns-in-Some-clause-nothing_left g c =
    let after = c.next_of_residue.ensures in
    where_none _ _ _ c.next_of_residue.result after.some (then_checksum-none g.Ck.MidstateRepr.PackedFe32.number g.Ck.Checksum.code _ _ _ after.tail)

pub returns-in-None-clause-nothing_left : goal.returns-in-None-clause-nothing_left
returns-in-None-clause-nothing_left g c =
    let after = c.next_of_residue-in-None.ensures in
    where_none _ _ _ c.next_of_residue-in-None.result after.some (then_checksum-none g.Ck.MidstateRepr.PackedFe32.number g.Ck.Checksum.code _ _ _ after.tail)

pub returns-in-Some-clause-gives : goal.returns-in-Some-clause-gives
returns-in-Some-clause-gives g c =
    let s = c.args.self.now in
    let after = c.next_of_residue.ensures in
    then_checksum-tail g.Ck.MidstateRepr.PackedFe32.number g.Ck.Checksum.code s.engine _ s.tail _ c.in-Some.left _ [] c.in-Some.is after.residue after.tail after.given refl

pub returns-in-None-clause-gives : goal.returns-in-None-clause-gives
returns-in-None-clause-gives g c =
    let s = c.args.self.now in
    let after = c.next_of_residue-in-None.ensures in
    let size : length g.Ck.Checksum.code.generator ≡ c.CHECKSUM_LENGTH.result =
    g.met.Ck.Checksum.degree_law ∙ sym c.CHECKSUM_LENGTH.ensures in
    then_checksum-first g.Ck.MidstateRepr.PackedFe32.number g.Ck.Checksum.code s.engine _ _ s.tail _ c.CHECKSUM_LENGTH.result _ [] c.in-None.is c.input_target_residue.ensures after.residue after.tail size after.given refl
