use Rattle.std.proofs.Common.{rules, ◌≡◌, ◌↔◌, Bool, IsTrue, true, false, length, refl, sym, ◌∙◌}
use Rattle.std.proofs.lemmas.Result.{err_from_is_err_and}
use Rattle.bech32_gf.specs.laws.Fe32Laws.{is_field}
use Rattle.bech32_gf.specs.Fe32.{elements_of}
use Rattle.bech32_poly.proofs.Remainder.{length-remainder_of}
use Rattle.bech32_checksum.specs.TextPolynomial.{text_polynomial}
use Rattle.bech32_checksum.proofs.Target.{length-target}
use Rattle.bech32_correction.proofs.Outcomes.{corrector_of, inside_code, none-from_lengths, part_fits, refusal_of_parts, some_places}
use Rattle.bech32_correction.proofs.Residues.{other_remainder, refused_by_all}
use Rattle.bech32_correction.proofs.correcting.listing_of_reading.Goals as goal

-- what a test says is not so where it fails
not_said : {P : Type 0} (b : Bool) → (IsTrue b ↔ P) → b ≡ false → P → ⊥
not_said b says fails is = let holds : b ≡ true = says.1 is in absurd cc

pub new-corrector-requires : goal.new-corrector-requires
new-corrector-requires g c =
    let code = g.Ck.Checksum.code in
    let s = c.args.reading.now in
    let p = text_polynomial s.hrp.now (elements_of s.data_part.now) in
    let size : length code.target ≡ length code.generator =
    length-target g.Ck.MidstateRepr.PackedFe32.number code _ _ g.Ck.Checksum.GENERATOR_SH g.Ck.Checksum.TARGET_RESIDUE g.met.Ck.Checksum.code_law
    ∙ sym g.met.Ck.Checksum.degree_law in
    let other = not_said c.has_target.result c.has_target.ensures c.if-has_target.false in (
      search rules,
      (
        (g.met.Ck.CorrectingChecksum.lawful_roots, some_places code _ size (length-remainder_of is_field code.generator p) (other_remainder code p other)),
        inside_code code (length s.data_part.now) (length s.text.now) g.Ck.Checksum.CODE_LENGTH (length s.data_part.now)
            (part_fits s.text.now s.hrp.now s.data_part.now s.is_reading.grammar) c.in_ok-validate_lengths.ensures.0 g.met.Ck.Checksum.code_length_law refl,
      ),
    )

pub returns-in_err-validate_lengths-clause-value : goal.returns-in_err-validate_lengths-clause-value
returns-in_err-validate_lengths-clause-value g c =
    let code = g.Ck.Checksum.code in
    let s = c.args.reading.now in
    let refusal = c.in_err-validate_lengths.ensures in
    let e = c.in_err-validate_lengths.field-0.0 in
    let p = err_from_is_err_and c.from_residual.result c.from_residual.ensures.1 in
    rw p.1 (rw p.2 (refusal_of_parts code s.text.now s.hrp.now s.data_part.now e s.is_reading.grammar refusal.0
    (none-from_lengths code _ s.hrp.now s.data_part.now e refusal.0 refusal.1)))

pub returns-then-has_target-clause-value : goal.returns-then-has_target-clause-value
returns-then-has_target-clause-value g c =
    let s = c.args.reading.now in
    let lengths = c.in_ok-validate_lengths.ensures in (
      s.hrp.now,
      s.data_part.now,
      record {
        grammar = s.is_reading.grammar;
        text_length = lengths.0;
        data_length = lengths.1;
        has_target = c.has_target.ensures.0 c.if-has_target.true;
      },
    )

pub returns-in_err-listing_by-clause-value : goal.returns-in_err-listing_by-clause-value
returns-in_err-listing_by-clause-value g c =
    let s = c.args.reading.now in
    let other = not_said c.has_target.result c.has_target.ensures c.if-has_target.false in
    let p = err_from_is_err_and c.from_residual-in_err-listing_by.result c.from_residual-in_err-listing_by.ensures.1 in
    rw p.1 (rw p.2 (
      s.hrp.now,
      s.data_part.now,
      c.error_residue.result,
      refused_by_all g.Ck.Checksum.code s.text.now s.hrp.now s.data_part.now c.error_residue.result s.is_reading.grammar
          c.in_ok-validate_lengths.ensures c.error_residue.ensures other,
    ))

pub returns-clause-value : goal.returns-clause-value
returns-clause-value g c =
    let s = c.args.reading.now in
    let other = not_said c.has_target.result c.has_target.ensures c.if-has_target.false in
    c.in_ok-listing_by.ensures.value s.text.now
    (corrector_of g.Ck.Checksum.code s.text.now s.hrp.now s.data_part.now c.error_residue.result (length s.data_part.now) c.new-corrector.result
    (refused_by_all g.Ck.Checksum.code s.text.now s.hrp.now s.data_part.now c.error_residue.result s.is_reading.grammar
    c.in_ok-validate_lengths.ensures c.error_residue.ensures other) refl c.new-corrector.ensures)
