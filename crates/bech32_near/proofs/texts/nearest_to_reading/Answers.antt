use Rattle.std.specs.Prelude.{string_bytes}
use Rattle.std.proofs.Common.{rules, ◌≡◌, ◌<◌, length, refl, sym, ◌∙◌, arith}
use Rattle.std.proofs.lemmas.Result.{err_from_is_err_and}
use Rattle.bech32_checksum.proofs.Target.{length-target}
use Rattle.bech32_correction.proofs.Outcomes.{inside_code, part_fits}
use Rattle.bech32_near.proofs.Found.{near_texts, none_found}
use Rattle.bech32_near.proofs.Nearby.{accepted_by_none, all_placed, residue_left_by, search-from_residue}
use Rattle.bech32_near.proofs.OutOfMemory.{memory-from_listings}
use Rattle.bech32_near.proofs.texts.nearest_to_reading.Goals as goal

pub new-corrector-requires : goal.new-corrector-requires
new-corrector-requires g c =
    let code = g.Ck.Checksum.code in
    let s = c.args.reading.now in
    let some : 0 < length code.generator = omega (arith, g.met.Ck.Checksum.degree_law, c.CHECKSUM_LENGTH.ensures, c.if-CHECKSUM_LENGTH-eq0.false) in (
      search rules,
      (
        (g.met.Ck.CorrectingChecksum.lawful_roots, some),
        inside_code code (length s.data_part.now) (length s.text.now) g.Ck.Checksum.CODE_LENGTH (length s.data_part.now)
            (part_fits s.text.now s.hrp.now s.data_part.now s.is_reading.grammar) c.requires.0 g.met.Ck.Checksum.code_length_law refl,
      ),
    )

pub listings_within-requires : goal.listings_within-requires
listings_within-requires g c = search rules

pub mended_all-requires : goal.mended_all-requires
mended_all-requires g c =
    let code = g.Ck.Checksum.code in
    let s = c.args.reading.now in
    let some : 0 < length code.generator = omega (arith, g.met.Ck.Checksum.degree_law, c.CHECKSUM_LENGTH.ensures, c.if-CHECKSUM_LENGTH-eq0.false) in
    let laws = g.met.Ck.Checksum in
    let size = length-target g.Ck.MidstateRepr.PackedFe32.number code g.Ck.Checksum.CODE_LENGTH g.Ck.Checksum.CHECKSUM_LENGTH g.Ck.Checksum.GENERATOR_SH g.Ck.Checksum.TARGET_RESIDUE laws.code_law ∙ sym laws.degree_law in
    let read = residue_left_by code s.text.now s.hrp.now s.data_part.now c.error_residue-residue.result s.is_reading.grammar c.requires c.error_residue-residue.ensures in
    let is = search-from_residue code s.text.now s.hrp.now s.data_part.now c.error_residue-residue.result c.new-corrector.result c.new-corrector.ensures some read in
    (search rules, rw c.text_of.ensures (all_placed code g.Ck.Checksum.bound c.args.errors s.text.now c.args.erasures.now size c.in_ok-listings.listings.items (c.in_ok-listings.ensures.all s.text.now is.0 is.1)))

pub returns-then-CHECKSUM_LENGTH-eq0 : goal.returns-then-CHECKSUM_LENGTH-eq0
returns-then-CHECKSUM_LENGTH-eq0 g c =
    let code = g.Ck.Checksum.code in
    let s = c.args.reading.now in
    let laws = g.met.Ck.Checksum in
    let size = length-target g.Ck.MidstateRepr.PackedFe32.number code g.Ck.Checksum.CODE_LENGTH g.Ck.Checksum.CHECKSUM_LENGTH g.Ck.Checksum.GENERATOR_SH g.Ck.Checksum.TARGET_RESIDUE laws.code_law ∙ sym laws.degree_law in
    let none : length code.generator ≡ 0 = omega (arith, laws.degree_law, c.CHECKSUM_LENGTH.ensures, c.if-CHECKSUM_LENGTH-eq0.true) in
    let accepts = accepted_by_none code s.text.now s.hrp.now s.data_part.now s.is_reading.grammar c.requires size none in
    (none_found (λ m. m.listing) (λ m. string_bytes m.text) code g.Ck.Checksum.bound c.args.errors s.text.now c.args.erasures.now c.new.result.items c.new.ensures.items none accepts, (none, accepts))

pub returns : goal.returns
returns g c =
    let code = g.Ck.Checksum.code in
    let s = c.args.reading.now in
    let some : 0 < length code.generator = omega (arith, g.met.Ck.Checksum.degree_law, c.CHECKSUM_LENGTH.ensures, c.if-CHECKSUM_LENGTH-eq0.false) in
    let laws = g.met.Ck.Checksum in
    let size = length-target g.Ck.MidstateRepr.PackedFe32.number code g.Ck.Checksum.CODE_LENGTH g.Ck.Checksum.CHECKSUM_LENGTH g.Ck.Checksum.GENERATOR_SH g.Ck.Checksum.TARGET_RESIDUE laws.code_law ∙ sym laws.degree_law in
    let read = residue_left_by code s.text.now s.hrp.now s.data_part.now c.error_residue-residue.result s.is_reading.grammar c.requires c.error_residue-residue.ensures in
    let is = search-from_residue code s.text.now s.hrp.now s.data_part.now c.error_residue-residue.result c.new-corrector.result c.new-corrector.ensures some read in (
      near_texts code g.Ck.Checksum.bound c.args.errors s.text.now c.args.erasures.now size (λ m. m.listing) (λ m. string_bytes m.text) c.in_ok-listings.listings.items c.in_ok-texts.texts.items
          (c.in_ok-listings.ensures.all s.text.now is.0 is.1) c.in_ok-texts.ensures.same (rw c.text_of.ensures at c.in_ok-texts.ensures.each),
      is,
    )

pub returns-in_err-listings : goal.returns-in_err-listings
returns-in_err-listings g c =
    let code = g.Ck.Checksum.code in
    let s = c.args.reading.now in
    let some : 0 < length code.generator = omega (arith, g.met.Ck.Checksum.degree_law, c.CHECKSUM_LENGTH.ensures, c.if-CHECKSUM_LENGTH-eq0.false) in
    let read = residue_left_by code s.text.now s.hrp.now s.data_part.now c.error_residue-residue.result s.is_reading.grammar c.requires c.error_residue-residue.ensures in
    let is = search-from_residue code s.text.now s.hrp.now s.data_part.now c.error_residue-residue.result c.new-corrector.result c.new-corrector.ensures some read in
    let p = err_from_is_err_and c.from_residual.result c.from_residual.ensures.1 in
    rw p.1 (c.in_err-listings.ensures.memory s.text.now is.0 is.1)

pub returns-in_err-texts : goal.returns-in_err-texts
returns-in_err-texts g c =
    let code = g.Ck.Checksum.code in
    let s = c.args.reading.now in
    let some : 0 < length code.generator = omega (arith, g.met.Ck.Checksum.degree_law, c.CHECKSUM_LENGTH.ensures, c.if-CHECKSUM_LENGTH-eq0.false) in
    let laws = g.met.Ck.Checksum in
    let size = length-target g.Ck.MidstateRepr.PackedFe32.number code g.Ck.Checksum.CODE_LENGTH g.Ck.Checksum.CHECKSUM_LENGTH g.Ck.Checksum.GENERATOR_SH g.Ck.Checksum.TARGET_RESIDUE laws.code_law ∙ sym laws.degree_law in
    let read = residue_left_by code s.text.now s.hrp.now s.data_part.now c.error_residue-residue.result s.is_reading.grammar c.requires c.error_residue-residue.ensures in
    let is = search-from_residue code s.text.now s.hrp.now s.data_part.now c.error_residue-residue.result c.new-corrector.result c.new-corrector.ensures some read in
    let p = err_from_is_err_and c.from_residual-in_err-texts.result c.from_residual-in_err-texts.ensures.1 in
    rw p.1
    (memory-from_listings code g.Ck.Checksum.bound c.args.errors s.text.now c.args.erasures.now size some c.in_ok-listings.listings.items (c.in_ok-listings.ensures.all s.text.now is.0 is.1) c.in_err-texts.ensures.memory)
