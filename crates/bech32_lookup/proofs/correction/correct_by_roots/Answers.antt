use Rattle.std.specs.Prelude.{true, false}
use Rattle.std.proofs.Common.{rules, ◌≡◌, ◌≤◌, ◌∙◌, length, sym, subst, ap, refl, arith}
use Rattle.bech32_gf.specs.Fe32 as fe32
use Rattle.bech32_gf.specs.laws.Fe32Laws.{is_field}
use Rattle.bech32_checksum.specs.Code.{Code}
use Rattle.bech32_checksum.proofs.Digits.{length-tabulate}
use Rattle.bech32_bch.specs.Listing.{IsSound}
use Rattle.bech32_bch.specs.Pattern.{HasRemainder, Solves}
use Rattle.bech32_bch.specs.Search.{locators}
use Rattle.bech32_bch.proofs.Accepted.{passes_again, sound}
use Rattle.bech32_bch.proofs.Candidates.{apart_inside}
use Rattle.bech32_lookup.proofs.Mends.{mends}
use Rattle.bech32_lookup.proofs.Remainders.{left_over, remainder_left}
use Rattle.bech32_lookup.proofs.Usable.{usable_read}
use Rattle.bech32_lookup.proofs.Based.{candidate_over, found_over}
use Rattle.bech32_lookup.proofs.correction.correct_by_roots.Goals as goal

pub decode_errors-requires : goal.decode_errors-requires
decode_errors-requires g c =
    let o = g.Ck.CorrectionField.Arithmetic.ops in
    let usable = usable_read o g.Ck.CorrectionField.Extension.embed g.met.Ck.CorrectionField.LocatorField.embeds_law.one
    g.Ck.Checksum.code g.Ck.Checksum.ROOT_GENERATOR c.ROOT_GENERATOR.result g.Ck.Checksum.ROOT_EXPONENTS_START c.ROOT_EXPONENTS_START.result g.Ck.Checksum.ROOT_EXPONENTS_END c.bound.result
    c.args.window c.ROOT_GENERATOR.ensures c.ROOT_EXPONENTS_START.ensures (c.bound.ensures ∙ g.met.Ck.Checksum.bound_law)
    (g.met.Ck.Checksum.lawful_law.0 c.requires.lawful.0 c.requires.lawful.1) (subst (λ n. c.args.window ≤ n) (sym g.met.Ck.Checksum.code_length_law) c.requires.within) in (
      search rules,
      (
        search rules,
        (
          search rules,
          (
            usable.order,
            (c.requires.erased, subst (λ b. c.args.known.now ≡ locators o b c.args.erasures.now) (sym c.ROOT_GENERATOR.ensures) c.requires.known),
          ),
        ),
      ),
    )

pub returns-in_default-clause-answer : goal.returns-in_default-clause-answer
returns-in_default-clause-answer g c = λ e h.
    let usable = usable_read g.Ck.CorrectionField.Arithmetic.ops g.Ck.CorrectionField.Extension.embed g.met.Ck.CorrectionField.LocatorField.embeds_law.one
    g.Ck.Checksum.code g.Ck.Checksum.ROOT_GENERATOR c.ROOT_GENERATOR.result g.Ck.Checksum.ROOT_EXPONENTS_START c.ROOT_EXPONENTS_START.result g.Ck.Checksum.ROOT_EXPONENTS_END c.bound.result
    c.args.window c.ROOT_GENERATOR.ensures c.ROOT_EXPONENTS_START.ensures (c.bound.ensures ∙ g.met.Ck.Checksum.bound_law)
    (g.met.Ck.Checksum.lawful_law.0 c.requires.lawful.0 c.requires.lawful.1) (subst (λ n. c.args.window ≤ n) (sym g.met.Ck.Checksum.code_length_law) c.requires.within) in
    absurd (rw c.in_default.is at (found_over g.met.Ck.CorrectionField.LocatorField.base_law _ _ _ _ _ _ _ _ _ c.in_ok-listing.ensures.found g.Ck.Checksum.code.generator e usable
    (subst (λ n. Solves fe32.ops g.Ck.Checksum.code.generator c.args.residue.now c.args.erasures.now c.args.window n e) (sym c.bound.ensures) h)))

pub returns-then-has_residue-clause-answer : goal.returns-then-has_residue-clause-answer
returns-then-has_residue-clause-answer g c =
    let o = g.Ck.CorrectionField.Arithmetic.ops in
    let embed = g.Ck.CorrectionField.Extension.embed in
    let code = g.Ck.Checksum.code in
    let generator = g.Ck.Checksum.code.generator in
    let residue = c.args.residue.now in
    let erasures = c.args.erasures.now in
    let listing = c.in-Some.listing in
    let into = g.met.Ck.CorrectionField.LocatorField.embeds_law in
    let apart = apart_inside embed g.Ck.CorrectionField.Extension.retract g.met.Ck.CorrectionField.Extension.retract_law in
    let usable = usable_read o embed g.met.Ck.CorrectionField.LocatorField.embeds_law.one
    code g.Ck.Checksum.ROOT_GENERATOR c.ROOT_GENERATOR.result g.Ck.Checksum.ROOT_EXPONENTS_START c.ROOT_EXPONENTS_START.result g.Ck.Checksum.ROOT_EXPONENTS_END c.bound.result
    c.args.window c.ROOT_GENERATOR.ensures c.ROOT_EXPONENTS_START.ensures (c.bound.ensures ∙ g.met.Ck.Checksum.bound_law)
    (g.met.Ck.Checksum.lawful_law.0 c.requires.lawful.0 c.requires.lawful.1) (subst (λ n. c.args.window ≤ n) (sym g.met.Ck.Checksum.code_length_law) c.requires.within) in
    let leaves : HasRemainder fe32.ops generator residue listing =
    subst (HasRemainder fe32.ops generator residue) c.as_slice.ensures (c.has_residue.ensures.0 c.if-has_residue.true) in
    let is_sound : IsSound fe32.ops generator residue erasures c.args.window g.Ck.Checksum.bound listing =
    subst (λ n. IsSound fe32.ops generator residue erasures c.args.window n listing) c.bound.ensures
    (sound is_field g.met.Ck.CorrectionField.Arithmetic.laws into c.ROOT_GENERATOR.result c.ROOT_EXPONENTS_START.result c.bound.result c.args.window generator residue erasures listing apart usable
    c.requires.erased (candidate_over g.met.Ck.CorrectionField.LocatorField.base_law _ _ _ _ (rw c.in-Some.is at c.in_ok-listing.ensures.listed)) (remainder_left is_field generator residue listing leaves)) in
    let size : length code.target ≡ length code.generator =
    ap (λ (k : Code). length k.target) g.met.Ck.Checksum.code_law ∙ length-tabulate g.Ck.Checksum.CHECKSUM_LENGTH _ ∙ sym g.met.Ck.Checksum.degree_law in
    record {
      pattern = is_sound.pattern;
      explains = is_sound.solves;
      lists = is_sound.listing;
      only = λ e h. rw c.in-Some.is at (found_over g.met.Ck.CorrectionField.LocatorField.base_law _ _ _ _ _ _ _ _ _ c.in_ok-listing.ensures.found generator e usable
          (subst (λ n. Solves fe32.ops generator residue erasures c.args.window n e) (sym c.bound.ensures) h));
      alone = is_sound.alone;
      mends = mends is_field (λ x. refl) generator code.target residue listing size leaves;
    }

pub returns-else-has_residue-clause-answer : goal.returns-else-has_residue-clause-answer
returns-else-has_residue-clause-answer g c = λ e h.
    let o = g.Ck.CorrectionField.Arithmetic.ops in
    let embed = g.Ck.CorrectionField.Extension.embed in
    let generator = g.Ck.Checksum.code.generator in
    let into = g.met.Ck.CorrectionField.LocatorField.embeds_law in
    let usable = usable_read o embed g.met.Ck.CorrectionField.LocatorField.embeds_law.one
    g.Ck.Checksum.code g.Ck.Checksum.ROOT_GENERATOR c.ROOT_GENERATOR.result g.Ck.Checksum.ROOT_EXPONENTS_START c.ROOT_EXPONENTS_START.result g.Ck.Checksum.ROOT_EXPONENTS_END c.bound.result
    c.args.window c.ROOT_GENERATOR.ensures c.ROOT_EXPONENTS_START.ensures (c.bound.ensures ∙ g.met.Ck.Checksum.bound_law)
    (g.met.Ck.Checksum.lawful_law.0 c.requires.lawful.0 c.requires.lawful.1) (subst (λ n. c.args.window ≤ n) (sym g.met.Ck.Checksum.code_length_law) c.requires.within) in
    let listing = c.in-Some.listing in
    let solves : Solves fe32.ops generator c.args.residue.now c.args.erasures.now c.args.window c.bound.result e =
    subst (λ n. Solves fe32.ops generator c.args.residue.now c.args.erasures.now c.args.window n e) (sym c.bound.ensures) h in
    let leaves : HasRemainder fe32.ops generator c.args.residue.now listing =
    left_over is_field generator c.args.residue.now listing
    (passes_again is_field g.met.Ck.CorrectionField.Arithmetic.laws into c.args.window c.bound.result generator c.args.residue.now c.args.erasures.now e listing c.requires.erased solves
    (rw c.in-Some.is at (found_over g.met.Ck.CorrectionField.LocatorField.base_law _ _ _ _ _ _ _ _ _ c.in_ok-listing.ensures.found generator e usable solves))) in
    let no : false ≡ true = sym c.if-has_residue.false ∙ c.has_residue.ensures.1 (subst (HasRemainder fe32.ops generator c.args.residue.now) (sym c.as_slice.ensures) leaves) in
    absurd (cc no)

refused : {P : Type 0} → false ≡ true → P
refused h = absurd (cc h)

pub returns-in_err-listing-clause-in_place : goal.returns-in_err-listing-clause-in_place
returns-in_err-listing-clause-in_place g c = λ few. refused (c.in_err-listing.ensures.in_place (omega (arith, few, (g.met.Ck.Checksum.lawful_law.0 c.requires.lawful.0 c.requires.lawful.1).few, c.bound.ensures, g.met.Ck.Checksum.bound_law)))
