use Rattle.std.specs.Prelude.{slice_index}
use Rattle.std.proofs.Common.{◌≡◌, ◌≢◌, ◌∙◌, ◌<◌, ◌≤◌, ◌^◌, ℕ, List, [], ◌∷◌, Option, None, Some, MatchOption, ap, bit_xor, inr, length, sym, subst, arith}
use Rattle.std.proofs.lemmas.Nat.{xor_lt}
use Rattle.bech32_gf.specs.declared.gf32.Fe32.{Fe32}
use Rattle.bech32_checksum.specs.Code.{Code, bech32m}
use Rattle.bech32_checksum.specs.Packed.{digits}
use Rattle.bech32_correction.specs.Mistyped.{HasNoListing, IsListingOf, IsRefusedFor}
use Rattle.bech32_correction.proofs.Outcomes.{part_fits}
use Rattle.bech32_decode.specs.Reading.{IsReading}
use Rattle.bech32_decode.specs.Refusals.{HasLengths}
use Rattle.bech32_lookup.specs.Found.{IsErasedListing}
use Rattle.bech32_calls.specs.Correct.{IsMending, bound}
use Rattle.bech32_calls.proofs.Mending.{mended_by_nothing}
use Rattle.bech32_small.specs.Target.{PacksTarget}
use Rattle.bech32_small.proofs.Found.{first_below, none_of, one_of, said-below, said-beside, said-erased, three_of, two_of, unfit}
use Rattle.bech32_small.proofs.Lengths.{lengths-by, none-from_same, refused-by, same-from_xor, target-by, xor-sum}
use Rattle.bech32_small.proofs.correct.listing_of.Goals as goal

module _ (code : Code) (text given : List ℕ) where
  -- what is listed for the residue mends the text
  listed : (found : Option (List (ℕ × Fe32))) → MatchOption found (HasNoListing code 3 text given) (λ listing. IsListingOf code 3 text given listing)
      → MatchOption found (HasNoListing code bound text given) (λ listing. IsMending text given listing code)
  listed None h = h
  listed (Some listing) h = inr h

module _ (target : ℕ) (small : target < 2 ^ 30) (code : Code) (has : PacksTarget target code) (most : code.code_length ≡ 1023) (text hrp data_part : List ℕ) (residue : ℕ)
    (reading : IsReading bech32m text hrp data_part residue) (some : bit_xor residue target ≡ 0 → ⊥) (lengths : HasLengths bech32m (length text) (length data_part)) where
  -- where the remainder is not the target, the checksum refuses the text for the difference
  refused : IsRefusedFor code text hrp data_part (digits 6 (bit_xor residue target))
  refused =
      refused-by target code has most text hrp data_part residue reading small (λ e. some (none-from_same residue target e)) lengths (xor-sum residue target)

  -- a data part of a text of 1,023 characters is no longer
  within : length data_part ≤ 1023
  within = omega (arith, most, refused.read.text_length, part_fits text hrp data_part refused.read.grammar)

pub returns-then-row-eq0 : goal.returns-then-row-eq0
returns-then-row-eq0 c code has most =
    let target = c.args.target in
    let r = c.args.reading.now in
    let text = r.text.now in
    let given = c.args.erasures.now in
    subst (λ (l : List (ℕ × Fe32)). IsMending text given l code) (sym c.no_errors.ensures)
    (mended_by_nothing text given r.hrp.now r.data_part.now code r.is_reading.grammar
    (lengths-by target code has most (length text) (length r.data_part.now) c.requires.lengths)
    (target-by target code has most text r.hrp.now r.data_part.now r.residue r.is_reading (same-from_xor r.residue target c.if-row-eq0.true)))

pub returns-in_err-given : goal.returns-in_err-given
returns-in_err-given c code has most =
    let target = c.args.target in
    let r = c.args.reading.now in
    let row = bit_xor r.residue target in
    let no = refused target c.requires.target code has most r.text.now r.hrp.now r.data_part.now r.residue r.is_reading c.if-row-eq0.false c.requires.lengths in
    let few = within target c.requires.target code has most r.text.now r.hrp.now r.data_part.now r.residue r.is_reading c.if-row-eq0.false c.requires.lengths in
    rw c.from_residual.ensures (unfit target code has most r.text.now r.hrp.now r.data_part.now c.args.erasures.now row no few c.in_err-given.ensures)

pub error_below-requires-clause-digits : goal.error_below-requires-clause-digits
error_below-requires-clause-digits c = xor_lt 30 c.args.reading.now.residue c.args.target c.args.reading.now.is_reading.clear c.requires.target

pub returns-in-empty : goal.returns-in-empty
returns-in-empty c code has most =
    let target = c.args.target in
    let r = c.args.reading.now in
    let row = bit_xor r.residue target in
    let no = refused target c.requires.target code has most r.text.now r.hrp.now r.data_part.now r.residue r.is_reading c.if-row-eq0.false c.requires.lengths in
    let few = within target c.requires.target code has most r.text.now r.hrp.now r.data_part.now r.residue r.is_reading c.if-row-eq0.false c.requires.lengths in
    let (all, is) = c.in_ok-given.ensures in
    listed code r.text.now c.args.erasures.now c.error_below.result
    (said-below target code has most r.text.now r.hrp.now r.data_part.now c.args.erasures.now row no few c.in_ok-given.given is all c.error_below.result
    (sym c.as_slice.ensures.value ∙ none_of c.as_slice.result.now c.in-empty.len_below) c.if-row-eq0.false c.error_below.ensures)

pub error_beside-requires-clause-digits : goal.error_beside-requires-clause-digits
error_beside-requires-clause-digits c = xor_lt 30 c.args.reading.now.residue c.args.target c.args.reading.now.is_reading.clear c.requires.target

pub error_beside-requires-clause-within : goal.error_beside-requires-clause-within
error_beside-requires-clause-within c =
    let (all, is) = c.in_ok-given.ensures in
    first_below (length c.args.reading.now.data_part.now) (slice_index c.as_slice.result.now 0) c.args.erasures.now c.in_ok-given.given is
    (sym c.as_slice.ensures.value ∙ one_of c.as_slice.result.now c.in-len1.len_at_least c.in-len1.len_below) all

pub returns-in-len1 : goal.returns-in-len1
returns-in-len1 c code has most =
    let target = c.args.target in
    let r = c.args.reading.now in
    let row = bit_xor r.residue target in
    let no = refused target c.requires.target code has most r.text.now r.hrp.now r.data_part.now r.residue r.is_reading c.if-row-eq0.false c.requires.lengths in
    let few = within target c.requires.target code has most r.text.now r.hrp.now r.data_part.now r.residue r.is_reading c.if-row-eq0.false c.requires.lengths in
    let (all, is) = c.in_ok-given.ensures in
    listed code r.text.now c.args.erasures.now c.error_beside.result
    (said-beside target code has most r.text.now r.hrp.now r.data_part.now c.args.erasures.now row no few c.in_ok-given.given is all c.error_beside.result (slice_index c.as_slice.result.now 0)
    (sym c.as_slice.ensures.value ∙ one_of c.as_slice.result.now c.in-len1.len_at_least c.in-len1.len_below) c.error_beside.ensures)

pub values_at_two-requires : goal.values_at_two-requires
values_at_two-requires c = xor_lt 30 c.args.reading.now.residue c.args.target c.args.reading.now.is_reading.clear c.requires.target

pub returns-in-len2 : goal.returns-in-len2
returns-in-len2 c code has most =
    let target = c.args.target in
    let r = c.args.reading.now in
    let row = bit_xor r.residue target in
    let no = refused target c.requires.target code has most r.text.now r.hrp.now r.data_part.now r.residue r.is_reading c.if-row-eq0.false c.requires.lengths in
    let few = within target c.requires.target code has most r.text.now r.hrp.now r.data_part.now r.residue r.is_reading c.if-row-eq0.false c.requires.lengths in
    let (all, is) = c.in_ok-given.ensures in
    let s : List ℕ = c.in_ok-given.given in
    let items : s ≡ slice_index c.as_slice.result.now 0 ∷ slice_index c.as_slice.result.now 1 ∷ [] = sym c.as_slice.ensures.value ∙ two_of c.as_slice.result.now c.in-len2.len_at_least c.in-len2.len_below in
    let count = ap (λ (l : List ℕ). length l) items in
    listed code r.text.now c.args.erasures.now c.values_at_two.result
    (said-erased target code has most r.text.now r.hrp.now r.data_part.now c.args.erasures.now row no few s is all c.values_at_two.result
    (omega (arith, count)) (omega (arith, count))
    (subst (λ (s : List ℕ). IsErasedListing bech32m.generator (digits 6 row) s c.values_at_two.result) (sym items) c.values_at_two.ensures))

pub values_at_three-requires : goal.values_at_three-requires
values_at_three-requires c = xor_lt 30 c.args.reading.now.residue c.args.target c.args.reading.now.is_reading.clear c.requires.target

pub returns-in-len3-up : goal.returns-in-len3-up
returns-in-len3-up c code has most =
    let target = c.args.target in
    let r = c.args.reading.now in
    let row = bit_xor r.residue target in
    let no = refused target c.requires.target code has most r.text.now r.hrp.now r.data_part.now r.residue r.is_reading c.if-row-eq0.false c.requires.lengths in
    let few = within target c.requires.target code has most r.text.now r.hrp.now r.data_part.now r.residue r.is_reading c.if-row-eq0.false c.requires.lengths in
    let (all, is) = c.in_ok-given.ensures in
    let s : List ℕ = c.in_ok-given.given in
    let items : s ≡ slice_index c.as_slice.result.now 0 ∷ slice_index c.as_slice.result.now 1 ∷ slice_index c.as_slice.result.now 2 ∷ [] = sym c.as_slice.ensures.value ∙ three_of c.as_slice.result.now c.in-len3-up.len_at_least c.as_slice.ensures.few in
    let count = ap (λ (l : List ℕ). length l) items in
    listed code r.text.now c.args.erasures.now c.values_at_three.result
    (said-erased target code has most r.text.now r.hrp.now r.data_part.now c.args.erasures.now row no few s is all c.values_at_three.result
    (omega (arith, count)) (omega (arith, count))
    (subst (λ (s : List ℕ). IsErasedListing bech32m.generator (digits 6 row) s c.values_at_three.result) (sym items) c.values_at_three.ensures))
