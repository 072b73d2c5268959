use Rattle.std.specs.Prelude.{◌/◌, flat_map, map, set}
use Rattle.std.proofs.Common.{◌≡◌, ◌<◌, ◌≤◌, ◌+◌, ◌*◌, ◌∙◌, ◌∷◌, [], ℕ, get_or, length, min, take, ap, refl, subst, arith}
use Rattle.std.proofs.lemmas.List.{get_or_default}
use Rattle.bech32_calls.proofs.Joined.{most_at, next_size, put_first_joined}
use Rattle.bech32_calls.proofs.Listings.{put_first, put_more}
use Rattle.bech32_descriptor.specs.declared.edits.Edit.{Edit}
use Rattle.bech32_more_calls.specs.descriptor.Mends.{PutsEachMend, number_of_mend_change, places_of, second_place}
use Rattle.bech32_more_calls.proofs.Puts.{first_places, most_of_rooms, most_of_texts, pair_more, place_at, puts_each, text_more}
use Rattle.bech32_more_calls.proofs.descriptor.mends.put_each.Goals as goal

pub returns-in_default-clause-most : goal.returns-in_default-clause-most
returns-in_default-clause-most g c =
    let found = c.args.found.now in
    let i = c.loop-i.i in
    let less : i < length found = omega (arith, c.loop-i-test.true, c.min.ensures, c.min-most.ensures) in
    let few_kinds : i ≤ length c.args.kinds.now = omega (arith, c.loop-i-test.true, c.min.ensures, c.min-most.ensures) in
    let few_places : 2 * i ≤ length c.args.places.now = omega (arith, c.loop-i-test.true, c.min.ensures, c.min-most.ensures) in
    let none = rw c.in_default.is at c.put_behind.ensures in
    most_of_texts (λ m. m.edit) (λ m. m.text.items) found (length c.args.kinds.now) (length c.args.places.now) (length c.args.texts.now) i few_kinds few_places
    (most_at (λ m. m.text.items) found i c.index-found-i.result c.loop-i.end c.as_slice-text.result.now less c.as_slice-text.ensures.value c.loop-i.invariant.size
    (length c.args.texts.now) c.loop-i.invariant.fits (omega (arith, none.0, c.loop-i.auto.texts)))

pub returns-in_default-clause-put : goal.returns-in_default-clause-put
returns-in_default-clause-put g c =
    let found = c.args.found.now in
    let i = c.loop-i.i in
    let less : i < length found = omega (arith, c.loop-i-test.true, c.min.ensures, c.min-most.ensures) in
    let few_kinds : i ≤ length c.args.kinds.now = omega (arith, c.loop-i-test.true, c.min.ensures, c.min-most.ensures) in
    let few_places : 2 * i ≤ length c.args.places.now = omega (arith, c.loop-i-test.true, c.min.ensures, c.min-most.ensures) in
    rw (rw c.in_default.is at c.put_behind.ensures).1
    (puts_each (λ m. m.edit) (λ m. m.text.items) found c.args.kinds.now c.loop-i.kinds c.args.places.now c.loop-i.places c.args.texts.now c.loop-i.texts i (omega (arith, less))
    (put_first (λ m. number_of_mend_change m.edit.change) found c.args.kinds.now c.loop-i.kinds i (omega (arith, less)) few_kinds c.loop-i.invariant.kinds)
    (first_places (λ m. places_of m.edit) (λ m. refl) found c.args.places.now c.loop-i.places i (omega (arith, less)) few_places c.loop-i.invariant.places)
    (put_first_joined (λ m. m.text.items) found c.args.texts.now c.loop-i.texts i c.loop-i.end c.loop-i.invariant.size c.loop-i.invariant.fits c.loop-i.invariant.buffer))

pub loop-i-preserved : goal.loop-i-preserved
loop-i-preserved g c =
    let found = c.args.found.now in
    let i = c.loop-i.i in
    let less : i < length found = omega (arith, c.loop-i-test.true, c.min.ensures, c.min-most.ensures) in
    let less_kinds : i < length c.args.kinds.now = omega (arith, c.loop-i-test.true, c.min.ensures, c.min-most.ensures) in
    let less_places : 2 * i + 1 < length c.args.places.now = omega (arith, c.loop-i-test.true, c.min.ensures, c.min-most.ensures) in
    let d = c.index-found-i-in-loop-i-2.result in
    let e = c.index-found-i-in-loop-i-3.result in
    let place = place_at (λ m. m.edit) found i e c.requires less in
    let second : c.second.result ≡ second_place (get_or found i d).edit =
    c.second.ensures place ∙ ap (λ m. second_place m.edit) (get_or_default found i e d less) in
    let put = rw c.in-Some.is at c.put_behind.ensures in
    record {
      size = put.0 ∙ next_size (λ m. m.text.items) found i c.index-found-i.result c.loop-i.end c.as_slice-text.result.now less c.as_slice-text.ensures.value c.loop-i.invariant.size;
      fits = omega (arith, put.1, c.loop-i.auto.texts);
      kinds =
          ap (set c.loop-i.kinds i) c.change_number.ensures
          ∙ put_more (λ m. number_of_mend_change m.edit.change) found c.args.kinds.now c.loop-i.kinds i c.index-found-i-in-loop-i.result less less_kinds c.loop-i.invariant.kinds;
      places = pair_more (λ m. places_of m.edit) (λ m. refl) found c.args.places.now c.loop-i.places i (get_or found i d).edit.place c.second.result d less less_places c.loop-i.invariant.places
          (ap (λ (n : ℕ). (get_or found i d).edit.place ∷ n ∷ []) second);
      buffer = text_more (λ m. m.text.items) found c.args.texts.now c.loop-i.texts c.put_behind.new.texts c.as_slice-text.result.now i c.loop-i.end c.in-Some.next c.index-found-i.result
          less c.as_slice-text.ensures.value c.loop-i.invariant.size c.loop-i.invariant.buffer put.0 put.2;
    }

pub returns-clause-most : goal.returns-clause-most
returns-clause-most g c =
    let found = c.args.found.now in
    let at : c.loop-i.i ≡ c.min-most.result = omega (arith, c.loop-i-test.false, c.loop-i.auto.i-end) in
    let few : c.min-most.result ≤ length found = omega (arith, c.min.ensures, c.min-most.ensures) in
    let few_kinds : c.min-most.result ≤ length c.args.kinds.now = omega (arith, c.min.ensures, c.min-most.ensures) in
    let few_places : 2 * c.min-most.result ≤ length c.args.places.now = omega (arith, c.min.ensures, c.min-most.ensures) in
    most_of_rooms (λ m. m.edit) (λ m. m.text.items) found (length c.args.kinds.now) (length c.args.places.now) (length c.args.texts.now) c.min-most.result few few_kinds few_places
    (λ less less_kinds. omega (arith, less, less_kinds, c.min.ensures, c.min-most.ensures))
    (subst (λ (k : ℕ). length (flat_map (λ m. m.text.items) (take k found)) ≤ length c.args.texts.now) at (omega (arith, c.loop-i.invariant.size, c.loop-i.invariant.fits)))

pub returns-clause-put : goal.returns-clause-put
returns-clause-put g c =
    let found = c.args.found.now in
    let i = c.loop-i.i in
    let at : i ≡ c.min-most.result = omega (arith, c.loop-i-test.false, c.loop-i.auto.i-end) in
    let few : i ≤ length found = omega (arith, at, c.min.ensures, c.min-most.ensures) in
    let few_kinds : i ≤ length c.args.kinds.now = omega (arith, at, c.min.ensures, c.min-most.ensures) in
    let few_places : 2 * i ≤ length c.args.places.now = omega (arith, at, c.min.ensures, c.min-most.ensures) in
    subst (λ (k : ℕ). PutsEachMend (take k (map (λ m. (m.edit, m.text.items)) found)) c.args.kinds.now c.loop-i.kinds c.args.places.now c.loop-i.places c.args.texts.now c.loop-i.texts) at
    (puts_each (λ m. m.edit) (λ m. m.text.items) found c.args.kinds.now c.loop-i.kinds c.args.places.now c.loop-i.places c.args.texts.now c.loop-i.texts i few
    (put_first (λ m. number_of_mend_change m.edit.change) found c.args.kinds.now c.loop-i.kinds i few few_kinds c.loop-i.invariant.kinds)
    (first_places (λ m. places_of m.edit) (λ m. refl) found c.args.places.now c.loop-i.places i few few_places c.loop-i.invariant.places)
    (put_first_joined (λ m. m.text.items) found c.args.texts.now c.loop-i.texts i c.loop-i.end c.loop-i.invariant.size c.loop-i.invariant.fits c.loop-i.invariant.buffer))
