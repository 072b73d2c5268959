use Rattle.std.specs.Prelude.{◌/◌, flat_map, map}
use Rattle.std.proofs.Common.{◌≡◌, ◌<◌, ◌≤◌, ◌+◌, ◌*◌, ◌∙◌, ◌∷◌, [], ℕ, get_or, length, min, take, ap, refl, subst, arith}
use Rattle.std.proofs.lemmas.List.{get_or_default}
use Rattle.bech32_calls.proofs.Joined.{most_at, next_size, put_first_joined}
use Rattle.bech32_more_calls.specs.descriptor.TwoMends.{PutsEachTwo, places_of_two}
use Rattle.bech32_more_calls.proofs.Puts.{first_places, pair_more, text_more}
use Rattle.bech32_more_calls.proofs.TwoPuts.{most_of_two_rooms, most_of_two_texts, puts_each_two}
use Rattle.bech32_more_calls.proofs.descriptor.two_mends.put_each_two.Goals as goal

pub returns-in_default-clause-most : goal.returns-in_default-clause-most
returns-in_default-clause-most g c =
    let found = c.args.found.now in
    let i = c.loop-i.i in
    let less : i < length found = omega (arith, c.loop-i-test.true, c.min-most.ensures) in
    let few_places : 2 * i ≤ length c.args.places.now = omega (arith, c.loop-i-test.true, c.min-most.ensures) in
    let none = rw c.in_default.is at c.put_behind.ensures in
    most_of_two_texts (λ m. m.edits) (λ m. m.text.items) found (length c.args.places.now) (length c.args.texts.now) i few_places
    (most_at (λ m. m.text.items) found i c.index-found-i.result c.loop-i.end c.as_slice-text.result.now less c.as_slice-text.ensures.value c.loop-i.invariant.size
    (length c.args.texts.now) c.loop-i.invariant.fits (omega (arith, none.0, c.loop-i.auto.texts)))

pub returns-in_default-clause-put : goal.returns-in_default-clause-put
returns-in_default-clause-put g c =
    let found = c.args.found.now in
    let i = c.loop-i.i in
    let less : i < length found = omega (arith, c.loop-i-test.true, c.min-most.ensures) in
    let few_places : 2 * i ≤ length c.args.places.now = omega (arith, c.loop-i-test.true, c.min-most.ensures) in
    rw (rw c.in_default.is at c.put_behind.ensures).1
    (puts_each_two (λ m. m.edits) (λ m. m.text.items) found c.args.places.now c.loop-i.places c.args.texts.now c.loop-i.texts i
    (first_places (λ m. places_of_two m.edits) (λ m. refl) found c.args.places.now c.loop-i.places i (omega (arith, less)) few_places c.loop-i.invariant.places)
    (put_first_joined (λ m. m.text.items) found c.args.texts.now c.loop-i.texts i c.loop-i.end c.loop-i.invariant.size c.loop-i.invariant.fits c.loop-i.invariant.buffer))

pub loop-i-preserved : goal.loop-i-preserved
loop-i-preserved g c =
    let found = c.args.found.now in
    let i = c.loop-i.i in
    let less : i < length found = omega (arith, c.loop-i-test.true, c.min-most.ensures) in
    let less_places : 2 * i + 1 < length c.args.places.now = omega (arith, c.loop-i-test.true, c.min-most.ensures) in
    let d = c.index-found-i-in-loop-i.result in
    let put = rw c.in-Some.is at c.put_behind.ensures in
    record {
      size = put.0 ∙ next_size (λ m. m.text.items) found i c.index-found-i.result c.loop-i.end c.as_slice-text.result.now less c.as_slice-text.ensures.value c.loop-i.invariant.size;
      fits = omega (arith, put.1, c.loop-i.auto.texts);
      places = pair_more (λ m. places_of_two m.edits) (λ m. refl) found c.args.places.now c.loop-i.places i (get_or found i d).edits.first.place (get_or found i d).edits.second.place d
          less less_places c.loop-i.invariant.places refl;
      buffer = text_more (λ m. m.text.items) found c.args.texts.now c.loop-i.texts c.put_behind.new.texts c.as_slice-text.result.now i c.loop-i.end c.in-Some.next c.index-found-i.result
          less c.as_slice-text.ensures.value c.loop-i.invariant.size c.loop-i.invariant.buffer put.0 put.2;
    }

pub returns-clause-most : goal.returns-clause-most
returns-clause-most g c =
    let found = c.args.found.now in
    let at : c.loop-i.i ≡ c.min-most.result = omega (arith, c.loop-i-test.false, c.loop-i.auto.i-end) in
    let few : c.min-most.result ≤ length found = omega (arith, c.min-most.ensures) in
    let few_places : 2 * c.min-most.result ≤ length c.args.places.now = omega (arith, c.min-most.ensures) in
    most_of_two_rooms (λ m. m.edits) (λ m. m.text.items) found (length c.args.places.now) (length c.args.texts.now) c.min-most.result few few_places
    (λ less. omega (arith, less, c.min-most.ensures))
    (subst (λ (k : ℕ). length (flat_map (λ m. m.text.items) (take k found)) ≤ length c.args.texts.now) at (omega (arith, c.loop-i.invariant.size, c.loop-i.invariant.fits)))

pub returns-clause-put : goal.returns-clause-put
returns-clause-put g c =
    let found = c.args.found.now in
    let i = c.loop-i.i in
    let at : i ≡ c.min-most.result = omega (arith, c.loop-i-test.false, c.loop-i.auto.i-end) in
    let few : i ≤ length found = omega (arith, at, c.min-most.ensures) in
    let few_places : 2 * i ≤ length c.args.places.now = omega (arith, at, c.min-most.ensures) in
    subst (λ (k : ℕ). PutsEachTwo (take k (map (λ m. (m.edits, m.text.items)) found)) c.args.places.now c.loop-i.places c.args.texts.now c.loop-i.texts) at
    (puts_each_two (λ m. m.edits) (λ m. m.text.items) found c.args.places.now c.loop-i.places c.args.texts.now c.loop-i.texts i
    (first_places (λ m. places_of_two m.edits) (λ m. refl) found c.args.places.now c.loop-i.places i few few_places c.loop-i.invariant.places)
    (put_first_joined (λ m. m.text.items) found c.args.texts.now c.loop-i.texts i c.loop-i.end c.loop-i.invariant.size c.loop-i.invariant.fits c.loop-i.invariant.buffer))
