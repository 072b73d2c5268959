use Rattle.std.specs.Prelude.{true, false}
use Rattle.std.proofs.Common.{◌≡◌, ◌≤◌, ◌+◌, ◌-◌, ℕ, List, length, take, refl, Option, Some, None, Result, Ok, Err, IfOk, IfSome, ap, ◌∙◌, arith}
use Rattle.std.proofs.lemmas.List.{length-take-le}
use Rattle.bech32_bch.specs.Search.{AreErrorLocations, roots_below}
use Rattle.bech32_bch.proofs.Located.{half_enough, located_or_none, may_be_located, prepared}
use Rattle.bech32_bch.proofs.locations.error_locations.Goals as goal

refused : {P : Type 0} → false ≡ true → P
refused h = absurd (cc h)

map_ok : {T E : Type 0} (r : Result T E) (P Q : T → Type 0) → ((t : T) → P t → Q t) → IfOk r P → IfOk r Q
map_ok (Ok t) P Q f h = f t h
map_ok (Err e) P Q f h = h

pub overflow_sub-degree : goal.overflow_sub-degree
overflow_sub-degree g c = omega (arith, c.len-degree.ensures, c.in_ok-register.ensures.register.1.1.generates.degree)

pub returns-then-room-degree-clause-found : goal.returns-then-room-degree-clause-found
returns-then-room-degree-clause-found g c = λ start e h.
    let l = g.met.K.Arithmetic.laws in
    let eq = g.K.Arithmetic.same in
    let tells = g.met.K.Arithmetic.same_law in
    let s = c.args.erasures.now in
    let items = c.args.syndromes.now in
    let made = c.in_ok-register.ensures.register in
    let r = c.in_ok-register.register in
    let room : ℕ = c.len.result - c.len-2.result in
    let degree : ℕ = c.len-degree.result - 1 in
    let steps = prepared l eq tells c.args.base c.args.window s items c.as_slice.result.now c.args.known.now c.as_slice-2.result.now made.0 made.0 r r room degree c.len.result c.len-degree.result
    c.requires.order c.requires.erased c.requires.known c.requires.room c.as_slice.ensures c.as_slice-2.ensures made.1.0 refl c.len.ensures (ap (λ k. c.len.result - k) c.len-2.ensures)
    made.1.1 refl c.len-degree.ensures refl in
    absurd (omega (arith, c.if-room-degree.true, half_enough l eq tells c.args.base c.args.window s items made.0 r room degree steps start e h))

pub returns-clause-found : goal.returns-clause-found
returns-clause-found g c =
    let l = g.met.K.Arithmetic.laws in
    let eq = g.K.Arithmetic.same in
    let tells = g.met.K.Arithmetic.same_law in
    let s = c.args.erasures.now in
    let items = c.args.syndromes.now in
    let made = c.in_ok-register.ensures.register in
    let r = c.in_ok-register.register in
    let room : ℕ = c.len.result - c.len-2.result in
    let degree : ℕ = c.len-degree.result - 1 in
    let steps = prepared l eq tells c.args.base c.args.window s items c.as_slice.result.now c.args.known.now c.as_slice-2.result.now made.0 made.0 r r room degree c.len.result c.len-degree.result
    c.requires.order c.requires.erased c.requires.known c.requires.room c.as_slice.ensures c.as_slice-2.ensures made.1.0 refl c.len.ensures (ap (λ k. c.len.result - k) c.len-2.ensures)
    made.1.1 refl c.len-degree.ensures refl in
    map_ok c.locations_of.result _ _ (λ answer found start e h.
    located_or_none l eq tells c.args.base c.args.window s items made.0 r room degree steps start e h answer (found (take degree (roots_below g.K.Arithmetic.ops eq r c.args.base c.args.window)) refl)) c.locations_of.ensures.located

pub returns-clause-listed : goal.returns-clause-listed
returns-clause-listed g c =
    let l = g.met.K.Arithmetic.laws in
    let eq = g.K.Arithmetic.same in
    let tells = g.met.K.Arithmetic.same_law in
    let s = c.args.erasures.now in
    let items = c.args.syndromes.now in
    let made = c.in_ok-register.ensures.register in
    let r = c.in_ok-register.register in
    let room : ℕ = c.len.result - c.len-2.result in
    let degree : ℕ = c.len-degree.result - 1 in
    let steps = prepared l eq tells c.args.base c.args.window s items c.as_slice.result.now c.args.known.now c.as_slice-2.result.now made.0 made.0 r r room degree c.len.result c.len-degree.result
    c.requires.order c.requires.erased c.requires.known c.requires.room c.as_slice.ensures c.as_slice-2.ensures made.1.0 refl c.len.ensures (ap (λ k. c.len.result - k) c.len-2.ensures)
    made.1.1 refl c.len-degree.ensures refl in
    map_ok c.locations_of.result _ _ (λ answer found.
    may_be_located l eq tells c.args.base c.args.window s items made.0 r room degree steps (omega (arith, c.if-room-degree.false)) answer (found (take degree (roots_below g.K.Arithmetic.ops eq r c.args.base c.args.window)) refl)) c.locations_of.ensures.located

pub returns-in_err-register-clause-in_place : goal.returns-in_err-register-clause-in_place
returns-in_err-register-clause-in_place g c = λ few. refused (c.in_err-register.ensures.in_place (omega (arith, few, ap (λ u. length u) c.as_slice.ensures)))

pub returns-clause-in_place : goal.returns-clause-in_place
returns-clause-in_place g c = λ few.
    let made = c.in_ok-register.ensures.register in
    let room : ℕ = c.len.result - c.len-2.result in
    let size : length made.0 ≡ length c.args.syndromes.now = made.1.0.size ∙ ap (λ u. length u) c.as_slice.ensures in
    let taken = length-take-le room made.0 (omega (arith, size, c.len.ensures)) in
    let short = made.1.1 in
    c.locations_of.ensures.in_place (omega (arith, taken, few, c.len.ensures, short.generates.degree, short.within)) (omega (arith, taken, few, c.len.ensures, c.len-degree.ensures, short.generates.degree, short.within))

few : {E : Type 0} (r : Result (Option (List ℕ)) E) (w n : ℕ) (s : List ℕ) → IfOk r (λ answer. IfSome answer (λ found. AreErrorLocations w s n found)) → IfOk r (λ answer. IfSome answer (λ found. length s + length found ≤ n))
few (Ok (Some found)) w n s h = omega (arith, h.few)
few (Ok None) w n s h = h
few (Err e) w n s h = h

pub returns-clause-few : goal.returns-clause-few
returns-clause-few g c = few c.locations_of.result c.args.window (length c.args.syndromes.now) c.args.erasures.now (returns-clause-listed g c)
