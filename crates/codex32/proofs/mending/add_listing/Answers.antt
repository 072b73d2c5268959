use Rattle.std.specs.List.{AllByRecursion}
use Rattle.std.proofs.Common.{◌≡◌, ◌+◌, ◌-◌, ◌<◌, [], ◌∷◌, ℕ, List, length, take, set, get_or, refl, sym, ap, subst, arith, ◌∙◌}
use Rattle.std.proofs.lemmas.List.{get_or_default}
use Rattle.bech32_gf.specs.Fe32 as fe32
use Rattle.bech32_gf.specs.Fe32.{ops}
use Rattle.bech32_gf.specs.declared.gf32.Fe32.{Fe32}
use Rattle.bech32_gf.specs.laws.Fe32Laws.{is_field}
use Rattle.bech32_correction.specs.MendedElements.{mended}
use Rattle.bech32_correction.proofs.Sums.{length-mended}
use Rattle.bech32_correction.proofs.Values.{all_at, mended-more, mended-none, mended-one}
use Rattle.codex32.proofs.mending.add_listing.Goals as goal

pub loop-item-init : goal.loop-item-init
loop-item-init c = sym (mended-none is_field c.args.elements.now)

-- the location of a listed value is that of an element
here : (listing : List (ℕ × Fe32)) (n : ℕ) (elements now : List Fe32) (d : ℕ × Fe32) → n < length listing → now ≡ mended ops (take n listing) elements
    → AllByRecursion (λ (p : ℕ × Fe32). p.0 < length elements) listing → (get_or listing n d).0 < length now
here listing n elements now d less is inside =
    let at : (get_or listing n d).0 < length elements = all_at (λ (q : ℕ × Fe32). q.0 < length elements) listing n d less inside in
    let size : length now ≡ length elements = ap length is ∙ length-mended ops (take n listing) elements in
    omega (arith, at, size)

-- it is added
more : (listing : List (ℕ × Fe32)) (n : ℕ) (elements now : List Fe32) (d item : ℕ × Fe32) (place : ℕ) (x : Fe32) → n < length listing → now ≡ mended ops (take n listing) elements
    → item ≡ get_or listing n d → item.0 < length now → place ≡ length now - 1 - item.0 → x ≡ fe32.add (get_or now place item.1) item.1
    → set now place x ≡ mended ops (take (n + 1) listing) elements
more listing n elements now d item place x less is at inside place_is x_is =
    ap (set now place) x_is
    ∙ sym (mended-one is_field item.0 item.1 now place (omega (arith, inside, place_is)))
    ∙ ap (λ (xs : List Fe32). mended ops (item ∷ []) xs) is
    ∙ ap (λ (p : ℕ × Fe32). mended ops (p ∷ []) (mended ops (take n listing) elements)) at
    ∙ sym (mended-more listing n d elements less)

pub loop-item-preserved : goal.loop-item-preserved
loop-item-preserved c =
    let listing = c.args.listing.now in
    let n : ℕ = c.loop-item.item-index in
    let now : List Fe32 = c.loop-item.elements in
    let item : ℕ × Fe32 = c.item-item.result in
    let place : ℕ = length c.loop-item.elements - 1 - c.item-item.result.0 in
    let less : n < length listing = omega (arith, c.loop-item-test.true) in
    let inside : item.0 < length now =
    subst (λ (q : ℕ × Fe32). q.0 < length now) (sym c.item-item.is) (here listing n c.args.elements.now now item less c.loop-item.invariant c.requires) in
    let below : place < length now = omega (arith, inside) in
    let x_is : c.add.result ≡ fe32.add (get_or now place item.1) item.1 =
    c.add.ensures ∙ ap (λ (y : Fe32). fe32.add y item.1) (c.index-elements-place.is ∙ get_or_default now place c.index-elements-place.result item.1 below) in
    more listing n c.args.elements.now now item item place c.add.result less c.loop-item.invariant c.item-item.is inside refl x_is
