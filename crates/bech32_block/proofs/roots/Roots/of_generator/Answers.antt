use Rattle.std.specs.List.{All}
use Rattle.std.specs.List.Sorted.{IsStrictlyIncreasing}
use Rattle.std.proofs.Common.{◌≡◌, ◌<◌, ◌≤◌, ◌^◌, length, refl, sym, ap, subst, ◌∙◌, arith, rules}
use Rattle.bech32_gf.specs.Field.{power}
use Rattle.bech32_gf.specs.Fe32 as fe32
use Rattle.bech32_poly.specs.Embedding.{Embeds}
use Rattle.bech32_block.specs.Series.{IsLongestSeries}
use Rattle.bech32_block.specs.Roots.{RootField}
use Rattle.bech32_block.proofs.Found.{rise, are_below, wanting, all_there, none, constants, lawful_roots, last_fits, some_roots}
use Rattle.bech32_checksum.specs.laws.LocatorLaws.{embeds}
use Rattle.bech32_block.proofs.roots.Roots.of_generator.Goals as goal

pub longest_series-series-requires-clause-order_fits : goal.longest_series-series-requires-clause-order_fits
longest_series-series-requires-clause-order_fits g c =
    subst (λ m. m < 2 ^ 63) (sym c.MULTIPLICATIVE_ORDER-order.ensures) g.met.E.Field.fits_law.1.below

pub longest_series-series-requires-clause-rising : goal.longest_series-series-requires-clause-rising
longest_series-series-requires-clause-rising g c =
    let f : RootField _ = record { ops = g.E.Arithmetic.ops; same = g.E.PartialEq.eq; embed = g.E.Extension.embed; generator = g.E.Field.GENERATOR; order = g.E.Field.MULTIPLICATIVE_ORDER } in
    let same = c.in_ok-roots.ensures in
    let is = c.MULTIPLICATIVE_ORDER-order.ensures in
    subst IsStrictlyIncreasing (sym c.deref.ensures.value) (rise f c.args.generator.now c.in_ok-roots.roots.items same c.MULTIPLICATIVE_ORDER-order.result is)

pub longest_series-series-requires-clause-below : goal.longest_series-series-requires-clause-below
longest_series-series-requires-clause-below g c =
    let f : RootField _ = record { ops = g.E.Arithmetic.ops; same = g.E.PartialEq.eq; embed = g.E.Extension.embed; generator = g.E.Field.GENERATOR; order = g.E.Field.MULTIPLICATIVE_ORDER } in
    let same = c.in_ok-roots.ensures in
    let is = c.MULTIPLICATIVE_ORDER-order.ensures in
    subst (All (λ i. i < c.MULTIPLICATIVE_ORDER-order.result)) (sym c.deref.ensures.value) (are_below f c.args.generator.now c.in_ok-roots.roots.items same c.MULTIPLICATIVE_ORDER-order.result is)

pub least_power-requires-clause-order_fits : goal.least_power-requires-clause-order_fits
least_power-requires-clause-order_fits g c =
    subst (λ m. m < 2 ^ 63) (sym c.MULTIPLICATIVE_ORDER-order.ensures) g.met.E.Field.fits_law.1.below

pub least_power-requires-clause-step_below : goal.least_power-requires-clause-step_below
least_power-requires-clause-step_below g c =
    c.longest_series-series.ensures.series.step_below

pub period-requires-clause-order_fits : goal.period-requires-clause-order_fits
period-requires-clause-order_fits g c =
    subst (λ m. m < 2 ^ 63) (sym c.MULTIPLICATIVE_ORDER-order.ensures) g.met.E.Field.fits_law.1.below

pub period-requires-clause-step_below : goal.period-requires-clause-step_below
period-requires-clause-step_below g c =
    c.longest_series-series.ensures.series.step_below

pub returns-then-len-generator-clause-refused : goal.returns-then-len-generator-clause-refused
returns-then-len-generator-clause-refused g c =
    let f : RootField _ = record { ops = g.E.Arithmetic.ops; same = g.E.PartialEq.eq; embed = g.E.Extension.embed; generator = g.E.Field.GENERATOR; order = g.E.Field.MULTIPLICATIVE_ORDER } in
    let same = c.in_ok-roots.ensures in
    let is = c.MULTIPLICATIVE_ORDER-order.ensures in
    (omega (arith, c.requires.some), wanting f c.args.generator.now c.in_ok-roots.roots.items same c.MULTIPLICATIVE_ORDER-order.result is (search rules))

pub returns-in-None-clause-refused : goal.returns-in-None-clause-refused
returns-in-None-clause-refused g c =
    let f : RootField _ = record { ops = g.E.Arithmetic.ops; same = g.E.PartialEq.eq; embed = g.E.Extension.embed; generator = g.E.Field.GENERATOR; order = g.E.Field.MULTIPLICATIVE_ORDER } in
    let same = c.in_ok-roots.ensures in
    let is = c.MULTIPLICATIVE_ORDER-order.ensures in
    let s : IsLongestSeries c.MULTIPLICATIVE_ORDER-order.result c.in_ok-roots.roots.items c.longest_series-series.result.first c.longest_series-series.result.step c.longest_series-series.result.length = subst (λ xs. IsLongestSeries c.MULTIPLICATIVE_ORDER-order.result xs c.longest_series-series.result.first c.longest_series-series.result.step c.longest_series-series.result.length) c.deref.ensures.value c.longest_series-series.ensures in
    let l = g.met.E.Arithmetic.laws in
    let ord = g.met.E.Field.generator_law in
    let size : length c.in_ok-roots.roots.items ≡ length c.args.generator.now = search rules in
    (omega (arith, c.requires.some), all_there f c.args.generator.now c.in_ok-roots.roots.items same c.MULTIPLICATIVE_ORDER-order.result is size, none f c.args.generator.now c.in_ok-roots.roots.items same c.MULTIPLICATIVE_ORDER-order.result is l c.longest_series-series.result.first c.longest_series-series.result.step c.longest_series-series.result.length ord s (rw c.in-None.is at c.least_power.ensures.least))

pub overflow_sub-result : goal.overflow_sub-result
overflow_sub-result g c =
    let f : RootField _ = record { ops = g.E.Arithmetic.ops; same = g.E.PartialEq.eq; embed = g.E.Extension.embed; generator = g.E.Field.GENERATOR; order = g.E.Field.MULTIPLICATIVE_ORDER } in
    let same = c.in_ok-roots.ensures in
    let is = c.MULTIPLICATIVE_ORDER-order.ensures in
    let s : IsLongestSeries c.MULTIPLICATIVE_ORDER-order.result c.in_ok-roots.roots.items c.longest_series-series.result.first c.longest_series-series.result.step c.longest_series-series.result.length = subst (λ xs. IsLongestSeries c.MULTIPLICATIVE_ORDER-order.result xs c.longest_series-series.result.first c.longest_series-series.result.step c.longest_series-series.result.length) c.deref.ensures.value c.longest_series-series.ensures in
    let size : length c.in_ok-roots.roots.items ≡ length c.args.generator.now = search rules in
    let two : 2 ≤ length c.in_ok-roots.roots.items = omega (arith, size, c.requires.some) in
    omega (arith, some_roots f c.args.generator.now c.in_ok-roots.roots.items same c.MULTIPLICATIVE_ORDER-order.result is c.longest_series-series.result.first c.longest_series-series.result.step c.longest_series-series.result.length two s)

pub overflow_add-result : goal.overflow_add-result
overflow_add-result g c =
    let f : RootField _ = record { ops = g.E.Arithmetic.ops; same = g.E.PartialEq.eq; embed = g.E.Extension.embed; generator = g.E.Field.GENERATOR; order = g.E.Field.MULTIPLICATIVE_ORDER } in
    let same = c.in_ok-roots.ensures in
    let is = c.MULTIPLICATIVE_ORDER-order.ensures in
    let s : IsLongestSeries c.MULTIPLICATIVE_ORDER-order.result c.in_ok-roots.roots.items c.longest_series-series.result.first c.longest_series-series.result.step c.longest_series-series.result.length = subst (λ xs. IsLongestSeries c.MULTIPLICATIVE_ORDER-order.result xs c.longest_series-series.result.first c.longest_series-series.result.step c.longest_series-series.result.length) c.deref.ensures.value c.longest_series-series.ensures in
    let fits = last_fits f c.args.generator.now c.in_ok-roots.roots.items same c.MULTIPLICATIVE_ORDER-order.result is c.longest_series-series.result.first c.longest_series-series.result.step c.longest_series-series.result.length c.in-Some.start (subst (λ m. m < 2 ^ 63) (sym c.MULTIPLICATIVE_ORDER-order.ensures) g.met.E.Field.fits_law.1.below) (rw c.in-Some.is at c.least_power.ensures.below) s in
    omega (arith, fits)

pub returns-clause-split : goal.returns-clause-split
returns-clause-split g c =
    let f : RootField _ = record { ops = g.E.Arithmetic.ops; same = g.E.PartialEq.eq; embed = g.E.Extension.embed; generator = g.E.Field.GENERATOR; order = g.E.Field.MULTIPLICATIVE_ORDER } in
    let same = c.in_ok-roots.ensures in
    let is = c.MULTIPLICATIVE_ORDER-order.ensures in
    all_there f c.args.generator.now c.in_ok-roots.roots.items same c.MULTIPLICATIVE_ORDER-order.result is (search rules)

pub returns-clause-series : goal.returns-clause-series
returns-clause-series g c =
    let f : RootField _ = record { ops = g.E.Arithmetic.ops; same = g.E.PartialEq.eq; embed = g.E.Extension.embed; generator = g.E.Field.GENERATOR; order = g.E.Field.MULTIPLICATIVE_ORDER } in
    let same = c.in_ok-roots.ensures in
    let is = c.MULTIPLICATIVE_ORDER-order.ensures in
    let s : IsLongestSeries c.MULTIPLICATIVE_ORDER-order.result c.in_ok-roots.roots.items c.longest_series-series.result.first c.longest_series-series.result.step c.longest_series-series.result.length = subst (λ xs. IsLongestSeries c.MULTIPLICATIVE_ORDER-order.result xs c.longest_series-series.result.first c.longest_series-series.result.step c.longest_series-series.result.length) c.deref.ensures.value c.longest_series-series.ensures in
    let l = g.met.E.Arithmetic.laws in
    let ord = g.met.E.Field.generator_law in
    constants f c.args.generator.now c.in_ok-roots.roots.items same c.MULTIPLICATIVE_ORDER-order.result is l c.longest_series-series.result.first c.longest_series-series.result.step c.longest_series-series.result.length c.in-Some.start _ c.period.result c.power.result ord (c.power.ensures ∙ ap (λ x. power f.ops x c.longest_series-series.result.step) c.GENERATOR.ensures) refl s (rw c.in-Some.is at c.least_power.ensures.least) c.period.ensures

pub returns-clause-lawful : goal.returns-clause-lawful
returns-clause-lawful g c =
    let f : RootField _ = record { ops = g.E.Arithmetic.ops; same = g.E.PartialEq.eq; embed = g.E.Extension.embed; generator = g.E.Field.GENERATOR; order = g.E.Field.MULTIPLICATIVE_ORDER } in
    let same = c.in_ok-roots.ensures in
    let is = c.MULTIPLICATIVE_ORDER-order.ensures in
    let s : IsLongestSeries c.MULTIPLICATIVE_ORDER-order.result c.in_ok-roots.roots.items c.longest_series-series.result.first c.longest_series-series.result.step c.longest_series-series.result.length = subst (λ xs. IsLongestSeries c.MULTIPLICATIVE_ORDER-order.result xs c.longest_series-series.result.first c.longest_series-series.result.step c.longest_series-series.result.length) c.deref.ensures.value c.longest_series-series.ensures in
    let l = g.met.E.Arithmetic.laws in
    let ord = g.met.E.Field.generator_law in
    let embedded : g.E.Extension.base_ops ≡ fe32.ops = g.met.E.ExtensionField.base_law in
    let into : Embeds fe32.ops f.ops f.embed = embeds g.E.Extension.base_ops fe32.ops f.ops f.embed embedded g.met.E.Extension.embed_one_law g.met.E.Extension.embed_add_law g.met.E.Extension.embed_mul_law in
    let size : length c.in_ok-roots.roots.items ≡ length c.args.generator.now = search rules in
    let two : 2 ≤ length c.in_ok-roots.roots.items = omega (arith, size, c.requires.some) in
    λ target. lawful_roots f c.args.generator.now c.in_ok-roots.roots.items same c.MULTIPLICATIVE_ORDER-order.result is l into g.met.E.Field.eq_law c.longest_series-series.result.first c.longest_series-series.result.step c.longest_series-series.result.length c.in-Some.start _ c.period.result c.power.result target ord two (c.power.ensures ∙ ap (λ x. power f.ops x c.longest_series-series.result.step) c.GENERATOR.ensures) refl s (rw c.in-Some.is at c.least_power.ensures.least) c.period.ensures

pub longest_series-series-requires-clause-two : goal.longest_series-series-requires-clause-two
longest_series-series-requires-clause-two g c =
    let size : length c.in_ok-roots.roots.items ≡ length c.args.generator.now = search rules in
    subst (λ xs. 2 ≤ length xs) (sym c.deref.ensures.value) (omega (arith, size, c.requires.some))
