use Rattle.std.proofs.Common.{◌≡◌, ◌+◌, ◌++◌, ◌^◌, ℕ, List, suc, min, sym, ap, ◌∙◌, arith}
use Rattle.std.proofs.lemmas.Nat.{one_shl}
use Rattle.bech32_gf.specs.Fe32 as fe32
use Rattle.bech32_gf.specs.declared.gf32.Fe32.{Fe32}
use Rattle.bech32_checksum.specs.Packed.{tabulate}
use Rattle.bech32_near.specs.search.Sketch.{sketch_at}
use Rattle.bech32_near.proofs.Entries.{columns_are, columns_up_to}
use Rattle.bech32_near.proofs.search.terms.columns_of.Goals as goal

pub loop-i-preserved : goal.loop-i-preserved
loop-i-preserved g c =
    let size : ℕ = min g.Ck.Checksum.CHECKSUM_LENGTH 12 in
    let rows = c.args.rows.now in
    let code = g.Ck.Checksum.code in
    let i : ℕ = c.loop-i.i in
    let f : ℕ → ℕ → ℕ = λ i location. sketch_at rows size code.generator location (fe32.element (2 ^ i)) in
    let next : i + 1 ≡ suc i = omega arith in
    let value : c.from_low_bits-value.result ≡ fe32.element (2 ^ i) = c.from_low_bits-value.ensures ∙ ap fe32.element (one_shl i 8 (omega arith)) in
    c.in_ok-push_column.ensures
    ∙ ap (λ (u : List ℕ). u ++ tabulate c.args.window (λ location. sketch_at rows size code.generator location c.from_low_bits-value.result)) c.loop-i.invariant
    ∙ ap (λ (v : Fe32). columns_up_to f c.args.window i ++ tabulate c.args.window (λ location. sketch_at rows size code.generator location v)) value
    ∙ sym (ap (columns_up_to f c.args.window) next)

pub returns : goal.returns
returns g c =
    let end : c.loop-i.i ≡ 5 = omega arith in
    columns_are c.args.rows.now (min g.Ck.Checksum.CHECKSUM_LENGTH 12) g.Ck.Checksum.code.generator c.args.window c.loop-i.columns.items
    (c.loop-i.invariant ∙ ap (columns_up_to (λ i location. sketch_at c.args.rows.now (min g.Ck.Checksum.CHECKSUM_LENGTH 12) g.Ck.Checksum.code.generator location (fe32.element (2 ^ i))) c.args.window) end)
