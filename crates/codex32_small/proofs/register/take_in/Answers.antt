use Rattle.std.proofs.Common.{◌≡◌, ◌+◌, ◌<◌, ◌++◌, ◌∙◌, ℕ, List, suc, length, take, drop, set, get_or, ap, sym, arith}
use Rattle.bech32_gf.specs.Fe32 as fe32
use Rattle.bech32_gf.specs.declared.gf32.Fe32.{Fe32}
use Rattle.bech32_gf.specs.laws.Fe32Laws.{is_field}
use Rattle.bech32_poly.specs.Division.{step, top}
use Rattle.bech32_poly.proofs.Below.{out_next}
use Rattle.codex32_small.specs.Code.{code_of_kind}
use Rattle.codex32_small.proofs.Checksums.{degree-least}
use Rattle.codex32_small.proofs.Rows.{all_set, last_out, left_at, length-stepped, set_next, stepped_at}
use Rattle.codex32_small.proofs.register.take_in.Goals as goal

pub loop-i-preserved : goal.loop-i-preserved
loop-i-preserved c =
    let low : List Fe32 = (code_of_kind c.args.kind).generator in
    let old : List Fe32 = c.args.rest.now in
    let next : Fe32 = c.args.next in
    let i : ℕ = c.loop-i.i in
    let new : List Fe32 = step fe32.ops low old next in
    let f : Fe32 = top next old in
    let least = degree-least c.args.kind in
    let size : length low ≡ length old = sym c.requires in
    let long : length new ≡ length old = length-stepped f next low old size in
    let within : i < length old = omega (arith, c.loop-i-test.true) in
    let e : i + 1 ≡ suc i = omega arith in
    let is_top : c.index-rest-rest.result ≡ f =
    c.index-rest-rest.is ∙ last_out next c.index-rest-rest.result old (length old) (omega arith) (omega (arith, least, size)) in
    let scaled : c.product.result ≡ fe32.mul f (get_or low i fe32.zero) =
    c.product.ensures ∙ is_field.mul_comm c.coefficient_at.result c.index-rest-rest.result ∙ ap (λ (x : Fe32). fe32.mul x c.coefficient_at.result) is_top ∙ ap (fe32.mul f) c.coefficient_at.ensures in
    let put : c.add.result ≡ get_or new i fe32.zero =
    c.add.ensures ∙ ap (λ (x : Fe32). fe32.add x c.product.result) c.loop-i.invariant.out ∙ ap (fe32.add (top next (take i old))) scaled ∙ sym (stepped_at f next low old i size within) in
    record {
      moved =
          ap (λ (u : List Fe32). set u i c.add.result) c.loop-i.invariant.moved
          ∙ set_next new old i c.add.result fe32.zero long within put
          ∙ ap (λ (k : ℕ). take k new ++ drop k old) (sym e);
      out =
          c.index-rest-i.is
          ∙ ap (λ (u : List Fe32). get_or u i c.index-rest-i.result) c.loop-i.invariant.moved
          ∙ left_at new old i c.index-rest-i.result long within
          ∙ sym (out_next next c.index-rest-i.result old i within)
          ∙ ap (λ (k : ℕ). top next (take k old)) (sym e);
    }

pub returns : goal.returns
returns c =
    let low : List Fe32 = (code_of_kind c.args.kind).generator in
    let old : List Fe32 = c.args.rest.now in
    let new : List Fe32 = step fe32.ops low old c.args.next in
    let long : length new ≡ length old = length-stepped (top c.args.next old) c.args.next low old (sym c.requires) in
    c.loop-i.invariant.moved ∙ all_set new old c.loop-i.i long (omega (arith, c.loop-i-test.false))
