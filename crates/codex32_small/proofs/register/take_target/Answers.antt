use Rattle.std.proofs.Common.{◌≡◌, ◌-◌, ◌<◌, ◌∙◌, ℕ, List, length, get_or, reverse, sym, ap, arith}
use Rattle.std.proofs.lemmas.List.{get_or-reverse, length-reverse, take_all}
use Rattle.bech32_gf.specs.Fe32 as fe32
use Rattle.bech32_gf.specs.declared.gf32.Fe32.{Fe32}
use Rattle.bech32_poly.specs.Division.{remainder_of, top}
use Rattle.bech32_poly.specs.Polynomial.{appended}
use Rattle.codex32_small.specs.Code.{code_of_kind}
use Rattle.codex32_small.proofs.Checksums.{length-target, remainder-more}
use Rattle.codex32_small.proofs.Rows.{length-stepped}
use Rattle.codex32_small.proofs.register.take_target.Goals as goal

pub loop-i-preserved : goal.loop-i-preserved
loop-i-preserved c =
    let low : List Fe32 = (code_of_kind c.args.kind).generator in
    let target : List Fe32 = (code_of_kind c.args.kind).target in
    let i : ℕ = c.loop-i.i in
    let rest : List Fe32 = c.loop-i.rest in
    let x : Fe32 = c.coefficient_at.result in
    let size : length rest ≡ length low = c.loop-i.invariant.size ∙ c.requires in
    let inside : i < length target = omega (arith, c.loop-i-test.true, size, length-target c.args.kind, c.loop-i.invariant.size) in
    let within : i < length (reverse target) = omega (arith, inside, length-reverse target) in
    let place : length rest - 1 - i ≡ length target - 1 - i = omega (arith, size, length-target c.args.kind) in
    let read : x ≡ get_or (reverse target) i fe32.zero =
    c.coefficient_at.ensures ∙ ap (λ (k : ℕ). get_or target k fe32.zero) place ∙ sym (get_or-reverse target i fe32.zero inside) in
    record {
      size = ap (λ (r : List Fe32). length r) c.take_in.ensures ∙ length-stepped (top x rest) x low rest (sym size) ∙ c.loop-i.invariant.size;
      so_far = λ p h. remainder-more c.args.kind p (reverse target) rest _ i x within read (c.loop-i.invariant.so_far p h) c.take_in.ensures;
    }

pub returns : goal.returns
returns c = λ p h.
    let low : List Fe32 = (code_of_kind c.args.kind).generator in
    let target : List Fe32 = (code_of_kind c.args.kind).target in
    let i : ℕ = c.loop-i.i in
    let size : length c.loop-i.rest ≡ length low = c.loop-i.invariant.size ∙ c.requires in
    c.loop-i.invariant.so_far p h
    ∙ ap (λ (l : List Fe32). remainder_of fe32.ops low (appended p l)) (take_all i (reverse target) (omega (arith, c.loop-i-test.false, length-reverse target, length-target c.args.kind, size)))
