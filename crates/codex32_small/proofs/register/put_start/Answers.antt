use Rattle.std.proofs.Common.{◌≡◌, ◌+◌, ◌<◌, ◌≤◌, ◌++◌, ◌∷◌, ◌∙◌, [], ℕ, List, suc, length, take, set, get_or, ap, sym, arith}
use Rattle.std.proofs.Math.ListN.{get_or-map}
use Rattle.std.proofs.lemmas.List.{take_all, take_more}
use Rattle.bech32_gf.specs.Fe32 as fe32
use Rattle.bech32_gf.specs.declared.gf32.Fe32.{Fe32}
use Rattle.codex32_steady.proofs.Written.{length-written, take_set}
use Rattle.codex32_small.specs.declared.register.TheConstants.{START}
use Rattle.codex32_small.proofs.Checksums.{degree-most, start, started}
use Rattle.codex32_small.proofs.register.put_start.Goals as goal

pub loop-i-preserved : goal.loop-i-preserved
loop-i-preserved c =
    let i : ℕ = c.loop-i.i in
    let rest = c.loop-i.rest in
    let x : Fe32 = c.from_low_bits.result in
    let few = degree-most c.args.kind in
    let within : i < length started = omega (arith, c.loop-i-test.true, c.loop-i.invariant.size, c.requires, few) in
    let here : i < length rest = omega (arith, c.loop-i-test.true) in
    let e : i + 1 ≡ suc i = omega arith in
    let is : x ≡ get_or started i fe32.zero = c.from_low_bits.ensures ∙ sym (get_or-map fe32.element START i 0) in
    record {
      size = length-written rest i x ∙ c.loop-i.invariant.size;
      so_far =
          ap (λ (k : ℕ). take k (set rest i x)) e
          ∙ take_set rest i x here
          ∙ ap (λ (u : List Fe32). u ++ (x ∷ [])) c.loop-i.invariant.so_far
          ∙ ap (λ (y : Fe32). take i started ++ (y ∷ [])) is
          ∙ sym (take_more started i fe32.zero within);
    }

pub returns : goal.returns
returns c =
    let i : ℕ = c.loop-i.i in
    let all : length c.loop-i.rest ≤ i = omega (arith, c.loop-i-test.false) in
    let n : ℕ = length c.loop-i.rest in
    let ends : i ≡ n = omega (arith, c.loop-i-test.false, c.loop-i.auto.i-end) in
    sym (take_all i c.loop-i.rest all) ∙ c.loop-i.invariant.so_far ∙ ap (λ (k : ℕ). take k started) ends ∙ start c.args.kind n (c.loop-i.invariant.size ∙ c.requires)
