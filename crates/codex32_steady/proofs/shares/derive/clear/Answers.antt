use Rattle.std.proofs.Common.{◌≡◌, ◌+◌, ◌<◌, ◌++◌, ◌∷◌, [], ℕ, suc, zero, List, length, take, arith, sym, ap, refl, ◌∙◌, set}
use Rattle.std.proofs.lemmas.List.{take_all}
use Rattle.bech32_gf.specs.Field.{Ops}
use Rattle.bech32_poly.specs.Division.{zeros}
use Rattle.codex32_steady.proofs.Written.{take_set, length-written}
use Rattle.codex32_steady.proofs.shares.derive.clear.Goals as goal

zeros_more : {F : Type 0} (o : Ops F) (n : ℕ) → zeros o n ++ (o.zero ∷ []) ≡ zeros o (suc n)
zeros_more o zero = refl
zeros_more o (suc n) = ap (λ u. o.zero ∷ u) (zeros_more o n)

one_more : {F : Type 0} (o : Ops F) (xs : List F) (x : F) (i : ℕ) → i < length xs → take i xs ≡ zeros o i → x ≡ o.zero → take (i + 1) (set xs i x) ≡ zeros o (i + 1)
one_more o xs x i within before e =
    let n : i + 1 ≡ suc i = omega arith in
    ap (λ k. take k (set xs i x)) n ∙ take_set xs i x within ∙ ap (λ u. u ++ (x ∷ [])) before ∙ ap (λ u. zeros o i ++ (u ∷ [])) e ∙ zeros_more o i ∙ ap (zeros o) (sym n)

pub loop-i-init : goal.loop-i-init
loop-i-init g c = record { size = refl; so_far = refl }

pub loop-i-preserved : goal.loop-i-preserved
loop-i-preserved g c = record {
  size = length-written c.loop-i.target c.loop-i.i c.zero.result ∙ c.loop-i.invariant.size;
  so_far = one_more g.F.Arithmetic.ops c.loop-i.target c.zero.result c.loop-i.i (omega (arith, c.loop-i.invariant.size)) c.loop-i.invariant.so_far c.zero.ensures;
}

pub returns : goal.returns
returns g c =
    let done : c.loop-i.i ≡ length c.args.target.now = omega arith in
    sym (take_all c.loop-i.i c.loop-i.target (omega (arith, c.loop-i.invariant.size))) ∙ c.loop-i.invariant.so_far ∙ ap (zeros g.F.Arithmetic.ops) done
