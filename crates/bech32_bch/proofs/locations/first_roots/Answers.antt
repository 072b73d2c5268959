use Rattle.std.proofs.Common.{◌≡◌, ◌≤◌, ◌<◌, ℕ, List, length, take, arith, ap, ◌∙◌}
use Rattle.std.proofs.Math.Decide.{dec_lt}
use Rattle.std.proofs.lemmas.List.{length-take-le, take_all}
use Rattle.bech32_bch.specs.Search.{roots_below}
use Rattle.bech32_bch.proofs.locations.first_roots.Goals as goal

few_taken : (n : ℕ) (xs : List ℕ) → length (take n xs) < n → length xs < n
few_taken n xs h = elim (dec_lt (length xs) n) [ yes k ↦ k | no k ↦ absurd (omega (arith, h, length-take-le n xs (omega (arith, k)))) ]

all_taken : (n : ℕ) (xs : List ℕ) → n ≤ length (take n xs) → length (take n xs) ≡ n
all_taken n xs h = elim (dec_lt (length xs) n) [
  | yes k ↦ absurd (omega (arith, h, k, ap (λ u. length u) (take_all n xs (omega (arith, k)))))
  | no k ↦ length-take-le n xs (omega (arith, k))
]

pub returns-then-len-degree-clause-roots : goal.returns-then-len-degree-clause-roots
returns-then-len-degree-clause-roots g c =
    let roots = roots_below g.K.Arithmetic.ops g.K.Arithmetic.same c.args.register.now c.args.base c.args.window in
    few_taken c.args.degree roots (omega (arith, c.if-len-degree.true, c.len.ensures, ap (λ u. length u) c.in_ok-find_roots.ensures.roots))

pub returns-clause-roots : goal.returns-clause-roots
returns-clause-roots g c =
    let roots = roots_below g.K.Arithmetic.ops g.K.Arithmetic.same c.args.register.now c.args.base c.args.window in
    let size = ap (λ u. length u) c.in_ok-find_roots.ensures.roots in
    (size ∙ all_taken c.args.degree roots (omega (arith, c.if-len-degree.false, c.len.ensures, size)), c.in_ok-find_roots.ensures.roots)
