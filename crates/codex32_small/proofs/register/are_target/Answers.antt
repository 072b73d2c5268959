use Rattle.std.proofs.Common.{◌≡◌, ◌≢◌, ◌<◌, ◌+◌, ◌&&◌, ◌++◌, ◌∷◌, [], ℕ, List, Bool, true, false, length, take, get_or, eqb, sym, ap, ◌∙◌, refl, arith, eq-eqb}
use Rattle.std.proofs.lemmas.Bool.{eqb-true}
use Rattle.std.proofs.lemmas.List.{get_or_default, take_all, take_more}
use Rattle.bech32_gf.specs.Fe32 as fe32
use Rattle.bech32_gf.specs.Fe32.{zero}
use Rattle.bech32_gf.specs.declared.gf32.Fe32.{Fe32}
use Rattle.codex32_small.specs.Code.{code_of_kind}
use Rattle.codex32_small.proofs.Checksums.{length-target}
use Rattle.codex32_small.proofs.register.are_target.Goals as goal

-- lists differ at some place
abbrev Differ : List Fe32 → List Fe32 → Type 0
Differ xs ys = (m : ℕ) × (get_or xs m zero ≢ get_or ys m zero)

step : (xs ys : List Fe32) (i : ℕ) (x y : Fe32) (s e : Bool) → i < length xs → i < length ys → x ≡ get_or xs i x → y ≡ get_or ys i zero
    → e ≡ eqb x.value y.value → (s ≡ true → take i xs ≡ take i ys) → (s ≡ false → Differ xs ys)
    → ((s && e) ≡ true → take (i + 1) xs ≡ take (i + 1) ys) × ((s && e) ≡ false → Differ xs ys)
step xs ys i x y false e hx hy rx ry is alike apart = (λ t. absurd cc, λ _. apart refl)
step xs ys i x y true true hx hy rx ry is alike apart = (
  λ _.
      let equal : x ≡ y = fe32.path x y (eqb-true x.value y.value (sym is)) in
      take_more xs i x hx
      ∙ ap (λ u. u ++ (get_or xs i x ∷ [])) (alike refl)
      ∙ ap (λ z. take i ys ++ (z ∷ [])) (sym rx ∙ equal ∙ ry)
      ∙ sym (take_more ys i zero hy),
  λ t. absurd cc,
)
step xs ys i x y true false hx hy rx ry is alike apart = (
  λ t. absurd cc,
  λ _. (
    i,
    λ same.
        let equal : x ≡ y = rx ∙ get_or_default xs i x zero hx ∙ same ∙ sym ry in
        let yes : eqb x.value y.value ≡ true = eq-eqb x.value y.value (ap (λ (z : Fe32). z.value) equal) in
        absurd cc,
  ),
)

pub loop-i-preserved : goal.loop-i-preserved
loop-i-preserved c =
    let i : ℕ = c.loop-i.i in
    let rest = c.args.rest.now in
    let target : List Fe32 = (code_of_kind c.args.kind).target in
    let within : i < length rest = c.loop-i-test.true in
    let stepped = step rest target i c.index-rest-i.result c.coefficient_at.result c.loop-i.same c.eq-same.result
    within (omega (arith, within, c.requires, length-target c.args.kind)) c.index-rest-i.is
    c.coefficient_at.ensures c.eq-same.ensures c.loop-i.invariant.alike c.loop-i.invariant.apart in
    record { alike = stepped.0; apart = stepped.1 }

found : (xs ys : List Fe32) (s : Bool) → (s ≡ false → Differ xs ys) → xs ≡ ys → s ≡ true
found xs ys true apart same = refl
found xs ys false apart same = let d = apart refl in absurd (d.1 (ap (λ (zs : List Fe32). get_or zs d.0 zero) same))

pub returns : goal.returns
returns c =
    let xs = c.args.rest.now in
    let ys : List Fe32 = (code_of_kind c.args.kind).target in (
      λ yes.
          sym (take_all c.loop-i.i xs (omega (arith, c.loop-i-test.false)))
          ∙ c.loop-i.invariant.alike yes
          ∙ take_all c.loop-i.i ys (omega (arith, c.loop-i-test.false, c.requires, length-target c.args.kind)),
      λ same. found xs ys c.loop-i.same c.loop-i.invariant.apart same,
    )
