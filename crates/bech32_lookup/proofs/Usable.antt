-- Lawful roots of a checksum are what the correction over abstract fields asks.
use Rattle.std.proofs.Common.{◌≡◌, ◌≤◌, ◌+◌, ℕ, List, [], ◌∷◌, map, sym, ap, ◌∙◌, subst, arith}
use Rattle.bech32_gf.specs.Field.{Ops, value_at, power}
use Rattle.bech32_gf.specs.Fe32 as fe32
use Rattle.bech32_gf.specs.declared.gf32.Fe32.{Fe32}
use Rattle.bech32_poly.specs.Remainder.{monic}
use Rattle.bech32_checksum.specs.Code.{Code}
use Rattle.bech32_checksum.specs.Roots.{AreLawfulRoots}
use Rattle.bech32_bch.specs.Search.{AreUsableRoots}
use Rattle.bech32_checksum.specs.Roots.{singleton_bound}

module _ {K : Type 0} (o : Ops K) (embed : Fe32 → K) (one : embed fe32.one ≡ o.one) where
  embedded-monic : (p : List Fe32) → map embed (monic fe32.ops p) ≡ monic o (map embed p)
  embedded-monic [] = ap (λ x. x ∷ []) one
  embedded-monic (a ∷ p) = ap (λ u. embed a ∷ u) (embedded-monic p)

  usable : (code : Code) (base : K) (start end window : ℕ) → AreLawfulRoots o embed code base start end → window ≤ code.code_length
      → AreUsableRoots fe32.ops o embed code.generator base start (singleton_bound start end) window
  usable code base start end window lawful within = record {
    order = record {
      not_zero = lawful.not_zero;
      order = lawful.order;
      is_order = lawful.is_order;
      long_enough = let long : code.code_length ≤ lawful.order = lawful.long_enough in omega arith;
    };
    few = lawful.few;
    roots = λ t below. ap (value_at o (power o base (start + t))) (embedded-monic code.generator) ∙ lawful.are_roots (start + t) (omega arith) (let ordered : start ≤ end = lawful.ordered in omega arith);
  }

  -- the same of what was read of the checksum
  pub usable_read : (code : Code) (base base' : K) (start start' end count window : ℕ) → base' ≡ base → start' ≡ start → count ≡ singleton_bound start end
      → AreLawfulRoots o embed code base start end → window ≤ code.code_length → AreUsableRoots fe32.ops o embed code.generator base' start' count window
  usable_read code base base' start start' end count window p q r lawful within =
      subst (λ u. AreUsableRoots fe32.ops o embed code.generator u start' count window) (sym p)
      (subst (λ u. AreUsableRoots fe32.ops o embed code.generator base u count window) (sym q)
      (subst (λ u. AreUsableRoots fe32.ops o embed code.generator base start u window) (sym r)
      (usable code base start end window lawful within)))
