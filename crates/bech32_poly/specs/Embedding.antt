-- A field inside a larger one.
use Rattle.std.specs.Prelude.{◌≡◌, List, map}
use Rattle.bech32_gf.specs.Field.{Ops, value_at}

-- sums and products are those of the field inside
pub record Embeds {F K : Type 0} (f : Ops F) (o : Ops K) (embed : F → K) : Type 0 where
  pub one : embed f.one ≡ o.one
  pub add : (x y : F) → embed (f.add x y) ≡ o.add (embed x) (embed y)
  pub mul : (x y : F) → embed (f.mul x y) ≡ o.mul (embed x) (embed y)

-- the value at x of a polynomial over the field inside
abbrev pub value_in : {F K : Type 0} → Ops K → (F → K) → List F → K → K
value_in o embed p x = value_at o x (map embed p)
