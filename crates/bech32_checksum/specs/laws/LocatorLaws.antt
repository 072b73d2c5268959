-- A field that extends that of 32 elements is one in which errors are located.
use Rattle.std.proofs.Common.{◌≡◌, subst}
use Rattle.bech32_gf.specs.Field.{Ops, KeepsSums, KeepsProducts}
use Rattle.bech32_poly.specs.Embedding.{Embeds}

-- what the embedding keeps under one name of the operations, it keeps under another
pub embeds : {F K : Type 0} (f g : Ops F) (o : Ops K) (embed : F → K)
    → f ≡ g → embed f.one ≡ o.one → KeepsSums f o embed → KeepsProducts f o embed
    → Embeds g o embed
embeds f g o embed same one add mul =
    subst (λ h. Embeds h o embed) same (record { one = one; add = add; mul = mul })
