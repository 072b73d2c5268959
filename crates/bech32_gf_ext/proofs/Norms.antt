-- The norm of a triple from its parts and those of its adjugate.
use Rattle.std.proofs.Common.{◌≡◌, ◌∙◌}
use Rattle.bech32_gf.specs.Field.{Ops}
use Rattle.bech32_gf_ext.specs.Cubic.{adjugate₀, adjugate₁, adjugate₂, norm}

pub norm_from_parts : {F : Type 0} (o : Ops F) (a b c a' b' c' p q r s t u v n : F)
    → a' ≡ a → b' ≡ b → c' ≡ c
    → p ≡ adjugate₀ o a b c → q ≡ adjugate₁ o a b c → r ≡ adjugate₂ o a b c
    → s ≡ o.mul a' p → t ≡ o.mul b' r → u ≡ o.mul c' q → v ≡ o.add t u → n ≡ o.add s v
    → n ≡ norm o a b c
norm_from_parts o a b c a' b' c' p q r s t u v n ea eb ec ep eq er es et eu ev en =
    en
    ∙ (λ i. o.add (es i) ((ev ∙ (λ j. o.add (et j) (eu j))) i))
    ∙ (λ i. o.add (o.mul (ea i) (ep i)) (o.add (o.mul (eb i) (er i)) (o.mul (ec i) (eq i))))
