use Rattle.std.proofs.Common.{◌≡◌, ◌≢◌, ◌↔◌, ◌<◌, ◌≤◌, ◌-◌, ◌⊎◌, Bool, true, false, IsTrue, inl, inr, refl, arith}
use Rattle.bech32_checksum.proofs.RootTests.{not_lawful_by_exponents, not_lawful_by_order, lawful_by_roots}
use Rattle.bech32_checksum.proofs.Checksum.sanity_check.Goals as goal
use Rattle.bech32_checksum.proofs.Checksum.sanity_check.Goals.{then-end-start-via-then-end-start, then-end-start-via-else-end-start+then-CHECKSUM_LENGTH-end}

-- a test that failed says the same as what does not hold
false_where_not : {P : Type 0} (b : Bool) → b ≡ false → (P → ⊥) → (IsTrue b ↔ P)
false_where_not true is not = cc
false_where_not false is not = (λ h. absurd (let e : false ≡ true = h in cc), λ p. absurd (not p))

pub returns-then-end-start : goal.returns-then-end-start
returns-then-end-start g c =
    let law = g.met.Self.Checksum.lawful_law in
    let code = g.Self.Checksum.code in
    let degree = g.Self.Checksum.CHECKSUM_LENGTH in
    let code_length = g.Self.Checksum.CODE_LENGTH in
    let start = g.Self.Checksum.ROOT_EXPONENTS_START in
    let end = g.Self.Checksum.ROOT_EXPONENTS_END in
    let start_read : c.ROOT_EXPONENTS_START-start.result ≡ start = c.ROOT_EXPONENTS_START-start.ensures in
    let end_read : c.ROOT_EXPONENTS_END-end.result ≡ end = c.ROOT_EXPONENTS_END-end.ensures in
    let degree_read : c.CHECKSUM_LENGTH.result ≡ degree = c.CHECKSUM_LENGTH.ensures in
    let wrong : (end < start) ⊎ (degree ≤ end - start) =
    elim c.then-end-start.branch [
      | then-end-start-via-then-end-start w ↦ inl (omega arith)
      | then-end-start-via-else-end-start+then-CHECKSUM_LENGTH-end w ↦
          let again : w.CHECKSUM_LENGTH-else-end-start.result ≡ degree = w.CHECKSUM_LENGTH-else-end-start.ensures in
          inr (omega arith)
    ] in
    let some : degree ≢ 0 = omega arith in
    false_where_not false refl (λ lawful.
    not_lawful_by_exponents g.Self.CorrectionField.Arithmetic.ops g.Self.CorrectionField.Extension.embed code g.Self.Checksum.ROOT_GENERATOR start end degree code_length
    g.met.Self.Checksum.degree_law g.met.Self.Checksum.code_length_law some wrong (law.0 lawful))

pub returns-then-order_is_long_enough : goal.returns-then-order_is_long_enough
returns-then-order_is_long_enough g c =
    let law = g.met.Self.Checksum.lawful_law in
    let code = g.Self.Checksum.code in
    let degree = g.Self.Checksum.CHECKSUM_LENGTH in
    let code_length = g.Self.Checksum.CODE_LENGTH in
    let start = g.Self.Checksum.ROOT_EXPONENTS_START in
    let end = g.Self.Checksum.ROOT_EXPONENTS_END in
    let start_read : c.ROOT_EXPONENTS_START-start.result ≡ start = c.ROOT_EXPONENTS_START-start.ensures in
    let end_read : c.ROOT_EXPONENTS_END-end.result ≡ end = c.ROOT_EXPONENTS_END-end.ensures in
    let degree_read : c.CHECKSUM_LENGTH.result ≡ degree = c.CHECKSUM_LENGTH.ensures in
    let again : c.CHECKSUM_LENGTH-else-end-start.result ≡ degree = c.CHECKSUM_LENGTH-else-end-start.ensures in
    let some : degree ≢ 0 = omega arith in
    let ordered : start ≤ end = omega arith in
    let few : end - start < degree = omega arith in
    let same =
    lawful_by_roots g.Self.CorrectionField.Arithmetic.ops g.Self.CorrectionField.Extension.embed code g.Self.Checksum.ROOT_GENERATOR start end degree code_length
    g.met.Self.Checksum.degree_law g.met.Self.Checksum.code_length_law
    some ordered few (c.order_is_long_enough.ensures.0 c.if-order_is_long_enough.true) in
    (λ h. law.1 (same.0 (c.powers_are_roots.ensures.0 h)), λ lawful. c.powers_are_roots.ensures.1 (same.1 (law.0 lawful)))

pub returns-else-order_is_long_enough : goal.returns-else-order_is_long_enough
returns-else-order_is_long_enough g c =
    let law = g.met.Self.Checksum.lawful_law in
    let code = g.Self.Checksum.code in
    let degree = g.Self.Checksum.CHECKSUM_LENGTH in
    let code_length = g.Self.Checksum.CODE_LENGTH in
    let start = g.Self.Checksum.ROOT_EXPONENTS_START in
    let end = g.Self.Checksum.ROOT_EXPONENTS_END in
    let degree_read : c.CHECKSUM_LENGTH.result ≡ degree = c.CHECKSUM_LENGTH.ensures in
    let some : degree ≢ 0 = omega arith in
    let off : c.order_is_long_enough.result ≡ false = c.if-order_is_long_enough.false in
    false_where_not c.order_is_long_enough.result off (λ lawful.
    not_lawful_by_order g.Self.CorrectionField.Arithmetic.ops g.Self.CorrectionField.Extension.embed code g.Self.Checksum.ROOT_GENERATOR start end degree code_length
    g.met.Self.Checksum.degree_law g.met.Self.Checksum.code_length_law
    some (λ long. let on : c.order_is_long_enough.result ≡ true = c.order_is_long_enough.ensures.1 long in cc)
    (law.0 lawful))
