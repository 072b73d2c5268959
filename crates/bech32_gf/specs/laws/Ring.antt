-- Sums and products in a field.
use Rattle.std.proofs.Common.{◌≡◌, sym, ap, ◌∙◌}
use Rattle.bech32_gf.specs.Field.{Ops, IsField}

module _ {F : Type 0} {o : Ops F} (l : IsField o) where
  pub add_comm : (x y : F) → o.add x y ≡ o.add y x
  add_comm = l.add_comm

  pub add_assoc : (x y z : F) → o.add (o.add x y) z ≡ o.add x (o.add y z)
  add_assoc = l.add_assoc

  pub mul_comm : (x y : F) → o.mul x y ≡ o.mul y x
  mul_comm = l.mul_comm

  pub mul_assoc : (x y z : F) → o.mul (o.mul x y) z ≡ o.mul x (o.mul y z)
  mul_assoc = l.mul_assoc

  pub add_left_comm : (x y z : F) → o.add x (o.add y z) ≡ o.add y (o.add x z)
  add_left_comm x y z =
      sym (l.add_assoc x y z) ∙ ap (λ w. o.add w z) (l.add_comm x y) ∙ l.add_assoc y x z

  pub mul_left_comm : (x y z : F) → o.mul x (o.mul y z) ≡ o.mul y (o.mul x z)
  mul_left_comm x y z =
      sym (l.mul_assoc x y z) ∙ ap (λ w. o.mul w z) (l.mul_comm x y) ∙ l.mul_assoc y x z

  pub distrib : (x y z : F) → o.mul x (o.add y z) ≡ o.add (o.mul x y) (o.mul x z)
  distrib = l.distrib

  pub distrib_right : (x y z : F) → o.mul (o.add x y) z ≡ o.add (o.mul x z) (o.mul y z)
  distrib_right x y z =
      l.mul_comm (o.add x y) z ∙ l.distrib z x y ∙ ap (λ w. o.add w (o.mul z y)) (l.mul_comm z x)
      ∙ ap (o.add (o.mul x z)) (l.mul_comm z y)

  pub add_zero : (x : F) → o.add x o.zero ≡ x
  add_zero = l.add_zero

  pub zero_add : (x : F) → o.add o.zero x ≡ x
  zero_add x = l.add_comm o.zero x ∙ l.add_zero x

  pub mul_one : (x : F) → o.mul x o.one ≡ x
  mul_one = l.mul_one

  pub one_mul : (x : F) → o.mul o.one x ≡ x
  one_mul x = l.mul_comm o.one x ∙ l.mul_one x

  pub add_neg : (x : F) → o.add x (o.neg x) ≡ o.zero
  add_neg = l.add_neg

  pub add_neg_more : (x y : F) → o.add x (o.add (o.neg x) y) ≡ y
  add_neg_more x y =
      sym (l.add_assoc x (o.neg x) y) ∙ ap (λ w. o.add w y) (l.add_neg x) ∙ zero_add y

  pub neg_add_more : (x y : F) → o.add (o.neg x) (o.add x y) ≡ y
  neg_add_more x y =
      sym (l.add_assoc (o.neg x) x y) ∙ ap (λ w. o.add w y) (l.add_comm (o.neg x) x ∙ l.add_neg x)
      ∙ zero_add y

  -- x may be left out on both sides
  pub add_cancel : (x y z : F) → o.add x y ≡ o.add x z → y ≡ z
  add_cancel x y z e = sym (neg_add_more x y) ∙ ap (o.add (o.neg x)) e ∙ neg_add_more x z

  pub neg_unique : (x y : F) → o.add x y ≡ o.zero → y ≡ o.neg x
  neg_unique x y e = add_cancel x y (o.neg x) (e ∙ sym (l.add_neg x))

  pub mul_zero : (x : F) → o.mul x o.zero ≡ o.zero
  mul_zero x =
      add_cancel (o.mul x o.zero) (o.mul x o.zero) o.zero
      (sym (l.distrib x o.zero o.zero) ∙ ap (o.mul x) (l.add_zero o.zero)
      ∙ sym (l.add_zero (o.mul x o.zero)))

  pub zero_mul : (x : F) → o.mul o.zero x ≡ o.zero
  zero_mul x = l.mul_comm o.zero x ∙ mul_zero x

  pub mul_neg : (x y : F) → o.mul x (o.neg y) ≡ o.neg (o.mul x y)
  mul_neg x y =
      neg_unique (o.mul x y) (o.mul x (o.neg y))
      (sym (l.distrib x y (o.neg y)) ∙ ap (o.mul x) (l.add_neg y) ∙ mul_zero x)

  pub neg_mul : (x y : F) → o.mul (o.neg x) y ≡ o.neg (o.mul x y)
  neg_mul x y = l.mul_comm (o.neg x) y ∙ mul_neg y x ∙ ap o.neg (l.mul_comm y x)

  pub neg_zero : o.neg o.zero ≡ o.zero
  neg_zero = sym (neg_unique o.zero o.zero (l.add_zero o.zero))

  pub neg_neg : (x : F) → o.neg (o.neg x) ≡ x
  neg_neg x = sym (neg_unique (o.neg x) x (l.add_comm (o.neg x) x ∙ l.add_neg x))

  pub neg_add : (x y : F) → o.neg (o.add x y) ≡ o.add (o.neg x) (o.neg y)
  neg_add x y =
      sym (neg_unique (o.add x y) (o.add (o.neg x) (o.neg y))
      (l.add_assoc x y (o.add (o.neg x) (o.neg y))
      ∙ ap (o.add x) (add_left_comm y (o.neg x) (o.neg y)) ∙ add_neg_more x (o.add y (o.neg y))
      ∙ l.add_neg y))

  -- brings an expression into a sum of products in a fixed order
  pub ruleset ring = (
    distrib,
    distrib_right,
    mul_zero,
    zero_mul,
    mul_one,
    one_mul,
    add_zero,
    zero_add,
    mul_neg,
    neg_mul,
    neg_neg,
    neg_add,
    neg_zero,
    add_neg_more,
    neg_add_more,
    add_neg,
    add_assoc,
    add_left_comm,
    add_comm,
    mul_assoc,
    mul_left_comm,
    mul_comm,
  )
