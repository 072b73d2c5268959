-- What is wrong with a split, and that nothing is.
use Rattle.std.specs.Prelude.{◌||◌, nat_le}
use Rattle.std.proofs.Common.{◌≡◌, ◌∙◌, ◌≤◌, ◌-◌, ◌*◌, ◌==◌, ℕ, Option, None, Some, List, length, sym, ap, refl, arith}
use Rattle.std.proofs.lemmas.Bool.{cond-false, cond-true, eq-eqb, eqb-true, false_from_ne_true, le-leb}
use Rattle.bech32_hrp.specs.Hrp.{first_of}
use Rattle.codex32.specs.Encode.{is_byte_count, is_long_byte_count}
use Rattle.codex32.specs.HeaderParts.{threshold_number}
use Rattle.codex32.specs.Split.{are_all_equal, count_fault, equal_fault, payload_count, random_fault, random_size, room_fault, secret_fault, split_refusal, text_size, unshared_split_fault}
use Rattle.codex32.specs.declared.error.SplitError.TheVariants as refusals
use Rattle.codex32.specs.declared.threshold.Threshold.{Threshold}
use Rattle.codex32_calls.specs.Split.{CanSplit}

-- ---- the first of two

module _ {E : Type 0} (a b : Option E) where
  pub first-refused : (e : E) → a ≡ Some e → first_of a b ≡ Some e
  first-refused e h = ap (λ (o : Option E). first_of o b) h

  pub second-refused : (e : E) → a ≡ None → b ≡ Some e → first_of a b ≡ Some e
  second-refused e h k = ap (λ (o : Option E). first_of o b) h ∙ k

  pub none-refused : a ≡ None → b ≡ None → first_of a b ≡ None
  none-refused h k = ap (λ (o : Option E). first_of o b) h ∙ k

-- ---- nothing is wrong

module _ (threshold : ℕ) (identifier secret random : List ℕ) (count room : ℕ) (can : CanSplit threshold identifier secret random count room) (t : Threshold) (is : threshold_number t ≡ threshold) where
  shared-fine : unshared_split_fault t ≡ None
  shared-fine = cond-false (threshold_number t == 0) (Some refusals.Unshared) None (false_from_ne_true (threshold_number t == 0) (λ h. let zero = eqb-true (threshold_number t) 0 h in absurd (omega (arith, zero, is, can.shared))))

  size-fine : secret_fault (length secret) ≡ None
  size-fine = cond-true (is_byte_count (length secret) || is_long_byte_count (length secret)) None (Some refusals.Size) can.counted

  count-fine : count_fault t count ≡ None
  count-fine =
      let enough : threshold_number t ≤ count = omega (arith, is, can.enough) in
      rw (le-leb (threshold_number t) count enough, le-leb count 31 can.most) refl

  random-fine : random_fault t (length secret) random ≡ None
  random-fine =
      let drawn : length random ≡ random_size t (length secret) = can.drawn ∙ ap (λ (n : ℕ). (n - 1) * payload_count (length secret)) (sym is) in
      cond-true (length random == random_size t (length secret)) None (Some refusals.Random) (eq-eqb (length random) (random_size t (length secret)) drawn)

  equal-fine : equal_fault random ≡ None
  equal-fine = cond-false (are_all_equal random) (Some refusals.EqualRandom) None can.differ

  room-fine : room_fault (length secret) count room ≡ None
  room-fine = cond-true (nat_le (count * text_size (length secret)) room) None (Some refusals.NoRoom) (le-leb (count * text_size (length secret)) room can.fits)

  pub unrefused : split_refusal t (length secret) count random room ≡ None
  unrefused =
      none-refused (unshared_split_fault t) _ shared-fine
      (none-refused (secret_fault (length secret)) _ size-fine
      (none-refused (count_fault t count) _ count-fine
      (none-refused (random_fault t (length secret) random) _ random-fine (none-refused (equal_fault random) _ equal-fine room-fine))))
