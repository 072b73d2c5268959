-- Why a secret is not split.
use Rattle.std.specs.Prelude.{◌==◌, ◌&&◌, ◌||◌, if◌then◌else◌, nat_le}
use Rattle.std.proofs.Common.{◌≡◌, ℕ, ◌*◌, ◌≤◌, Bool, true, false, List, length, None, Some, refl, sym, ◌∙◌}
use Rattle.std.proofs.lemmas.Bool.{and_parts, eq-eqb, eqb-true, leb-true}
use Rattle.bech32_decode.proofs.Grammar.{none_first}
use Rattle.codex32.specs.Encode.{is_byte_count, is_long_byte_count}
use Rattle.codex32.specs.HeaderParts.{threshold_number}
use Rattle.codex32.specs.Split.{count_fault, equal_fault, random_fault, random_size, room_fault, secret_fault, split_refusal, text_size, unshared_split_fault}
use Rattle.codex32.specs.declared.error.SplitError.TheVariants.{Count, NoRoom, Random, Size, Unshared}
use Rattle.codex32.specs.declared.threshold.Threshold.{Threshold}

none_then : {A : Type 0} (b : Bool) (x : A) → (if b then Some x else None) ≡ None → b ≡ false
none_then true x e = absurd cc
none_then false x e = refl

none_else : {A : Type 0} (b : Bool) (x : A) → (if b then None else Some x) ≡ None → b ≡ true
none_else true x e = refl
none_else false x e = absurd cc

-- ---- nothing is wrong

pub record CanSplit (t : Threshold) (n count : ℕ) (random : List ℕ) (room : ℕ) : Type 0 where
  pub shared : threshold_number t ≡ 0 → ⊥
  pub counted : is_byte_count n || is_long_byte_count n ≡ true
  pub enough : threshold_number t ≤ count
  pub few : count ≤ 31
  pub random_is : length random ≡ random_size t n
  pub fits : count * text_size n ≤ room

pub can-split : (t : Threshold) (n count : ℕ) (random : List ℕ) (room : ℕ) → split_refusal t n count random room ≡ None → CanSplit t n count random room
can-split t n count random room e =
    let a = none_first (unshared_split_fault t) _ e in
    let b = none_first (secret_fault n) _ a.1 in
    let c = none_first (count_fault t count) _ b.1 in
    let d = none_first (random_fault t n random) _ c.1 in
    let last = none_first (equal_fault random) (room_fault n count room) d.1 in
    let number = and_parts (nat_le (threshold_number t) count) (nat_le count 31) (none_else (nat_le (threshold_number t) count && nat_le count 31) Count c.0) in
    let not_zero : (threshold_number t == 0) ≡ false = none_then (threshold_number t == 0) Unshared a.0 in
    record {
      shared = λ zero_is. absurd (let k = sym (eq-eqb (threshold_number t) 0 zero_is) ∙ not_zero in cc);
      counted = none_else (is_byte_count n || is_long_byte_count n) Size b.0;
      enough = leb-true (threshold_number t) count number.0;
      few = leb-true count 31 number.1;
      random_is = eqb-true (length random) (random_size t n) (none_else (length random == random_size t n) Random d.0);
      fits = leb-true (count * text_size n) room (none_else (nat_le (count * text_size n) room) NoRoom last.1);
    }
