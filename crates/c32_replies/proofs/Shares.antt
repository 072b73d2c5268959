-- The shares of a secret, and what is said of them.
use Rattle.std.specs.Prelude.{◌&&◌, ◌||◌, nat_le}
use Rattle.std.proofs.Common.{◌≡◌, ℕ, zero, suc, ◌-◌, ◌*◌, ◌≤◌, ◌<◌, ◌==◌, Bool, true, false, cond, inl, inr, List, [], ◌∷◌, ◌++◌, length, take, drop, min, Option, Some, None, refl, sym, ap, ◌∙◌, arith, append_assoc}
use Rattle.std.proofs.lemmas.Bool.{and_parts, cases_lt, cond-false, cond-true, eqb-true, false_from_ne_true, le-leb, leb-true}
use Rattle.bech32_checksum.specs.Code.{Code}
use Rattle.bech32_decode.proofs.Grammar.{none_first}
use Rattle.bech32_hrp.specs.Hrp.{first_of}
use Rattle.codex32.specs.Code.{codex32, long_codex32}
use Rattle.codex32.specs.Encode.{code_of_byte_count, is_byte_count, is_long_byte_count}
use Rattle.codex32.specs.HeaderParts.{threshold_number}
use Rattle.codex32.specs.Split.{count_fault, equal_fault, payload_count, random_fault, random_size, room_fault, secret_fault, split_refusal, text_size, unshared_split_fault}
use Rattle.codex32.specs.declared.error.SplitError.{SplitError}
use Rattle.codex32.specs.declared.error.SplitError.TheVariants as refusals
use Rattle.codex32.specs.declared.threshold.Threshold.{Threshold}
use Rattle.codex32.proofs.Digits.{or_true}
use Rattle.c32_replies.specs.Split.{spaced_shares}
use Rattle.c32_replies.proofs.Sizes.{too-many}

-- ---- the shares, one after another

-- one more of them
pub told-more : (n k : ℕ) (rest said : List ℕ) → ((said ++ (32 ∷ [])) ++ take n rest) ++ spaced_shares n (drop n rest) k ≡ said ++ spaced_shares n rest (suc k)
told-more n k rest said =
    append_assoc (said ++ (32 ∷ [])) (take n rest) (spaced_shares n (drop n rest) k) ∙ append_assoc said (32 ∷ []) (take n rest ++ spaced_shares n (drop n rest) k)

-- ---- why a secret is not split

chain : {E : Type 0} (a b b2 c d d2 e e2 : Option E) → b2 ≡ b → (b ≡ None → d2 ≡ d) → (b ≡ None → c ≡ None → d ≡ None → e2 ≡ e)
    → first_of a (first_of b2 (first_of c (first_of d2 e2))) ≡ first_of a (first_of b (first_of c (first_of d e)))
chain {E} a b b2 c d d2 e e2 same drawn room = ap (λ (o : Option E). first_of a o) (ap (λ (o : Option E). first_of o (first_of c (first_of d2 e2))) same ∙ behind b drawn room)
  where
    end : (d : Option E) → (d ≡ None → e2 ≡ e) → first_of d e2 ≡ first_of d e
    end None room = room refl
    end (Some x) room = refl

    last : (c : Option E) → d2 ≡ d → (c ≡ None → d ≡ None → e2 ≡ e) → first_of c (first_of d2 e2) ≡ first_of c (first_of d e)
    last None drawn room = ap (λ (o : Option E). first_of o e2) drawn ∙ end d (room refl)
    last (Some x) drawn room = refl

    behind : (b : Option E) → (b ≡ None → d2 ≡ d) → (b ≡ None → c ≡ None → d ≡ None → e2 ≡ e) → first_of b (first_of c (first_of d2 e2)) ≡ first_of b (first_of c (first_of d e))
    behind None drawn room = last c (drawn refl) (room refl)
    behind (Some x) drawn room = refl

some-count : (n : ℕ) → secret_fault n ≡ None → is_byte_count n || is_long_byte_count n ≡ true
some-count n h = go (is_byte_count n || is_long_byte_count n) h
  where
    go : (b : Bool) → cond b None (Some refusals.Size) ≡ None → b ≡ true
    go true h = refl
    go false h = absurd cc

-- a secret that can be split has 64 bytes at most, and its strings 127 characters
pub bytes-most : (n : ℕ) → secret_fault n ≡ None → n ≤ 64
bytes-most n h = elim (or_true (is_byte_count n) (is_long_byte_count n) (some-count n h)) [
  | inl e ↦ let most : n ≤ 44 = leb-true n 44 (and_parts (nat_le 16 n) (nat_le n 44) e).1 in omega (arith, most)
  | inr e ↦ leb-true n 64 (and_parts (nat_le 63 n) (nat_le n 64) e).1
]

text-most : (n : ℕ) → secret_fault n ≡ None → text_size n ≤ 127
text-most n h = elim (or_true (is_byte_count n) (is_long_byte_count n) (some-count n h)) [
  | inl e ↦
      let most : n ≤ 44 = leb-true n 44 (and_parts (nat_le 16 n) (nat_le n 44) e).1 in
      let short : length (code_of_byte_count n).generator ≡ 13 = ap (λ (c : Code). length c.generator) (cond-true (is_byte_count n) codex32 long_codex32 e) in
      omega (arith, most, short)
  | inr e ↦
      let parts = and_parts (nat_le 63 n) (nat_le n 64) e in
      let most : n ≤ 64 = leb-true n 64 parts.1 in
      let least : 63 ≤ n = leb-true 63 n parts.0 in
      let other : is_byte_count n ≡ false = false_from_ne_true (is_byte_count n) (λ t. let small : n ≤ 44 = leb-true n 44 (and_parts (nat_le 16 n) (nat_le n 44) t).1 in absurd (omega (arith, small, least))) in
      let long : length (code_of_byte_count n).generator ≡ 15 = ap (λ (c : Code). length c.generator) (cond-false (is_byte_count n) codex32 long_codex32 other) in
      omega (arith, most, long)
]

payload-most : (n : ℕ) → n ≤ 64 → payload_count n ≤ 103
payload-most n h = omega (arith, h)

times : (k m a b : ℕ) → k ≤ a → m ≤ b → k * m ≤ a * b
times zero m a b h l = omega arith
times (suc k) m zero b h l = absurd (omega (arith, h))
times (suc k) m (suc a) b h l = let rest = times k m a b (omega (arith, h)) l in omega (arith, rest, l)

random-most : (t : Threshold) (n : ℕ) → n ≤ 64 → random_size t n ≤ 824
random-most t n h =
    let few : threshold_number t - 1 ≤ 8 = omega (arith, number-most t) in
    times (threshold_number t - 1) (payload_count n) 8 103 few (payload-most n h)
  where
    number-most : (t : Threshold) → threshold_number t ≤ 9
    number-most t = elim (or_true (threshold_number t == 0) (nat_le 2 (threshold_number t) && nat_le (threshold_number t) 9) t.lawful) [
      | inl e ↦ let none : threshold_number t ≡ 0 = eqb-true (threshold_number t) 0 e in omega (arith, none)
      | inr e ↦ leb-true (threshold_number t) 9 (and_parts (nat_le 2 (threshold_number t)) (nat_le (threshold_number t) 9) e).1
    ]

min-under : (n k : ℕ) → n ≤ k → min n k ≡ n
min-under n k h = omega (arith, h)

min-over : (n k : ℕ) → k ≤ n → min n k ≡ k
min-over n k h = omega (arith, h)

-- of more than 64 bytes 65 say as much
same-size : (n : ℕ) → secret_fault (min n 65) ≡ secret_fault n
same-size n = elim (cases_lt n 65) [
  | inl h ↦ ap secret_fault (min-under n 65 (omega (arith, h)))
  | inr h ↦ ap secret_fault (min-over n 65 h) ∙ sym (cond-false (is_byte_count n || is_long_byte_count n) None (Some refusals.Size) (too-many n (omega (arith, h))))
]

-- what is wrong with the number of random bytes
abbrev number_fault : Threshold → ℕ → ℕ → Option SplitError
number_fault t n r = cond (r == random_size t n) None (Some refusals.Random)

differs : (t : Threshold) (n r : ℕ) → n ≤ 64 → 824 < r → number_fault t n r ≡ Some refusals.Random
differs t n r h over =
    cond-false (r == random_size t n) None (Some refusals.Random) (false_from_ne_true (r == random_size t n) (λ e. let same : r ≡ random_size t n = eqb-true r (random_size t n) e in absurd (omega (arith, same, over, random-most t n h))))

-- and of more than 824 random bytes 825
same-number : (t : Threshold) (n r : ℕ) → n ≤ 64 → number_fault t n (min r 825) ≡ number_fault t n r
same-number t n r h = elim (cases_lt r 825) [
  | inl l ↦ ap (λ (m : ℕ). number_fault t n m) (min-under r 825 (omega (arith, l)))
  | inr l ↦ ap (λ (m : ℕ). number_fault t n m) (min-over r 825 l) ∙ differs t n 825 h (omega arith) ∙ sym (differs t n r h (omega (arith, l)))
]

-- where there are as many as are drawn, they are few
few-random : (t : Threshold) (n r : ℕ) → n ≤ 64 → number_fault t n r ≡ None → min r 825 ≡ r
few-random t n r h fine = elim (cases_lt r 825) [
  | inl l ↦ min-under r 825 (omega (arith, l))
  | inr l ↦ absurd (let k = sym fine ∙ differs t n r h (omega (arith, l)) in cc)
]

most-shares : (t : Threshold) (count : ℕ) → count_fault t count ≡ None → count ≤ 31
most-shares t count h =
    let fine : nat_le (threshold_number t) count && nat_le count 31 ≡ true = go (nat_le (threshold_number t) count && nat_le count 31) h in
    leb-true count 31 (and_parts (nat_le (threshold_number t) count) (nat_le count 31) fine).1
  where
    go : (b : Bool) → cond b None (Some refusals.Count) ≡ None → b ≡ true
    go true h = refl
    go false h = absurd cc

enough : (n count room : ℕ) → count * text_size n ≤ room → room_fault n count room ≡ None
enough n count room h = cond-true (nat_le (count * text_size n) room) None (Some refusals.NoRoom) (le-leb (count * text_size n) room h)

-- random bytes of which those behind 825 are cut
module _ (t : Threshold) (n count room : ℕ) (random taken : List ℕ) (wide : 3937 ≤ room) (some : length taken ≡ min (length random) 825) (all : min (length random) 825 ≡ length random → taken ≡ random) where
  -- of a secret and random bytes that are cut, with room for all shares there can be
  pub same-refusal : split_refusal t (min n 65) count taken room ≡ split_refusal t n count random (count * text_size n)
  same-refusal =
      chain (unshared_split_fault t) (secret_fault n) (secret_fault (min n 65)) (count_fault t count) (random_fault t n random) (random_fault t (min n 65) taken)
      (first_of (equal_fault random) (room_fault n count (count * text_size n))) (first_of (equal_fault taken) (room_fault (min n 65) count room))
      (same-size n)
      (λ h. ap (λ (m : ℕ). number_fault t m (length taken)) (cut h) ∙ ap (λ (m : ℕ). number_fault t n m) some ∙ same-number t n (length random) (bytes-most n h))
      (λ h k d.
      ap (λ (r : List ℕ). first_of (equal_fault r) (room_fault (min n 65) count room)) (all (few-random t n (length random) (bytes-most n h) d))
      ∙ ap (λ (o : Option SplitError). first_of (equal_fault random) o)
      (ap (λ (m : ℕ). room_fault m count room) (cut h) ∙ enough n count room (within h k) ∙ sym (enough n count (count * text_size n) (omega arith))))
    where
      cut : secret_fault n ≡ None → min n 65 ≡ n
      cut h = min-under n 65 (omega (arith, bytes-most n h))

      within : secret_fault n ≡ None → count_fault t count ≡ None → count * text_size n ≤ room
      within h k = let all = times count (text_size n) 31 127 (most-shares t count k) (text-most n h) in omega (arith, all, wide)

  -- of a secret that is split nothing is cut
  pub whole-secret : split_refusal t n count random (count * text_size n) ≡ None → min n 65 ≡ n
  whole-secret h =
      let size : secret_fault n ≡ None = (none_first (secret_fault n) _ (none_first (unshared_split_fault t) _ h).1).0 in
      min-under n 65 (omega (arith, bytes-most n size))

  pub whole-random : split_refusal t n count random (count * text_size n) ≡ None → min (length random) 825 ≡ length random
  whole-random h =
      let sized = none_first (secret_fault n) _ (none_first (unshared_split_fault t) _ h).1 in
      let counted = none_first (count_fault t count) _ sized.1 in
      few-random t n (length random) (bytes-most n sized.0) (none_first (random_fault t n random) _ counted.1).0
