-- Characters as they are read, in UTF-8.
use Rattle.std.specs.Prelude.{◌≢◌}
use Rattle.std.proofs.Common.{◌≡◌, ℕ, suc, ◌+◌, ◌-◌, ◌<◌, ◌≤◌, Bool, cond, eqb, List, [], ◌∷◌, ◌++◌, length, take, drop, get_or, inl, inr, refl, sym, ap, ◌∙◌, arith}
use Rattle.std.proofs.Math.Utf8.{encode}
use Rattle.std.proofs.lemmas.Bool.{cond-true, cond-false, eq-eqb, ne_eqb}
use Rattle.std.proofs.lemmas.Bool.Decides.{eqb_tells}
use Rattle.std.proofs.lemmas.List.{append-nil, append_assoc, drop_all, drop_more, length-drop, map-append, take_more}
use Rattle.std.proofs.lemmas.Str.{encode_ascii, inside_one}
use Rattle.codex32.specs.Damaged.{read_data, unreadable}

read_plain : (bs : List ℕ) → ((k : ℕ) → k < length bs → get_or bs k 0 ≢ 63) → read_data bs ≡ bs
read_plain [] h = refl
read_plain (b ∷ bs) h =
    let here : cond (eqb b 63) 48 b ≡ b = cond-false (eqb b 63) 48 b (ne_eqb b 63 (h 0 (omega arith))) in
    let rest : read_data bs ≡ bs = read_plain bs (λ k l. h (suc k) (omega (arith, l))) in
    λ i. here i ∷ rest i

-- the bytes of a character as they are read are those of the character as it is read
pub read_encoded : (c : ℕ) → read_data (encode c) ≡ encode (cond (eqb c 63) 48 c)
read_encoded c = elim (eqb_tells c 63) [
  | inl h ↦
      let low : encode c ≡ c ∷ [] = encode_ascii c (omega (arith, h.1)) in
      let zero_low : encode 48 ≡ 48 ∷ [] = encode_ascii 48 (omega arith) in
      ap read_data low ∙ ap (λ (b : Bool). cond b 48 c ∷ []) h.0 ∙ sym zero_low ∙ ap (λ (b : Bool). encode (cond b 48 c)) (sym h.0)
  | inr h ↦ read_plain (encode c) (λ k l e.
      let low : get_or (encode c) k 0 < 128 = omega (arith, e) in
      h.1 (inside_one c [] (encode c) k (sym (append-nil (encode c))) l low ∙ e))
      ∙ ap (λ (b : Bool). encode (cond b 48 c)) (sym h.0)
]

-- one more character is read
pub read_more : (xs read : List ℕ) (i d : ℕ) → i < length xs → read ≡ read_data (take i xs) → d ≡ cond (eqb (get_or xs i 0) 63) 48 (get_or xs i 0)
    → read ++ (d ∷ []) ≡ read_data (take (i + 1) xs)
read_more xs read i d l so_far is =
    ap (λ (t : List ℕ). t ++ (d ∷ [])) so_far
    ∙ ap (λ (c : ℕ). read_data (take i xs) ++ (c ∷ [])) is
    ∙ sym (map-append (λ b. cond (eqb b 63) 48 b) (take i xs) (get_or xs i 0 ∷ []))
    ∙ ap read_data (sym (take_more xs i 0 l))

-- ---- the unreadable characters, one after another

pub unreadable_more : (xs places : List ℕ) (i behind : ℕ) → i < length xs → places ++ unreadable (drop i xs) ≡ unreadable xs → get_or xs i 0 ≡ 63 → behind + (i + 1) ≡ length xs
    → (places ++ (behind ∷ [])) ++ unreadable (drop (i + 1) xs) ≡ unreadable xs
unreadable_more xs places i behind l so_far e at =
    let here : unreadable (drop i xs) ≡ unreadable (get_or xs i 0 ∷ drop (i + 1) xs) = ap unreadable (drop_more xs i 0 l) in
    let split : unreadable (get_or xs i 0 ∷ drop (i + 1) xs) ≡ length (drop (i + 1) xs) ∷ unreadable (drop (i + 1) xs) =
    cond-true (eqb (get_or xs i 0) 63) (length (drop (i + 1) xs) ∷ unreadable (drop (i + 1) xs)) (unreadable (drop (i + 1) xs)) (eq-eqb (get_or xs i 0) 63 e) in
    let size : length (drop (i + 1) xs) ≡ length xs - (i + 1) = length-drop (i + 1) xs in
    let same : behind ≡ length (drop (i + 1) xs) = omega (arith, size, at) in
    append_assoc places (behind ∷ []) (unreadable (drop (i + 1) xs))
    ∙ ap (λ (n : ℕ). places ++ (n ∷ unreadable (drop (i + 1) xs))) same
    ∙ ap (λ (t : List ℕ). places ++ t) (sym (here ∙ split))
    ∙ so_far

pub unreadable_passed : (xs places : List ℕ) (i : ℕ) → i < length xs → places ++ unreadable (drop i xs) ≡ unreadable xs → get_or xs i 0 ≢ 63
    → places ++ unreadable (drop (i + 1) xs) ≡ unreadable xs
unreadable_passed xs places i l so_far n =
    let here : unreadable (drop i xs) ≡ unreadable (get_or xs i 0 ∷ drop (i + 1) xs) = ap unreadable (drop_more xs i 0 l) in
    let split : unreadable (get_or xs i 0 ∷ drop (i + 1) xs) ≡ unreadable (drop (i + 1) xs) =
    cond-false (eqb (get_or xs i 0) 63) (length (drop (i + 1) xs) ∷ unreadable (drop (i + 1) xs)) (unreadable (drop (i + 1) xs)) (ne_eqb (get_or xs i 0) 63 n) in
    ap (λ (t : List ℕ). places ++ t) (sym (here ∙ split)) ∙ so_far

pub unreadable_all : (xs places : List ℕ) (i : ℕ) → length xs ≤ i → places ++ unreadable (drop i xs) ≡ unreadable xs → places ≡ unreadable xs
unreadable_all xs places i l so_far = sym (append-nil places) ∙ ap (λ (t : List ℕ). places ++ unreadable t) (sym (drop_all i xs l)) ∙ so_far
