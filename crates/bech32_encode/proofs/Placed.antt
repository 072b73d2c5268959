-- Bytes put behind others in a buffer.
use Rattle.std.proofs.Common.{◌≡◌, ◌∙◌, ℕ, ◌+◌, ◌≤◌, List, [], ◌++◌, length, take, drop, set, sym, ap, arith, append_assoc, length-append}
use Rattle.std.proofs.lemmas.List.{drop-drop, drop_at, length-take-le, take_at, take-append-drop}

-- ys behind xs, which stand from a place on
pub placed_more : (xs ys zs old between new : List ℕ) (at n m k : ℕ) → at ≤ length old → length xs ≡ n → m ≡ at + n → k ≡ m + 8
    → zs ≡ xs ++ ys
    → between ≡ take at old ++ (xs ++ drop m old)
    → new ≡ take m between ++ (ys ++ drop (m + 8) between)
    → new ≡ take at old ++ (zs ++ drop k old)
placed_more xs ys zs old between new at n m k l size is next all before after =
    let a : List ℕ = take at old in
    let la : length a ≡ at = length-take-le at old l in
    let lb : length (a ++ xs) ≡ m = length-append a xs ∙ (omega arith) in
    let b : between ≡ (a ++ xs) ++ drop m old = before ∙ sym (append_assoc a xs (drop m old)) in
    let front : take m between ≡ a ++ xs = ap (take m) b ∙ take_at (a ++ xs) (drop m old) m lb in
    let behind : drop (m + 8) between ≡ drop k old =
    sym (drop-drop 8 m between)
    ∙ ap (λ (d : List ℕ). drop 8 d) (ap (drop m) b ∙ drop_at (a ++ xs) (drop m old) m lb)
    ∙ drop-drop 8 m old ∙ ap (λ (i : ℕ). drop i old) (sym next) in
    after
    ∙ ap (λ (f : List ℕ). f ++ (ys ++ drop (m + 8) between)) front
    ∙ ap (λ (d : List ℕ). (a ++ xs) ++ (ys ++ d)) behind
    ∙ append_assoc a xs (ys ++ drop k old)
    ∙ ap (λ (d : List ℕ). a ++ d) (sym (append_assoc xs ys (drop k old)))
    ∙ ap (λ (z : List ℕ). a ++ (z ++ drop k old)) (sym all)

-- nothing is put
pub placed_none : (old : List ℕ) (at m : ℕ) → m ≡ at → old ≡ take at old ++ ([] ++ drop m old)
placed_none old at m e = sym (take-append-drop at old) ∙ ap (λ (i : ℕ). take at old ++ drop i old) (sym e)

pub pair_set : (b : List ℕ) (i j k x y u v : ℕ) → j ≡ k → x ≡ u → y ≡ v → set (set b i x) j y ≡ set (set b i u) k v
pair_set b i j k x y u v e f g = ap (λ (n : ℕ). set (set b i x) n y) e ∙ (ap (λ (n : ℕ). set (set b i n) k y) f ∙ ap (λ (n : ℕ). set (set b i u) k n) g)

-- one pair behind others
pub pair_then : (b between c : List ℕ) (i j k l x y u v : ℕ) → between ≡ b → i ≡ l → j ≡ k → x ≡ u → y ≡ v → c ≡ set (set between i x) j y
    → c ≡ set (set b l u) k v
pair_then b between c i j k l x y u v d h e f g is =
    is ∙ (ap (λ (m : List ℕ). set (set m i x) j y) d ∙ (ap (λ (n : ℕ). set (set b n x) j y) h ∙ pair_set b l j k x y u v e f g))
