-- What loops from the last element of a list to the first have before them, and lists that are written over as a whole.
use Rattle.std.proofs.Common.{◌≡◌, ℕ, suc, ◌-◌, ◌<◌, ◌≤◌, List, ◌∷◌, ◌++◌, length, get_or, take, drop, sym, ap, ◌∙◌, arith}
use Rattle.std.specs.List.{refill}
use Rattle.std.proofs.Math.Seq.{drop-cons}
use Rattle.std.proofs.lemmas.List.{drop_all, take_all, append-nil}

-- one place further down
pub drop_back : {A : Type 0} (xs : List A) (i : ℕ) (x : A) → 0 < i → i ≤ length xs → x ≡ get_or xs (i - 1) x → drop (i - 1) xs ≡ x ∷ drop i xs
drop_back xs i x some within read =
    let e : suc (i - 1) ≡ i = omega arith in
    drop-cons xs (i - 1) x (omega arith) ∙ ap (λ u. u ∷ drop (suc (i - 1)) xs) (sym read) ∙ ap (λ n. x ∷ drop n xs) e

-- at the first place all stands before a loop
pub drop_none : {A : Type 0} (xs : List A) (i : ℕ) → i ≤ 0 → drop i xs ≡ xs
drop_none xs i h = let e : i ≡ 0 = omega arith in ap (λ n. drop n xs) e

-- a list that is written over as it is long
pub written_over : {F : Type 0} (xs ws : List F) → length ws ≡ length xs → refill (length xs) xs ws ≡ ws
written_over xs ws same =
    ap (λ u. take (length xs) (ws ++ u)) (drop_all (length ws) xs (omega arith))
    ∙ ap (take (length xs)) (append-nil ws)
    ∙ take_all (length xs) ws (omega arith)
