-- Erasures counted one after another.
use Rattle.std.proofs.Common.{◌≡◌, ℕ, ◌+◌, ◌<◌, ◌≤◌, Bool, false, cond, List, [], ◌∷◌, ◌++◌, length, length-append, take, drop, get_or, sym, ap, ◌∙◌, arith}
use Rattle.std.proofs.lemmas.List.{take_more, take-append-drop}
use Rattle.bech32_bch.specs.Erasures.{has, with_erasures}
use Rattle.bech32_lookup.proofs.Added.{length-with_erasures, with_erasures-append}

-- one more location, with those before it
pub one_more : (given different : List ℕ) (i x : ℕ) → i < length given → get_or given i 0 ≡ x → different ≡ with_erasures [] (take i given)
    → with_erasures [] (take (i + 1) given) ≡ cond (has different x) different (different ++ x ∷ [])
one_more given different i x less at so_far =
    ap (with_erasures []) (take_more given i 0 less)
    ∙ with_erasures-append [] (take i given) (get_or given i 0 ∷ [])
    ∙ ap (λ (s : List ℕ). with_erasures s (get_or given i 0 ∷ [])) (sym so_far)
    ∙ ap (λ (y : ℕ). with_erasures different (y ∷ [])) at

-- they are more than those before it and itself, where it is new
pub more_with : (given different : List ℕ) (i x : ℕ) → i < length given → get_or given i 0 ≡ x → different ≡ with_erasures [] (take i given)
    → has different x ≡ false → length different < length (with_erasures [] given)
more_with given different i x less at so_far new =
    let added : length (different ++ x ∷ []) ≡ length different + 1 = length-append different (x ∷ []) in
    let all : with_erasures [] given ≡ with_erasures (with_erasures [] (take (i + 1) given)) (drop (i + 1) given) =
    ap (with_erasures []) (sym (take-append-drop (i + 1) given)) ∙ with_erasures-append [] (take (i + 1) given) (drop (i + 1) given) in
    let here : with_erasures [] (take (i + 1) given) ≡ different ++ x ∷ [] =
    one_more given different i x less at so_far ∙ ap (λ (b : Bool). cond b different (different ++ x ∷ [])) new in
    let rest : length (with_erasures [] (take (i + 1) given)) ≤ length (with_erasures (with_erasures [] (take (i + 1) given)) (drop (i + 1) given)) =
    length-with_erasures (with_erasures [] (take (i + 1) given)) (drop (i + 1) given) in
    omega (arith, ap length all, ap length here)
