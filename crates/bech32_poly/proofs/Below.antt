-- An element that comes in below a list, so that the last one falls out.
use Rattle.std.proofs.Common.{◌≡◌, ℕ, zero, suc, ◌+◌, ◌<◌, ◌≤◌, List, [], ◌∷◌, ◌++◌, length, get_or, take, drop, set, ap, sym, ◌∙◌, refl, arith}
use Rattle.std.proofs.lemmas.List.{take_all, drop_all, append-nil}
use Rattle.bech32_gf.specs.Field.{Ops, IsField}
use Rattle.bech32_poly.specs.Division.{push, top}
use Rattle.bech32_poly.proofs.Remainder.{length-push}

place_moved : {F : Type 0} (a : F) (r : List F) (i : ℕ) → i < length r
    → set (take i (push a r) ++ drop i r) i (top a (take i r)) ≡ take (suc i) (push a r) ++ drop (suc i) r
place_moved a [] i h = absurd (omega arith)
place_moved a (b ∷ r) zero h = refl
place_moved a (b ∷ r) (suc i) h = ap (λ u. a ∷ u) (place_moved b r i (omega arith))

-- the last one of one place more
pub out_next : {F : Type 0} (a d : F) (r : List F) (i : ℕ) → i < length r → top a (take (suc i) r) ≡ get_or r i d
out_next a d [] i h = absurd (omega arith)
out_next a d (b ∷ r) zero h = refl
out_next a d (b ∷ r) (suc i) h = out_next b d r i (omega arith)

-- what is still to move is as it was
still_there : {F : Type 0} (a d : F) (r : List F) (i : ℕ) → i < length r → get_or (take i (push a r) ++ drop i r) i d ≡ get_or r i d
still_there a d [] i h = absurd (omega arith)
still_there a d (b ∷ r) zero h = refl
still_there a d (b ∷ r) (suc i) h = still_there b d r i (omega arith)

-- one place, as a loop moves it
pub moved_next : {F : Type 0} (a coming : F) (r rest : List F) (i : ℕ) → i < length r
    → rest ≡ take i (push a r) ++ drop i r → coming ≡ top a (take i r)
    → set rest i coming ≡ take (i + 1) (push a r) ++ drop (i + 1) r
moved_next a coming r rest i h before out =
    let e : suc i ≡ i + 1 = omega arith in
    ap (λ u. set u i coming) before
    ∙ ap (set (take i (push a r) ++ drop i r) i) out
    ∙ place_moved a r i h
    ∙ ap (λ n. take n (push a r) ++ drop n r) e

-- and what it takes out
pub out_at : {F : Type 0} (a here : F) (r rest : List F) (i : ℕ) → i < length r
    → rest ≡ take i (push a r) ++ drop i r → here ≡ get_or rest i here → here ≡ top a (take (i + 1) r)
out_at a here r rest i h before read =
    let e : suc i ≡ i + 1 = omega arith in
    read ∙ ap (λ u. get_or u i here) before ∙ still_there a here r i h ∙ sym (out_next a here r i h)
    ∙ ap (λ n. top a (take n r)) e

-- all moved
pub all_moved : {F : Type 0} {o : Ops F} (l : IsField o) (a : F) (r rest : List F) (i : ℕ) → length r ≤ i
    → rest ≡ take i (push a r) ++ drop i r → rest ≡ push a r
all_moved l a r rest i h before =
    before
    ∙ ap (λ u. take i (push a r) ++ u) (drop_all i r h)
    ∙ append-nil (take i (push a r))
    ∙ take_all i (push a r) (omega (arith, length-push l a r))
