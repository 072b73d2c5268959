-- A text of which pieces went out.
use Rattle.std.proofs.Common.{◌≡◌, ◌≤◌, ◌+◌, ℕ, List, ◌++◌, length, length-append, take, drop, Option, Result, Ok, Err, OnErr, ap, sym, subst, ◌∙◌, refl, append_assoc, arith}
use Rattle.std.proofs.Math.Seq.{take-add}
use Rattle.std.proofs.lemmas.List.{take_at, drop_at, take-append-le}
use Rattle.std.specs.Io.KnownBytes.{Appends}
use Rattle.io_traits.proofs.Known.{Appends-then}

-- one piece more
pub gone_more : (all gone middle piece rest : List ℕ) → all ≡ gone ++ middle → middle ≡ piece ++ rest → all ≡ (gone ++ piece) ++ rest
gone_more all gone middle piece rest e f = e ∙ ap (λ (l : List ℕ). gone ++ l) f ∙ sym (append_assoc gone piece rest)

-- a beginning of a piece behind those that are gone
beginning : (gone piece rest : List ℕ) (n : ℕ) → n ≤ length piece → take (length gone + n) (gone ++ (piece ++ rest)) ≡ gone ++ take n piece
beginning gone piece rest n few =
    let behind : List ℕ = piece ++ rest in
    take-add (length gone) n (gone ++ behind)
    ∙ ap (λ (l : List ℕ). l ++ take n (drop (length gone) (gone ++ behind))) (take_at gone behind (length gone) refl)
    ∙ ap (λ (l : List ℕ). gone ++ take n l) (drop_at gone behind (length gone) refl)
    ∙ ap (λ (l : List ℕ). gone ++ l) (take-append-le n piece rest few)

-- where a beginning of the next piece went out, a beginning of the text did
pub beginning_more : (u v w : Option (List ℕ)) (all gone middle piece rest : List ℕ) → all ≡ gone ++ middle → middle ≡ piece ++ rest → Appends u v gone
    → ((n : ℕ) × (n ≤ length piece) × Appends v w (take n piece)) → (n : ℕ) × (n ≤ length all) × Appends u w (take n all)
beginning_more u v w all gone middle piece rest e f before (n, few, next) =
    let whole : all ≡ gone ++ (piece ++ rest) = e ∙ ap (λ (l : List ℕ). gone ++ l) f in
    let long : length all ≡ length gone + length (piece ++ rest) = ap length whole ∙ length-append gone (piece ++ rest) in
    let behind : length (piece ++ rest) ≡ length piece + length rest = length-append piece rest in (
      length gone + n,
      omega arith,
      subst (Appends u w) (sym (ap (take (length gone + n)) whole ∙ beginning gone piece rest n few)) (Appends-then u v w gone (take n piece) before next),
    )

-- what holds, holds of an error
pub on_err-always : {T E P : Type 0} (r : Result T E) → P → OnErr r P
on_err-always (Ok x) p = tt
on_err-always (Err e) p = p
