-- What a call returns that ends as what was made is put into a buffer.
use Rattle.std.specs.Prelude.{IsOk, IfErr, MatchResult}
use Rattle.std.proofs.Common.{◌≡◌, ◌<◌, ℕ, List, length, Result, Ok, Err, refl, sym, subst}
use Rattle.bech32_encode.specs.Buffers.{IsPut}
use Rattle.codex32_calls.specs.declared.refusal.Refusal.{Refusal}
use Rattle.codex32_calls.specs.declared.refusal.Refusal.TheVariants as refusals

abbrev pub PutsMade : Result ℕ Refusal → List ℕ → List ℕ → List ℕ → Type 0
PutsMade r made old new =
    MatchResult r (λ n. IsPut made old new n)
    (λ e. (e ≡ refusals.NoRoom) × (length old < length made) × (new ≡ old))

-- it returns a number where there is room
pub accepts-from_made : (r : Result ℕ Refusal) (made old new : List ℕ) → PutsMade r made old new → (length old < length made → ⊥) → IsOk r
accepts-from_made (Ok n) made old new h room = refl
accepts-from_made (Err e) made old new h room = absurd (room h.1)

-- and else is refused as it may be where there is none
pub refused-from_made : (P : Refusal → Type 0) (r : Result ℕ Refusal) (made old new : List ℕ) → PutsMade r made old new → (length old < length made → P refusals.NoRoom) → IfErr r P
refused-from_made P (Ok n) made old new h lacks = tt
refused-from_made P (Err e) made old new h lacks = subst P (sym h.0) (lacks h.1)
