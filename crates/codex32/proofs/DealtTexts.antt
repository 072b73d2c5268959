-- The shares as loops put them.
use Rattle.std.specs.Prelude.{slice_range}
use Rattle.std.proofs.Common.{◌≡◌, ℕ, ◌+◌, ◌-◌, ◌*◌, ◌<◌, ◌≤◌, List, length, take, drop, ap, subst, ◌∙◌, arith}
use Rattle.std.proofs.lemmas.List.{length-map}
use Rattle.bech32_gf.specs.Fe32.{element}
use Rattle.codex32.specs.Split.{IsPayloadString, drawn, drawn_for, split_index, string_size, text_at}
use Rattle.codex32.specs.declared.identifier.Identifier.{Identifier}
use Rattle.codex32.specs.declared.threshold.Threshold.{Threshold}
use Rattle.codex32.proofs.TextAt.{length-text_at}

-- the part of a list at a place
pub part-at : (m : ℕ) (xs : List ℕ) (j : ℕ) → slice_range xs (j * m) (j * m + m) ≡ text_at m xs j
part-at m xs j = let e : j * m + m - j * m ≡ m = omega arith in ap (λ (k : ℕ). take k (drop (j * m) xs)) e

pub length-part : (count m : ℕ) (xs : List ℕ) (j : ℕ) → count * m ≤ length xs → j < count → length (slice_range xs (j * m) (j * m + m)) ≡ m
length-part count m xs j room less = ap (λ (u : List ℕ). length u) (part-at m xs j) ∙ length-text_at count m xs j room less

pub length-drawn : (bytes : List ℕ) → length (drawn bytes) ≡ length bytes
length-drawn bytes = length-map bytes element

pub drawn-here : (t : Threshold) (i : Identifier) (count m : ℕ) (random new : List ℕ) (j : ℕ) → count * m ≤ length random → j < count
    → IsPayloadString t i (split_index j) (drawn (slice_range random (j * m) (j * m + m))) (text_at (string_size (length (slice_range random (j * m) (j * m + m)))) new j)
    → IsPayloadString t i (split_index j) (drawn_for m random j) (text_at (string_size m) new j)
drawn-here t i count m random new j room less is =
    subst (λ (u : List ℕ). IsPayloadString t i (split_index j) (drawn u) (text_at (string_size m) new j)) (part-at m random j)
    (subst (λ (k : ℕ). IsPayloadString t i (split_index j) (drawn (slice_range random (j * m) (j * m + m))) (text_at (string_size k) new j)) (length-part count m random j room less) is)
