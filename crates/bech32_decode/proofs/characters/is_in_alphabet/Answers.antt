use Rattle.std.proofs.Common.{◌≡◌, ◌↔◌, Bool, true, false, not, refl}
use Rattle.bech32_decode.proofs.characters.is_in_alphabet.Goals as goal

other : (stranger inside : Bool) → stranger ≡ true ↔ inside ≡ false → not stranger ≡ inside
other true true h = let no_ : true ≡ false = h.0 refl in absurd cc
other true false h = refl
other false true h = refl
other false false h = let no_ : false ≡ true = h.1 refl in absurd cc

pub returns : goal.returns
returns c = other c.is_stranger.result _ c.is_stranger.ensures
