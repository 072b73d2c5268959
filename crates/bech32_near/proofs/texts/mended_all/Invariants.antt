use Rattle.std.specs.Prelude.{string_bytes}
use Rattle.std.specs.List.{AllByRecursion}
use Rattle.std.specs.Vec.Iter.{into_iter_items, into_iter_len}
use Rattle.std.proofs.Common.{◌≡◌, ◌++◌, length, map}
use Rattle.bech32_correction.specs.Mistyped.{IsMendedText}
use Rattle.bech32_near.proofs.texts.mended_all.Given as goal

abbrev pub invariant-loop-listing : goal.invariant-loop-listing
invariant-loop-listing g l = record {
  rest : l.yielded ++ into_iter_items l.listing-iterator ≡ l.fn.listings.items;
  left : into_iter_len l.listing-iterator ≡ length (into_iter_items l.listing-iterator);
  mended : (map (λ m. m.listing) l.texts.items ≡ l.yielded)
      × AllByRecursion (λ m. IsMendedText m.listing l.text (string_bytes m.text)) l.texts.items;
}
