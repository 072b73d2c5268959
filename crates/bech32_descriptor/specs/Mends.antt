-- The descriptors that one edit makes of a text.
use Rattle.std.specs.Prelude.{◌≡◌, ◌<◌, ◌≤◌, ℕ, List, length, map}
use Rattle.std.specs.List.{AllByRecursion}
use Rattle.bech32_descriptor.specs.Edits.{AreAllMends, IsMendWithin, made}
use Rattle.bech32_descriptor.specs.declared.edits.Edit.{Edit}
use Rattle.bech32_descriptor.specs.declared.error.MendError.{MendError}
use Rattle.bech32_descriptor.specs.declared.error.MendError.TheVariants.{Memory, TooLong}

-- the text is not too long, and these are all edits that make a descriptor of it and change at most
-- so many characters, each once and in order, and the texts that they make
pub record AreMends (most : ℕ) (text : List ℕ) (found : List (Edit × List ℕ)) : Type 0 where
  pub short : length text ≤ 7500
  pub edits : AreAllMends (IsMendWithin most text) (map (λ m. m.0) found)
  pub texts : AllByRecursion (λ m. m.1 ≡ made m.0 text) found

-- a text from which descriptors may come: it has at least so many characters, since none comes from
-- fewer, and at most so many
abbrev pub MayBeMended : ℕ → ℕ → List ℕ → Type 0
MayBeMended least longest text = (least ≤ length text) × (length text ≤ longest)

-- why they are not told: the text is too long; or they may come from it, and memory ran out
abbrev pub IsMendRefusal : ℕ → ℕ → List ℕ → MendError → Type 0
IsMendRefusal least longest text TooLong = longest < length text
IsMendRefusal least longest text Memory = MayBeMended least longest text
