-- The texts near a mistyped one by Blech32 put into a buffer, and why none are.
use Rattle.std.specs.Prelude.{◌≡◌, ◌<◌, ◌≤◌, ◌+◌, ◌*◌, ◌⊎◌, ℕ, List, [], length, take}
use Rattle.bech32_gf.specs.declared.gf32.Fe32.{Fe32}
use Rattle.bech32_checksum.specs.Code.{Code}
use Rattle.bech32_checksum.specs.Roots.{singleton_bound}
use Rattle.bech32_bch.specs.Erasures.{with_erasures}
use Rattle.bech32_correction.specs.Given.{AreWithin}
use Rattle.bech32_decode.specs.Text.{IsText}
use Rattle.bech32_encode.specs.Buffers.{IsPut}
use Rattle.bech32_near.specs.NearTexts.{AreNearTexts, IsOutOfMemory}
use Rattle.caller_memory.specs.Memory.{IsKept}
use Rattle.caller_memory.specs.declared.memory.Memory.{Memory as Lent}
use Rattle.bech32_calls.specs.Correct.{IsResidueFault}
use Rattle.bech32_calls.specs.Fitting.{FirstFit, IsMost}
use Rattle.bech32_calls.specs.Nearest.{IsRead, joined}
use Rattle.bech32_calls.specs.declared.refusal.Refusal.{Refusal}
use Rattle.bech32_calls.specs.declared.refusal.Refusal.TheVariants.{BadNumber, Memory}

-- Of Blech32, the powers 1 to 6 of the base are roots of the generator: twice the errors outside
-- the erasures, with the erasures, may be six at most for a text to have one correction.
abbrev pub liquid_bound : ℕ
liquid_bound = singleton_bound 1 6

-- the most errors that are looked for, and the most that twice the errors, with the different given
-- locations, may be
abbrev pub most_liquid_errors : ℕ
most_liquid_errors = 3

abbrev pub most_liquid_sought : ℕ
most_liquid_sought = 7

-- so many errors may be looked for, with these locations given: where these are more than the
-- bound there is nothing to search
abbrev pub IsLiquidAsked : List ℕ → ℕ → Type 0
IsLiquidAsked given errors = (errors ≤ most_liquid_errors)
    × ((liquid_bound < length (with_erasures [] given))
    ⊎ (2 * errors + length (with_erasures [] given) ≤ most_liquid_sought))

-- there is something to search in the text: the given locations are in the data part, and no more
-- than the bound
abbrev pub IsLiquidSearched : List ℕ → List ℕ → Type 0
IsLiquidSearched text given = (hrp : List ℕ) × (data_part : List ℕ)
    × IsText text hrp data_part × AreWithin (length data_part) liquid_bound given

-- this many texts near this one, which are all, are put into a buffer, one behind another; so many
-- errors may be looked for, and each text has the length of this one
pub record PutsLiquidNear (code : Code) (text given : List ℕ) (errors : ℕ)
    (old new : List ℕ) (count : ℕ) : Type 0 where
  pub asked : IsLiquidAsked given errors
  pub found : List (List (ℕ × Fe32) × List ℕ)
  pub near : AreNearTexts code liquid_bound text given errors found
  pub count_is : count ≡ length found
  pub put : IsPut (joined found) old new (count * length text)

-- this many texts near this one, which are all, do not fit in a buffer: the most of them that fit,
-- the first ones, are put there
pub record PutsFirstLiquidNear (code : Code) (text given : List ℕ) (errors : ℕ)
    (old new : List ℕ) (count : ℕ) : Type 0 where
  pub asked : IsLiquidAsked given errors
  pub found : List (List (ℕ × Fe32) × List ℕ)
  pub near : AreNearTexts code liquid_bound text given errors found
  pub count_is : count ≡ length found
  pub put_count : ℕ
  pub lacks : put_count < length found
  pub most : IsMost (FirstFit (λ m. m.1) found (length old)) (length found) put_count
  pub put : IsPut (joined (take put_count found)) old new (put_count * length text)

-- why no texts are put into a buffer: so many errors may not be looked for; else no residue of the
-- text is read; or one is, there is something to search, and memory runs out
abbrev pub IsLiquidNearFault : Code → List ℕ → List ℕ → ℕ → Refusal → Type 0
IsLiquidNearFault code text given errors BadNumber = (IsLiquidAsked given errors → ⊥)
IsLiquidNearFault code text given errors Memory =
    IsLiquidAsked given errors
    × (IsLiquidSearched text given × IsOutOfMemory code liquid_bound text given errors)
IsLiquidNearFault code text given errors e =
    IsLiquidAsked given errors × IsResidueFault text code e

-- why no texts are put into a buffer; or memory that had bytes did not come back: then nothing is
-- said but that so many errors may be looked for, that there is something to search, and that the
-- residue of the text is read
abbrev pub IsLiquidNearFaultOrKept : Code → List ℕ → List ℕ → ℕ → Lent → Lent → Refusal → Type 0
IsLiquidNearFaultOrKept code text given errors old new e =
    IsLiquidNearFault code text given errors e
    ⊎ ((e ≡ Memory) × IsKept old new × IsLiquidAsked given errors
    × IsLiquidSearched text given × IsRead text code)
