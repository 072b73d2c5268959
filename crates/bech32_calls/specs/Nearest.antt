-- The texts near a mistyped one put into a buffer, and why none are.
use Rattle.std.specs.Prelude.{◌≡◌, ◌<◌, ◌≤◌, ◌*◌, ◌⊎◌, ℕ, List, length, flat_map, take}
use Rattle.bech32_gf.specs.declared.gf32.Fe32.{Fe32}
use Rattle.bech32_checksum.specs.Code.{Code}
use Rattle.bech32_encode.specs.Buffers.{IsPut}
use Rattle.bech32_near.specs.NearTexts.{AreNearTexts, IsOutOfMemory}
use Rattle.bech32_correction.specs.Mistyped.{HasResidue}
use Rattle.caller_memory.specs.Memory.{IsKept}
use Rattle.caller_memory.specs.declared.memory.Memory.{Memory as Lent}
use Rattle.bech32_calls.specs.Checksums.{ForChecksum, IsFaultBy}
use Rattle.bech32_calls.specs.Correct.{IsResidueFault, bound}
use Rattle.bech32_calls.specs.Fitting.{FirstFit, IsMost}
use Rattle.bech32_calls.specs.declared.refusal.Refusal.{Refusal}
use Rattle.bech32_calls.specs.declared.refusal.Refusal.TheVariants.{BadNumber, Memory}

-- the texts of mended ones, one behind another
abbrev pub joined : List (List (ℕ × Fe32) × List ℕ) → List ℕ
joined found = flat_map (λ m. m.1) found

-- this many texts near this one, which are all, are put into a buffer, one behind another; they are
-- asked for with two errors at most, and each has the length of this one
pub record PutsNear (text given : List ℕ) (errors : ℕ)
    (old new : List ℕ) (count : ℕ) (code : Code) : Type 0 where
  pub few : errors ≤ 2
  pub found : List (List (ℕ × Fe32) × List ℕ)
  pub near : AreNearTexts code bound text given errors found
  pub count_is : count ≡ length found
  pub put : IsPut (joined found) old new (count * length text)

-- this many texts near this one, which are all, do not fit in a buffer: the most of them that fit,
-- the first ones, are put there
pub record PutsFirstNear (text given : List ℕ) (errors : ℕ)
    (old new : List ℕ) (count : ℕ) (code : Code) : Type 0 where
  pub few : errors ≤ 2
  pub found : List (List (ℕ × Fe32) × List ℕ)
  pub near : AreNearTexts code bound text given errors found
  pub count_is : count ≡ length found
  pub put_count : ℕ
  pub lacks : put_count < length found
  pub most : IsMost (FirstFit (λ m. m.1) found (length old)) (length found) put_count
  pub put : IsPut (joined (take put_count found)) old new (put_count * length text)

-- the residue of a text is read
pub record IsRead (text : List ℕ) (code : Code) : Type 0 where
  pub hrp : List ℕ
  pub data_part : List ℕ
  pub residue : List Fe32
  pub read : HasResidue code text hrp data_part residue

-- why no texts are put into a buffer: more than two errors are asked for; else no residue of the
-- text is read; or one is, and memory runs out
abbrev pub IsNearFault : List ℕ → List ℕ → ℕ → Code → Refusal → Type 0
IsNearFault text given errors code BadNumber = 2 < errors
IsNearFault text given errors code Memory =
    (errors ≤ 2) × IsOutOfMemory code bound text given errors
IsNearFault text given errors code e = (errors ≤ 2) × IsResidueFault text code e

-- why no texts are put into a buffer; or memory that had bytes did not come back: then nothing is
-- said but that at most two errors are asked for, and that the residue of the text is read
abbrev pub IsNearFaultOrKept : ℕ → List ℕ → List ℕ → ℕ → Lent → Lent → Refusal → Type 0
IsNearFaultOrKept checksum text given errors old new e =
    IsFaultBy checksum (IsNearFault text given errors) e
    ⊎ ((e ≡ Memory) × IsKept old new × (errors ≤ 2) × ForChecksum checksum (IsRead text))
