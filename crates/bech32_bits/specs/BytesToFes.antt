-- What an iterator of elements over one of bytes gives.
use Rattle.std.specs.Prelude.{◌≡◌, ℕ, List, ◌++◌, Option}
use Rattle.std.specs.Iterator.{Count, count_map}
use Rattle.std.specs.declared.iter.Fuse.{Fuse}
use Rattle.bech32_bits.specs.Bits.{bits, byte_bits, cut_in_fives, fes_count}
use Rattle.bech32_bits.specs.Adaptor.{Adapts, fuse_can, fuse_left}
use Rattle.bech32_bits.specs.declared.BytesToFes.{BytesToFes}
use Rattle.bech32_gf.specs.declared.gf32.Fe32.{Fe32}

-- the iterator of bytes inside
abbrev pub fes_source : {I : Type 0} → BytesToFes I → Fuse I
fes_source s = s.bytes

-- the elements of the bits that are held, and then of those of the bytes that come
abbrev pub fes_gives : {I : Type 0} → BytesToFes I → List ℕ → List Fe32
fes_gives s bytes = cut_in_fives (bits s.count s.held ++ byte_bits bytes)

-- a clone holds the same bits, over a clone of the source
pub record IsFesClone {I : Type 0} (is_clone : Fuse I → Fuse I → Type 0)
    (s t : BytesToFes I) : Type 0 where
  pub source : is_clone (fes_source s) (fes_source t)
  pub held : t.held ≡ s.held
  pub count : t.count ≡ s.count

-- what a call of `next` does
abbrev pub fes_steps : {I : Type 0} → (I → Option ℕ → I → Type 0) → BytesToFes I → Option Fe32
    → BytesToFes I → Type 0
fes_steps steps = Adapts steps fes_source fes_gives

-- `next` may be called
abbrev pub fes_can : {I : Type 0} → (I → Type 0) → BytesToFes I → Type 0
fes_can can s = fuse_can can (fes_source s)

-- how many elements come where this many bytes do
abbrev pub fes_from : {I : Type 0} → BytesToFes I → ℕ → ℕ
fes_from s n = fes_count s.count n

-- how many elements are to come, from how many bytes are
abbrev pub fes_left : {I : Type 0} → (I → Count) → BytesToFes I → Count
fes_left left s = count_map (fes_from s) (fuse_left left (fes_source s))
