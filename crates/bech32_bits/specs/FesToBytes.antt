-- What an iterator of bytes over one of elements gives.
use Rattle.std.specs.Prelude.{◌≡◌, ℕ, Bool, List, ◌++◌, Option}
use Rattle.std.specs.Iterator.{Count, count_map}
use Rattle.std.specs.declared.iter.Fuse.{Fuse}
use Rattle.bech32_bits.specs.Bits.{bits, fe_bits, cut_bytes, count_bytes}
use Rattle.bech32_bits.specs.Adaptor.{Adapts, fuse_can, fuse_left}
use Rattle.bech32_bits.specs.declared.FesToBytes.{FesToBytes}
use Rattle.bech32_gf.specs.declared.gf32.Fe32.{Fe32}

-- the iterator of elements inside
abbrev pub bytes_source : {I : Type 0} → FesToBytes I → Fuse I
bytes_source s = s.fes

-- the bytes of the bits that are held, and then of those of the elements that come
abbrev pub bytes_gives : {I : Type 0} → FesToBytes I → List Fe32 → List ℕ
bytes_gives s fes = cut_bytes s.padded (bits s.count s.held.value ++ fe_bits fes)

-- a last part shorter than eight bits is filled, not dropped
abbrev pub bytes_padded : {I : Type 0} → FesToBytes I → Bool
bytes_padded s = s.padded

-- a clone holds the same bits, over a clone of the source, and treats a last part alike
pub record IsBytesClone {I : Type 0}
    (is_clone : Fuse I → Fuse I → Type 0) (s t : FesToBytes I) : Type 0 where
  pub source : is_clone (bytes_source s) (bytes_source t)
  pub held : t.held ≡ s.held
  pub count : t.count ≡ s.count
  pub padded : t.padded ≡ s.padded

-- what a call of `next` does
abbrev pub bytes_steps : {I : Type 0} → (I → Option Fe32 → I → Type 0) → FesToBytes I → Option ℕ
    → FesToBytes I → Type 0
bytes_steps steps = Adapts steps bytes_source bytes_gives

-- `next` may be called
abbrev pub bytes_can : {I : Type 0} → (I → Type 0) → FesToBytes I → Type 0
bytes_can can s = fuse_can can (bytes_source s)

-- how many bytes come where this many elements do
abbrev pub bytes_from : {I : Type 0} → FesToBytes I → ℕ → ℕ
bytes_from s n = count_bytes s.padded s.count n

-- how many bytes are to come, from how many elements are
abbrev pub bytes_left : {I : Type 0} → (I → Count) → FesToBytes I → Count
bytes_left left s = count_map (bytes_from s) (fuse_left left (bytes_source s))
