-- What readers of elements and of bytes have left.
use Rattle.std.specs.Prelude.{ℕ, if◌then◌else◌, List, []}
use Rattle.std.specs.Iterator.Adapters.{fuse_source, fuse_done}
use Rattle.std.specs.declared.iter.Fuse.{Fuse}
use Rattle.bech32_gf.specs.Fe32.{elements_of}
use Rattle.bech32_gf.specs.declared.gf32.Fe32.{Fe32}
use Rattle.bech32_bits.specs.FesToBytes.{bytes_source, bytes_gives}
use Rattle.bech32_decode.specs.declared.byte_reader.ByteIter.{ByteIter}
use Rattle.bech32_decode.specs.declared.reader.AsciiToFe32Iter.{AsciiToFe32Iter}

-- the elements that are to come
abbrev pub elements_left : AsciiToFe32Iter → List Fe32
elements_left s = elements_of s.rest.now

-- the elements that a reader has left, and none once it has ended
abbrev pub fused_left : Fuse AsciiToFe32Iter → List Fe32
fused_left s = if fuse_done s then [] else elements_left (fuse_source s)

-- the bytes that are to come
abbrev pub bytes_to_come : ByteIter → List ℕ
bytes_to_come s = bytes_gives s.iter (fused_left (bytes_source s.iter))
