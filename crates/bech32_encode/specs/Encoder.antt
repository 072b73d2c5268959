-- What an encoder holds, and its iterators before the first call.
use Rattle.std.specs.Prelude.{◌≡◌, false, Option}
use Rattle.std.specs.Iterator.Adapters.{fuse_source, fuse_done}
use Rattle.std.specs.declared.iter.Fuse.{Fuse}
use Rattle.bech32_gf.specs.declared.gf32.Fe32.{Fe32}
use Rattle.bech32_hrp.specs.declared.Hrp.{Hrp}
use Rattle.bech32_encode.specs.WitnessVersion.{version_source, version_to_come}
use Rattle.bech32_encode.specs.declared.Encoder.{Encoder}
use Rattle.bech32_encode.specs.declared.version.WitnessVersionIter.{WitnessVersionIter}

-- the elements
abbrev pub encoder_elements : {I Ck : Type 0} → Encoder I Ck → I
encoder_elements e = e.elements

-- the human-readable part
abbrev pub encoder_hrp : {I Ck : Type 0} → Encoder I Ck → Hrp
encoder_hrp e = e.hrp.now

-- the witness version, where there is one
abbrev pub encoder_version : {I Ck : Type 0} → Encoder I Ck → Option Fe32
encoder_version e = e.version

-- an iterator over the encoder's version and elements, of which nothing was asked yet
pub record IsFreshOver {I Ck : Type 0} (e : Encoder I Ck)
    (source : Fuse (WitnessVersionIter I)) : Type 0 where
  pub fresh : fuse_done source ≡ false
  pub version : version_to_come (fuse_source source) ≡ encoder_version e
  pub elements : fuse_source (version_source (fuse_source source)) ≡ encoder_elements e
  pub elements_fresh : fuse_done (version_source (fuse_source source)) ≡ false
