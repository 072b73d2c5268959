-- The elements of the extension fields as Rust code.
use Rattle.std.specs.Prelude.{ℕ, List, ◌++◌, codes}
use Rattle.bech32_gf.specs.RustCode.{fe32_code, two_code}
use Rattle.bech32_gf_ext.specs.Fe1024 as fe1024
use Rattle.bech32_gf_ext.specs.Fe32768 as fe32768
use Rattle.bech32_gf_ext.specs.declared.Fe32Ext.{Fe32Ext}

-- a pair, as Rust code
abbrev pub fe1024_code : Fe32Ext 2 → List ℕ
fe1024_code x = codes "Fe32Ext { inner: [" ++ two_code (fe1024.low x) (fe1024.high x) ++ codes "] }"

-- a triple, as Rust code
abbrev pub fe32768_code : Fe32Ext 3 → List ℕ
fe32768_code x =
    codes "Fe32Ext { inner: [" ++ two_code (fe32768.low x) (fe32768.middle x) ++ codes ", "
    ++ fe32_code (fe32768.high x) ++ codes "] }"
