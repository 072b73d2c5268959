-- The block that the words of a command line ask for.
use Rattle.std.specs.Prelude.{◌==◌, ℕ, if◌then◌else◌, List, Option, Some, None, codes}
use Rattle.std.specs.Str.{bytes_eq}
use Rattle.bech32_block.specs.Roots.{RootField, root_field}
use Rattle.bech32_gf.specs.Fe32 as fe32
use Rattle.bech32_gf.specs.RustCode.{fe32_code}
use Rattle.bech32_gf.specs.declared.gf32.Fe32.{Fe32 as Element}
use Rattle.bech32_gf_ext.specs.ExtensionCode.{fe1024_code, fe32768_code}
use Rattle.bech32_gf_ext.specs.Fe1024 as fe1024
use Rattle.bech32_gf_ext.specs.Fe32768 as fe32768
use Rattle.bech32_gf_ext.specs.declared.Fe32Ext.{Fe32Ext}
use Rattle.bech32_gf_ext.specs.laws.Fe32ExtLaws.{are_equal}
use Rattle.print_block.specs.Refusals.{IsWordsRefusal}
use Rattle.print_block.specs.Words.{IsBlockOfWords}
use Rattle.print_block.specs.declared.asked.FieldName.{FieldName}
use Rattle.print_block.specs.declared.asked.FieldName.TheVariants.{Fe32, Fe1024, Fe32768}
use Rattle.print_block.specs.declared.error.BlockError.{BlockError}

-- the field that a word names; where there is no word, `Fe1024`
abbrev pub field_of : Option (List ℕ) → Option FieldName
field_of None = Some Fe1024
field_of (Some word) =
    if bytes_eq word (codes "Fe32") then Some Fe32
    else (if bytes_eq word (codes "Fe1024") then Some Fe1024
    else (if bytes_eq word (codes "Fe32768") then Some Fe32768 else None))

-- the fields: of 32 elements, of 1,024 and of 32,768
abbrev pub field_32 : RootField Element
field_32 = root_field fe32.ops (λ x y. fe32.value x == fe32.value y) (λ x. x) fe32.generator 31

abbrev pub field_1024 : RootField (Fe32Ext 2)
field_1024 = root_field fe1024.ops are_equal fe1024.embed fe1024.generator 1023

abbrev pub field_32768 : RootField (Fe32Ext 3)
field_32768 = root_field fe32768.ops are_equal fe32768.embed fe32768.generator 32767

-- the text is the block of these words, with the roots in this field
abbrev pub IsBlockOver : FieldName → List ℕ → List ℕ → List ℕ → List ℕ → Type 0
IsBlockOver Fe32 name generator target text =
    IsBlockOfWords field_32 fe32_code (codes "Fe32") name generator target text
IsBlockOver Fe1024 name generator target text =
    IsBlockOfWords field_1024 fe1024_code (codes "Fe1024") name generator target text
IsBlockOver Fe32768 name generator target text =
    IsBlockOfWords field_32768 fe32768_code (codes "Fe32768") name generator target text

-- why there is none
abbrev pub IsRefusalOver : FieldName → List ℕ → List ℕ → List ℕ → BlockError → Type 0
IsRefusalOver Fe32 name generator target e = IsWordsRefusal field_32 name generator target e
IsRefusalOver Fe1024 name generator target e = IsWordsRefusal field_1024 name generator target e
IsRefusalOver Fe32768 name generator target e = IsWordsRefusal field_32768 name generator target e
