-- What a block is printed from, and that it is the block of a generator and a target.
use Rattle.std.specs.Prelude.{◌≡◌, ℕ, List}
use Rattle.bech32_gf.specs.declared.gf32.Fe32.{Fe32}
use Rattle.bech32_block.specs.Block.{block_text}
use Rattle.bech32_block.specs.Constants.{Constants, AreConstants}
use Rattle.bech32_block.specs.Roots.{RootField}
use Rattle.bech32_block.specs.declared.print.PrintImpl.{PrintImpl}

-- the constants that it has
abbrev pub constants_of : {E : Type 0} → PrintImpl E → Constants E
constants_of p = record {
  base = p.roots.base;
  start = p.roots.start;
  end = p.roots.end;
  code_length = p.roots.code_length;
  words = p.words.generator;
  target = p.words.target;
}

-- the text that it is shown as
abbrev pub block_of : {E : Type 0} → (E → List ℕ) → PrintImpl E → List ℕ
block_of code p =
    block_text code p.field.now p.name.now p.generator.now p.target.now (constants_of p)

-- the text is the block of the checksum with this name, generator and target
pub record IsBlock {E : Type 0} (f : RootField E) (code : E → List ℕ) (field name : List ℕ)
    (generator target : List Fe32) (text : List ℕ) : Type 0 where
  pub constants : Constants E
  pub are_constants : AreConstants f generator target constants
  pub text_is : text ≡ block_text code field name generator target constants
