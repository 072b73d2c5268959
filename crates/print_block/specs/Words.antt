-- The block that words ask for.
use Rattle.std.specs.Prelude.{◌≡◌, ℕ, List, map, true}
use Rattle.std.specs.List.{All}
use Rattle.bech32_block.specs.Print.{IsBlock}
use Rattle.bech32_block.specs.Roots.{RootField}
use Rattle.bech32_gf.specs.Alphabet.{is_of_alphabet}
use Rattle.bech32_gf.specs.Fe32.{element_of}
use Rattle.bech32_gf.specs.declared.gf32.Fe32.{Fe32}

-- each byte is a character of the alphabet, in either case
abbrev pub IsOfAlphabet : List ℕ → Type 0
IsOfAlphabet word = All (λ c. is_of_alphabet c ≡ true) word

-- each byte is a character of the alphabet, and these are the elements for which they stand
pub record AreElementsOf (word : List ℕ) (elements : List Fe32) : Type 0 where
  pub of_alphabet : IsOfAlphabet word
  pub elements_are : elements ≡ map element_of word

-- the text is the block of this name, with the generator and the target of these words
pub record IsBlockOfWords {E : Type 0} (f : RootField E)
    (code : E → List ℕ) (field name generator target text : List ℕ)
    : Type 0 where
  pub generator_elements : List Fe32
  pub target_elements : List Fe32
  pub of_generator : AreElementsOf generator generator_elements
  pub of_target : AreElementsOf target target_elements
  pub is_block : IsBlock f code field name generator_elements target_elements text
