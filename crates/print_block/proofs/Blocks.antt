-- Blocks and refusals of words, by those of their elements.
use Rattle.std.proofs.Common.{◌≡◌, ◌≢◌, ℕ, List, length, map, sym, subst}
use Rattle.bech32_block.specs.Print.{IsBlock}
use Rattle.bech32_block.specs.Roots.{RootField}
use Rattle.bech32_gf.specs.Fe32.{element_of}
use Rattle.bech32_gf.specs.declared.gf32.Fe32.{Fe32}
use Rattle.print_block.specs.Refusals.{IsElementsRefusal, IsWordRefusal, IsWordsRefusal, OfElements}
use Rattle.print_block.specs.Words.{AreElementsOf, IsBlockOfWords, IsOfAlphabet}
use Rattle.print_block.specs.declared.error.BlockError.{BlockError}
use Rattle.print_block.specs.declared.error.BlockError.TheVariants.{Name, Character, Generator, Target, Print, Memory}

-- one of the words is refused
pub word_refused : {E : Type 0} (f : RootField E) (name generator target word : List ℕ) (e : BlockError) → length name ≢ 0
    → (IsOfAlphabet generator → IsOfAlphabet target → IsOfAlphabet word) → IsWordRefusal word e → IsWordsRefusal f name generator target e
word_refused f name generator target word (Character c) some into none = (some, λ a b. none (into a b))
word_refused f name generator target word Memory some into none = some
word_refused f name generator target word Name some into none = absurd none
word_refused f name generator target word Generator some into none = absurd none
word_refused f name generator target word Target some into none = absurd none
word_refused f name generator target word (Print e) some into none = absurd none

of_elements : (holds : List Fe32 → List Fe32 → Type 0) (generator target : List ℕ) (g t : List Fe32) → AreElementsOf generator g → AreElementsOf target t
    → holds g t → OfElements holds generator target
of_elements holds generator target g t a b h = (
  a.of_alphabet,
  b.of_alphabet,
  subst (holds (map element_of generator)) b.elements_are (subst (λ u. holds u t) a.elements_are h),
)

-- their elements are refused
pub elements_refused : {E : Type 0} (f : RootField E) (name generator target : List ℕ) (g t : List Fe32) (e : BlockError) → length name ≢ 0
    → AreElementsOf generator g → AreElementsOf target t → IsElementsRefusal f g t e → IsWordsRefusal f name generator target e
elements_refused f name generator target g t Generator some a b h =
    (some, of_elements (λ g t. IsElementsRefusal f g t Generator) generator target g t a b h)
elements_refused f name generator target g t Target some a b h =
    (some, of_elements (λ g t. IsElementsRefusal f g t Target) generator target g t a b h)
elements_refused f name generator target g t (Print e) some a b h =
    (some, of_elements (λ g t. IsElementsRefusal f g t (Print e)) generator target g t a b h)
elements_refused f name generator target g t Memory some a b h = some
elements_refused f name generator target g t Name some a b h = absurd h
elements_refused f name generator target g t (Character c) some a b h = absurd h

-- the elements of a word are those of the bytes that it has
pub elements_of_bytes : (word bytes : List ℕ) (items slice : List Fe32) → bytes ≡ word → slice ≡ items → AreElementsOf bytes items → AreElementsOf word slice
elements_of_bytes word bytes items slice e h a = subst (λ w. AreElementsOf w slice) e (subst (AreElementsOf bytes) (sym h) a)

pub block_of_both : {E : Type 0} (f : RootField E) (code : E → List ℕ) (field name generator target text : List ℕ) (g t : List Fe32)
    → AreElementsOf generator g → AreElementsOf target t → IsBlock f code field name g t text → IsBlockOfWords f code field name generator target text
block_of_both f code field name generator target text g t a b h =
    record { generator_elements = g; target_elements = t; of_generator = a; of_target = b; is_block = h }
