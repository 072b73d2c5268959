-- What a text is decoded to: its bytes, or its elements.
use Rattle.std.proofs.Common.{◌≡◌, ◌≤◌, ◌∙◌, ◌++◌, ℕ, List, [], length, drop, sym, ap, append-nil, arith}
use Rattle.std.proofs.lemmas.List.{drop_all, length-map}
use Rattle.bech32_gf.specs.Fe32.{element_of, elements_of, value}
use Rattle.bech32_checksum.specs.Code.{Code}
use Rattle.bech32_decode.specs.Acceptance.{IsAccepted}
use Rattle.bech32_decode.specs.BeforeChecksum.{IsBeforeChecksum}
use Rattle.bech32.specs.Contents.{IsContentOf, IsContentRefusal, IsTested, content_of}
use Rattle.bech32.specs.declared.content.Content.{Content}
use Rattle.bech32.specs.declared.content.Content.TheVariants.{Bytes, Elements}
use Rattle.bech32_refusals.specs.declared.texts.TextError.TheVariants.{Memory}
use Rattle.bech32.proofs.Spellings.{spells-from_padded}

-- a buffer of its size holds what was put at its front
pub whole_buffer : (items old new : List ℕ) (count : ℕ) → new ≡ items ++ drop count old → count ≡ length items → length old ≡ length items → new ≡ items
whole_buffer items old new count put all size =
    put ∙ ap (λ (l : List ℕ). items ++ l) (drop_all count old (omega (arith, all, size))) ∙ append-nil items

-- elements are as many as their characters
pub elements-size : (characters : List ℕ) → length characters ≡ length (content_of Elements characters)
elements-size characters = sym (length-map (elements_of characters) value ∙ length-map characters element_of)

module _ (code : Code) (text hrp data_part characters : List ℕ) (a : IsAccepted code text hrp data_part) (b : IsBeforeChecksum code data_part characters) where
  -- what is decoded of the parts of a text
  pub content-from_parts : (content : Content) (items : List ℕ) → IsTested content (elements_of characters) → items ≡ content_of content characters → IsContentOf content code text hrp items
  content-from_parts Bytes items tested is =
      record { data_part = data_part; accepted = a; characters = characters; before = b; padded = tested; bytes_are = is }
  content-from_parts Elements items tested is =
      record { data_part = data_part; accepted = a; characters = characters; before = b; values_are = is }

  -- out of memory
  pub no_content : (content : Content) → IsTested content (elements_of characters) → IsContentRefusal content code text Memory
  no_content Bytes tested = spells-from_padded code text hrp data_part characters a b tested
  no_content Elements tested = (hrp, data_part, a)
