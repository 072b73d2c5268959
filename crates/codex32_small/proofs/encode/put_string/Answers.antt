use Rattle.std.proofs.Common.{◌≡◌, ◌-◌, ◌∙◌, ◌++◌, ◌∷◌, ℕ, List, true, length, map, take, drop, sym, ap, subst, arith}
use Rattle.std.proofs.lemmas.List.{map-append, take_all}
use Rattle.bech32_checksum.specs.Code.{Code}
use Rattle.bech32_checksum.specs.Encoded.{char_of_element, spelled}
use Rattle.bech32_checksum.specs.TextPolynomial.{IsChecksumOf}
use Rattle.bech32_decode.proofs.Spelling.{characters-elements, spelled-text}
use Rattle.bech32_gf.specs.Alphabet.{is_data}
use Rattle.bech32_gf.specs.Fe32.{elements_of}
use Rattle.bech32_gf.specs.declared.gf32.Fe32.{Fe32}
use Rattle.codex32.proofs.ShareStrings.{hrp_of_strings}
use Rattle.codex32.specs.Header.{header_elements}
use Rattle.codex32_steady.specs.texts.Parts.{ms}
use Rattle.codex32_small.specs.Code.{code_of_kind}
use Rattle.codex32_small.specs.Given.{elements_given}
use Rattle.codex32_small.proofs.encode.put_string.Goals as goal

-- the front without its first three characters
behind : (front middle : List ℕ) (hs es : List Fe32) → front ≡ spelled ms hs → middle ≡ map char_of_element es
    → take (length (front ++ middle) - 3) (drop 3 (front ++ middle)) ≡ map char_of_element (hs ++ es)
behind front middle hs es f m =
    ap (λ (u : List ℕ). take (length (u ++ middle) - 3) (drop 3 (u ++ middle))) f
    ∙ take_all (length (spelled ms hs ++ middle) - 3) (map char_of_element hs ++ middle) (omega arith)
    ∙ ap (λ (v : List ℕ). map char_of_element hs ++ v) m
    ∙ sym (map-append char_of_element hs es)

of_alphabet : (es : List Fe32) → is_data (map char_of_element es) ≡ true
of_alphabet es = (spelled-text ms es hrp_of_strings).data_bytes

pub put_checksum-requires-clause-of_alphabet : goal.put_checksum-requires-clause-of_alphabet
put_checksum-requires-clause-of_alphabet c =
    let hs = header_elements c.args.header.now in
    let es = elements_given c.args.form c.args.payload.now in
    ap is_data (behind c.put_header.new.front c.put_payload.new.target hs es c.put_header.ensures c.put_payload.ensures) ∙ of_alphabet (hs ++ es)

pub returns : goal.returns
returns c =
    let hs = header_elements c.args.header.now in
    let es = elements_given c.args.form c.args.payload.now in
    let code : Code = code_of_kind c.args.kind in
    let front = c.put_header.new.front in
    let middle = c.put_payload.new.target in
    let (checksum, is, put) = c.put_checksum.ensures in
    let read = ap elements_of (behind front middle hs es c.put_header.ensures c.put_payload.ensures) ∙ characters-elements (hs ++ es) in
    record {
      checksum = checksum;
      is_checksum = subst (λ (xs : List Fe32). IsChecksumOf code ms xs checksum) read is;
      spelling =
          ap (λ (u : List ℕ). (u ++ middle) ++ c.put_checksum.new.checksum) c.put_header.ensures
          ∙ ap (λ (v : List ℕ). (spelled ms hs ++ v) ++ c.put_checksum.new.checksum) c.put_payload.ensures
          ∙ ap (λ (w : List ℕ). (spelled ms hs ++ map char_of_element es) ++ w) put
          ∙ ap (λ (u : List ℕ). 109 ∷ 115 ∷ 49 ∷ (u ++ map char_of_element checksum)) (sym (map-append char_of_element hs es))
          ∙ ap (λ (u : List ℕ). 109 ∷ 115 ∷ 49 ∷ u) (sym (map-append char_of_element (hs ++ es) checksum));
    }
