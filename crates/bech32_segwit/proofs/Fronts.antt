-- The front of a text in a buffer.
use Rattle.std.proofs.Common.{◌≡◌, ◌≤◌, ◌∙◌, ◌∷◌, ℕ, List, Bool, true, min, length, take, Option, Result, Ok, Err, OnOk, IfErr, ap, sym, subst, arith}
use Rattle.std.specs.Char.{is_ascii}
use Rattle.std.specs.List.{list_all}
use Rattle.std.specs.Io.KnownBytes.{Appends}
use Rattle.std.specs.Str.{IsAscii}
use Rattle.std.specs.declared.io.Error.{Error}
use Rattle.std.proofs.lemmas.Str.{IsAscii-take}
use Rattle.bech32_gf.specs.declared.gf32.Fe32.{Fe32}
use Rattle.bech32_bits.specs.Bits.{to_fes}
use Rattle.bech32_checksum.specs.Code.{Code}
use Rattle.bech32_encode.specs.Buffers.{IsPutAsFits}
use Rattle.bech32_encode.specs.Cased.{in_case, IsTextInCase}
use Rattle.bech32_encode.proofs.Encoding.{IsAscii-encoded}
use Rattle.bech32_encode.proofs.TextsLeft.{IsAscii-in_case, shown_front}
use Rattle.bech32_decode.specs.Segwit.{segwit_code}
use Rattle.io_traits.specs.Marks.{IsErrorOfLastWrite}
use Rattle.io_traits.proofs.Through.{writes_through}
use Rattle.bech32_segwit.specs.Unchecked.{IsFrontOfText, WritesFront, AppendsFront, AppendsPartOfFront, IsErrorOfFront}
use Rattle.bech32_refusals.specs.SegwitRules.{max_address_length}

-- what was put of a text by one code, where that is the version's
pub front-from_put : (upper : Bool) (code : Code) (hrp : List ℕ) (version : Fe32) (program old new : List ℕ) (count : ℕ) → code ≡ segwit_code version → length old ≡ max_address_length
    → ((text : List ℕ) × IsTextInCase upper code hrp (version ∷ to_fes program) text × IsPutAsFits text old new count) → IsFrontOfText upper hrp version program (take count new)
front-from_put upper code hrp version program old new count same size (text, is, put) = (
  text,
  subst (λ (k : Code). IsTextInCase upper k hrp (version ∷ to_fes program) text) same is,
  shown_front text old new count put ∙ ap (λ (n : ℕ). take n text) size,
)

pub bound-from_put : (upper : Bool) (code : Code) (hrp : List ℕ) (elements : List Fe32) (old new : List ℕ) (count : ℕ) → length old ≡ max_address_length
    → ((text : List ℕ) × IsTextInCase upper code hrp elements text × IsPutAsFits text old new count) → count ≤ max_address_length
bound-from_put upper code hrp elements old new count size (text, is, put) =
    let counted : count ≡ min (length text) (length old) = put.count_is in
    omega arith

-- it is ASCII
pub IsAscii-front : (upper : Bool) (hrp : List ℕ) (version : Fe32) (program front : List ℕ) → list_all is_ascii hrp ≡ true
    → IsFrontOfText upper hrp version program front → IsAscii front
IsAscii-front upper hrp version program front h (text, (lower, is, e), f) =
    subst IsAscii (sym (f ∙ ap (take max_address_length) e))
    (IsAscii-take (in_case upper lower) max_address_length (IsAscii-in_case upper lower (IsAscii-encoded (segwit_code version) hrp (version ∷ to_fes program) lower h is)))

-- what a watched writer took of it, the writer took
pub front_through : {S W : Type 0} (took : W → List ℕ → W → Type 0) (writer : S → W) (s t : S) (upper : Bool) (hrp : List ℕ) (version : Fe32) (program : List ℕ)
    → WritesFront (λ a x b. took (writer a) x (writer b)) s t upper hrp version program → WritesFront took (writer s) (writer t) upper hrp version program
front_through took writer s t upper hrp version program (front, is, went) = (front, is, writes_through took writer s t front went)

-- known bytes grew by it, or by a beginning of it
module _ (old new : Option (List ℕ)) (upper : Bool) (hrp : List ℕ) (version : Fe32) (program front : List ℕ) (is : IsFrontOfText upper hrp version program front) {T E : Type 0} where
  pub appends_front : (r : Result T E) → OnOk r (Appends old new front) → OnOk r (AppendsFront old new upper hrp version program)
  appends_front (Ok x) took = (front, is, took)
  appends_front (Err e) took = tt

  pub appends_part : (r : Result T E) → IfErr r (λ _. (n : ℕ) × (n ≤ length front) × Appends old new (take n front)) → IfErr r (λ _. AppendsPartOfFront old new upper hrp version program)
  appends_part (Ok x) took = tt
  appends_part (Err e) (n, within, took) = (front, is, n, within, took)

-- why it was not taken whole
pub error_of_front : {K T : Type 0} (write_gives : K → List ℕ → Result ℕ Error → K → Type 0) (upper : Bool) (hrp : List ℕ) (version : Fe32) (program front : List ℕ)
    → IsFrontOfText upper hrp version program front → (after : K) (r : Result T Error)
    → IfErr r (λ e. IsErrorOfLastWrite write_gives front after e) → IfErr r (λ e. IsErrorOfFront write_gives upper hrp version program after e)
error_of_front write_gives upper hrp version program front is after (Ok x) why = tt
error_of_front write_gives upper hrp version program front is after (Err e) why = (front, is, why)
