-- What may be said of a mistyped text.
use Rattle.std.specs.List.{AllByRecursion}
use Rattle.std.proofs.Common.{◌≡◌, ℕ, ◌+◌, ◌<◌, ◌≤◌, inl, inr, List, [], ◌∷◌, ◌++◌, map, length, length-append, append_assoc, append-nil, sym, ap, ◌∙◌, refl, arith, codes, take}
use Rattle.std.proofs.lemmas.List.{length-map}
use Rattle.std.specs.Fmt.{decimal}
use Rattle.bech32_gf.specs.Fe32.{elements_of, element_of, ops}
use Rattle.bech32_gf.specs.declared.gf32.Fe32.{Fe32}
use Rattle.bech32_hrp.specs.Hrp.{lowered}
use Rattle.bech32_checksum.specs.Code.{Code, bech32, bech32m}
use Rattle.bech32_checksum.specs.Encoded.{char_of_element}
use Rattle.bech32_checksum.specs.Roots.{singleton_bound}
use Rattle.bech32_bch.specs.Erasures.{with_erasures}
use Rattle.bech32_decode.specs.Acceptance.{Accepts}
use Rattle.bech32_refusals.specs.declared.error.CheckedHrpstringError.{CheckedHrpstringError}
use Rattle.bech32_correction.specs.MendedElements.{mended}
use Rattle.bech32_correction.specs.Mistyped.{HasNoListing, IsListingOf, IsMendedText, IsRefusal}
use Rattle.bech32_correction.proofs.Texts.{IsMendable, few-from_listing, mended_text-from_ends}
use Rattle.bech32_numbers.specs.Numbers.{number_of_checked_error}
use Rattle.b32_replies.specs.declared.command.ChecksumName.{ChecksumName}
use Rattle.b32_replies.specs.declared.command.ChecksumName.TheVariants.{Bech32, Bech32m}
use Rattle.b32_replies.specs.declared.refusal.Refusal.{Refusal}
use Rattle.b32_replies.specs.declared.refusal.Refusal.TheVariants.{BadNumber}
use Rattle.b32_replies.specs.Locations.{AreLocations, IsNoListOfLocations}
use Rattle.b32_replies.specs.Numbers.{number_of_reply}
use Rattle.b32_replies.specs.Request.{code_of_name}
use Rattle.line_program.specs.Refused.{err}
use Rattle.b32_replies.specs.Reply.{listed, IsCorrectAnswer, IsCorrectAtAnswer}
use Rattle.b32_replies.proofs.FewLocations.{says-given}

-- both codes are short
bech32-short : bech32.code_length ≤ 1023
bech32-short = omega arith

bech32m-short : bech32m.code_length ≤ 1023
bech32m-short = omega arith

pub short-code : (checksum : ChecksumName) → (code_of_name checksum).code_length ≤ 1023
short-code Bech32 = bech32-short
short-code Bech32m = bech32m-short

-- ---- listings

listed-append : (xs ys : List (ℕ × Fe32)) → listed (xs ++ ys) ≡ listed xs ++ listed ys
listed-append [] ys = refl
listed-append (x ∷ xs) ys =
    let item : List ℕ = decimal x.0 ++ (58 ∷ char_of_element x.1 ∷ 32 ∷ []) in
    ap (λ (t : List ℕ). item ++ t) (listed-append xs ys) ∙ sym (append_assoc item (listed xs) (listed ys))

-- one item more
pub listed-more : (out first second : List ℕ) (xs : List (ℕ × Fe32)) (x : ℕ × Fe32) (old : List ℕ) → out ≡ old ++ listed xs
    → first ≡ out ++ decimal x.0 → second ≡ first ++ (58 ∷ char_of_element x.1 ∷ 32 ∷ []) → second ≡ old ++ listed (xs ++ (x ∷ []))
listed-more out first second xs x old is one two =
    let item : List ℕ = decimal x.0 ++ (58 ∷ char_of_element x.1 ∷ 32 ∷ []) in
    two ∙ ap (λ (t : List ℕ). t ++ (58 ∷ char_of_element x.1 ∷ 32 ∷ [])) one
    ∙ append_assoc out (decimal x.0) (58 ∷ char_of_element x.1 ∷ 32 ∷ [])
    ∙ ap (λ (t : List ℕ). t ++ item) is
    ∙ append_assoc old (listed xs) item
    ∙ ap (λ (t : List ℕ). old ++ (listed xs ++ t)) (sym (append-nil item))
    ∙ ap (λ (t : List ℕ). old ++ t) (sym (listed-append xs (x ∷ [])))

all_below : (n m : ℕ) (listing : List (ℕ × Fe32)) → n ≤ m + 1 → AllByRecursion (λ (p : ℕ × Fe32). p.0 < n) listing → AllByRecursion (λ (p : ℕ × Fe32). p.0 ≤ m) listing
all_below n m [] less h = tt
all_below n m (p ∷ more) less h = let first : p.0 < n = h.0 in (omega arith, all_below n m more less h.1)

-- ---- a text that has a listing

pub text-size : (code : Code) (text given : List ℕ) (listing : List (ℕ × Fe32)) → code.code_length ≤ 1023 → IsListingOf code (singleton_bound 24 26) text given listing → length text ≤ 1023
text-size code text given listing n is = let fits : length text ≤ code.code_length = is.refused.read.text_length in omega (arith, n, fits)

pub listing-size : (code : Code) (text given : List ℕ) (listing : List (ℕ × Fe32)) → IsListingOf code (singleton_bound 24 26) text given listing → length listing ≤ 3
listing-size code text given listing is = few-from_listing code (singleton_bound 24 26) text given listing is

-- its locations are those of the text
pub locations-small : (code : Code) (text : List ℕ) (listing : List (ℕ × Fe32)) (m : IsMendable code text listing) → length text ≤ 1023 → AllByRecursion (λ (p : ℕ × Fe32). p.0 ≤ 1022) listing
locations-small code text listing m fits =
    let whole : length text ≡ length m.hrp + length (49 ∷ m.data_part) = ap length m.grammar.split ∙ length-append m.hrp (49 ∷ m.data_part) in
    let elements : length (elements_of m.data_part) ≡ length m.data_part = length-map m.data_part element_of in
    all_below (length (elements_of m.data_part)) 1022 listing (omega (arith, whole, elements, fits)) m.inside

-- the mended text
abbrev pub new_text : (hrp data_part : List ℕ) → List (ℕ × Fe32) → List ℕ
new_text hrp data_part listing = (lowered hrp ++ (49 ∷ [])) ++ map char_of_element (mended ops listing (elements_of data_part))

is-mended : (code : Code) (text : List ℕ) (listing : List (ℕ × Fe32)) (m : IsMendable code text listing)
    → IsMendedText listing text (new_text m.hrp m.data_part listing) × Accepts code (new_text m.hrp m.data_part listing)
is-mended code text listing m = mended_text-from_ends code text (new_text m.hrp m.data_part listing) listing m refl

pub says-mended : (code : Code) (text given : List ℕ) (listing : List (ℕ × Fe32)) (m : IsMendable code text listing) → IsListingOf code (singleton_bound 24 26) text given listing
    → IsCorrectAnswer code text given (codes "ok " ++ (listed listing ++ new_text m.hrp m.data_part listing))
says-mended code text given listing m is =
    let both = is-mended code text listing m in
    inr (inl (record { listing = listing; is_listing = is; mended_text = new_text m.hrp m.data_part listing; is_mended = both.0; accepted = both.1; spelling = refl }))

pub mended-size : (code : Code) (text : List ℕ) (listing : List (ℕ × Fe32)) (m : IsMendable code text listing) → code.code_length ≤ 1023 → length (new_text m.hrp m.data_part listing) ≤ 1023
mended-size code text listing m n =
    let (hrp, data_part, accepted) = (is-mended code text listing m).1 in
    let fits : length (new_text m.hrp m.data_part listing) ≤ code.code_length = accepted.text_length in
    omega (arith, n, fits)

-- ---- the others

pub says-fine : (code : Code) (text given : List ℕ) → Accepts code text → IsCorrectAnswer code text given (codes "fine")
says-fine code text given is = inl (record { accepted = is; spelling = refl })

pub says-none : (code : Code) (text given : List ℕ) → HasNoListing code (singleton_bound 24 26) text given → IsCorrectAnswer code text given (codes "none")
says-none code text given none = inr (inr (inl (record { none = none; spelling = refl })))

pub says-refused : (code : Code) (text given : List ℕ) (e : CheckedHrpstringError) → IsRefusal code text e → IsCorrectAnswer code text given (err (number_of_checked_error e))
says-refused code text given e is = inr (inr (inr (record { error = e; is_refusal = is; spelling = refl })))

-- ---- where a word lists the locations

-- a word that is refused
pub says-refused_locations : (code : Code) (text word : List ℕ) (e : Refusal) → (e ≡ BadNumber) × IsNoListOfLocations word → IsCorrectAtAnswer code text word (err (number_of_reply e))
says-refused_locations code text word e h = inl (h.1, ap (λ (x : Refusal). err (number_of_reply x)) h.0)

-- and one that is read
pub says-at : (code : Code) (text word few said : List ℕ) → (given : List ℕ) × AreLocations word given × (few ≡ take 4 (with_erasures [] given))
    → IsCorrectAnswer code text few said → IsCorrectAtAnswer code text word said
says-at code text word few said read h =
    let (given, are, is) = read in
    inr (given, are, says-given code text few given is said h)
