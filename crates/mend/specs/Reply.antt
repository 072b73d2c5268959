-- What may be said of a request. Of lines that ask for nothing `line_program` says it.
use Rattle.std.specs.Prelude.{◌≡◌, ◌⊎◌, ℕ, List, [], ◌∷◌, ◌++◌, codes, drop, flat_map, map, take}
use Rattle.std.specs.Prelude.{None, Some, MatchOption, position}
use Rattle.std.specs.Fmt.{decimal}
use Rattle.bech32_gf.specs.declared.gf32.Fe32.{Fe32}
use Rattle.bech32_checksum.specs.Code.{Code, bech32, bech32m}
use Rattle.bech32_checksum.specs.Roots.{singleton_bound}
use Rattle.bech32_decode.specs.Acceptance.{Accepts}
use Rattle.bech32_decode.specs.Checked.{IsCheckedRefusal}
use Rattle.bech32_correction.specs.Mistyped.{HasResidue, IsRefusal}
use Rattle.bech32_correction.specs.declared.error.CorrectError.{CorrectError}
use Rattle.bech32_correction.specs.declared.error.CorrectError.TheVariants.{Memory, Refused}
use Rattle.bech32_near.specs.NearTexts.{AreNearTexts}
use Rattle.bech32_near.specs.declared.edits.edit.Change.{Change}
use Rattle.bech32_near.specs.declared.edits.edit.Change.TheVariants.{Swapped, LeftOut, PutIn}
use Rattle.bech32_near.specs.declared.edits.edit.Edit.{Edit}
use Rattle.bech32_near.specs.edits.NearEdits.{AreNearEdits, IsEditsRefusal}
use Rattle.bech32_hrp.specs.Hrp.{hrp_refusal}
use Rattle.bech32_suggest.specs.Suggestions.{AreSuggestions, IsSuggestRefusal, Suggested}
use Rattle.bech32_suggest.specs.declared.mendings.Mending.{Mending}
use Rattle.bech32_suggest.specs.declared.mendings.Mending.TheVariants.{Replaced, Unchanged}
use Rattle.bech32_suggest.specs.declared.mendings.Mending.TheVariants.{LeftOut as LeftOutOne}
use Rattle.bech32_suggest.specs.declared.mendings.Mending.TheVariants.{PutIn as PutInOne}
use Rattle.bech32_suggest.specs.declared.mendings.Mending.TheVariants.{Swapped as SwappedTwo}
use Rattle.bech32_numbers.specs.Numbers.{
  number_of_checked_error,
  number_of_correct_error,
  number_of_edits_error,
  number_of_hrp_error,
}
use Rattle.bech32_refusals.specs.declared.error.CheckedHrpstringError.{CheckedHrpstringError}
use Rattle.bech32_calls.specs.Place.{IsPlace}
use Rattle.bech32_descriptor.specs.Descriptor.{IsCheckRefusal, IsChecksum, IsDescriptor}
use Rattle.bech32_descriptor.specs.Descriptor.{is_stranger}
use Rattle.bech32_descriptor.specs.Mends.{AreMends, IsMendRefusal}
use Rattle.bech32_descriptor.specs.declared.edits.Change.{Change as DescriptorChange}
use Rattle.bech32_descriptor.specs.declared.edits.Change.TheVariants as descriptor_changes
use Rattle.bech32_descriptor.specs.declared.edits.Edit.{Edit as DescriptorEdit}
use Rattle.bech32_descriptor.specs.declared.error.CheckError.{CheckError}
use Rattle.bech32_descriptor.specs.declared.error.CheckError.TheVariants.{InvalidCharacter}
use Rattle.bech32_descriptor.specs.declared.error.CheckError.TheVariants.{NoChecksum, WrongChecksum}
use Rattle.blech32.specs.Words.{blech32_code}
use Rattle.b32_replies.specs.Locations.{AreLocations, IsNoListOfLocations}
use Rattle.b32_replies.specs.Request.{code_of_name}
use Rattle.line_program.specs.Refused.{SaysRefusal, err}
use Rattle.bech32_more_calls.specs.confidential.Nearest.{IsLiquidAsked}
use Rattle.mend.specs.Found.{said_of_found}
use Rattle.mend.specs.Numbers.{number_of_mend_error}
use Rattle.mend.specs.Request.{MendRequest, Nearest, NearestAt, Edits, Fault, Suggest, Checksum}
use Rattle.mend.specs.Request.{Liquid, LiquidAt, Descriptor, DescriptorCheck, DescriptorChecksum}
use Rattle.mend.specs.Request.{errors_of_word, liquid_errors_of_word}

-- texts, each with a space before it
abbrev pub spaced : List (List ℕ) → List ℕ
spaced texts = flat_map (λ text. 32 ∷ text) texts

-- the most texts near one that are said
abbrev pub most_said : ℕ
most_said = 1000

-- that there are more than those that are said, where there are
abbrev pub said_of_more : {A : Type 0} → List A → List ℕ
said_of_more [] = []
said_of_more (one ∷ others) = codes " more"

-- texts, each with a space before it; of more than are said, the first of them and that there are
-- more
abbrev pub said_texts : List (List ℕ) → List ℕ
said_texts texts = spaced (take most_said texts) ++ said_of_more (drop most_said texts)

-- all texts near one are said, in their order; of more than a thousand, the first thousand, and
-- that there are more
pub record SaysNear (code : Code) (text given : List ℕ) (errors : ℕ) (said : List ℕ) : Type 0 where
  pub found : List (List (ℕ × Fe32) × List ℕ)
  pub near : AreNearTexts code (singleton_bound 24 26) text given errors found
  pub spelling : said ≡ codes "ok" ++ said_texts (map (λ m. m.1) found)

-- why the texts near one are not said: it is refused, but not for its residue; or it is refused for
-- nothing else, and there is no memory: the search is given a block of 16 MiB, and what is said has
-- memory of its own
abbrev pub IsNearTextsRefusal : Code → List ℕ → CorrectError → Type 0
IsNearTextsRefusal code text (Refused e) = IsRefusal code text e
IsNearTextsRefusal code text Memory =
    (hrp : List ℕ) × (data_part : List ℕ) × (residue : List Fe32)
    × HasResidue code text hrp data_part residue

-- the answer to `nearest`, where these locations are known to be wrong: a word that is no number
-- of errors is refused first, and out of memory is said only of a text that is refused for nothing
-- else
abbrev pub IsNearTextsAnswer : Code → List ℕ → List ℕ → List ℕ → List ℕ → Type 0
IsNearTextsAnswer code text given word said =
    MatchOption (errors_of_word word)
    (said ≡ err 4)
    (λ errors. SaysNear code text given errors said
    ⊎ SaysRefusal (IsNearTextsRefusal code text) number_of_correct_error said)

-- the same where a word lists the locations: a word that lists none is refused
abbrev pub IsNearTextsAtAnswer : Code → List ℕ → List ℕ → List ℕ → List ℕ → Type 0
IsNearTextsAtAnswer code text locations word said =
    (IsNoListOfLocations locations × (said ≡ err 4))
    ⊎ ((given : List ℕ) × AreLocations locations given
    × IsNearTextsAnswer code text given word said)

-- the word for what is done to a text
abbrev pub word_of_change : Change → List ℕ
word_of_change (Swapped x y) = codes "swapped"
word_of_change (LeftOut x) = codes "left-out"
word_of_change (PutIn x) = codes "put-in"

-- what is done to a text, where, and the text that this makes, each with a space before it
abbrev pub said_of_edit : Edit → List ℕ → List ℕ
said_of_edit edit text = said_of_found (word_of_change edit.change) edit.location text

-- all texts that one edit makes of one are said, each with the edit, in their order
pub record SaysEdits (code : Code) (text said : List ℕ) : Type 0 where
  pub found : List (Edit × List ℕ)
  pub are : AreNearEdits code text found
  pub spelling : said ≡ codes "ok" ++ flat_map (λ m. said_of_edit m.0 m.1) found

-- the answer to `edits`
abbrev pub IsEditsAnswer : Code → List ℕ → List ℕ → Type 0
IsEditsAnswer code text said =
    SaysEdits code text said
    ⊎ SaysRefusal (IsEditsRefusal code text) number_of_edits_error said

-- said is that the checksum accepts the text
pub record SaysAccepted (code : Code) (text said : List ℕ) : Type 0 where
  pub accepted : Accepts code text
  pub spelling : said ≡ codes "ok"

-- said is why the checksum refuses the text, by its number, and where that stands
pub record SaysFault (code : Code) (text said : List ℕ) : Type 0 where
  pub error : CheckedHrpstringError
  pub is_refusal : IsCheckedRefusal code text error
  pub place : ℕ
  pub is_place : IsPlace text (number_of_checked_error error) place
  pub spelling : said ≡ err (number_of_checked_error error) ++ (32 ∷ decimal place)

-- the answer to `fault`
abbrev pub IsFaultAnswer : Code → List ℕ → List ℕ → Type 0
IsFaultAnswer code text said = SaysAccepted code text said ⊎ SaysFault code text said

-- the checksum that accepts the text is named
pub record SaysChecksum (code : Code) (name text said : List ℕ) : Type 0 where
  pub accepted : Accepts code text
  pub spelling : said ≡ codes "ok " ++ name

-- Bech32m refuses the text for this, and Bech32 does not accept it
abbrev pub IsRefusedByEither : List ℕ → CheckedHrpstringError → Type 0
IsRefusedByEither text e = IsCheckedRefusal bech32m text e × (Accepts bech32 text → ⊥)

-- the answer to `checksum`
abbrev pub IsChecksumAnswer : List ℕ → List ℕ → Type 0
IsChecksumAnswer text said =
    SaysChecksum bech32m (codes "bech32m") text said
    ⊎ (SaysChecksum bech32 (codes "bech32") text said
    ⊎ SaysRefusal (IsRefusedByEither text) number_of_checked_error said)

-- the word for what is done to a typed text
abbrev pub word_of_mending : Mending → List ℕ
word_of_mending Unchanged = codes "unchanged"
word_of_mending SwappedTwo = codes "swapped"
word_of_mending LeftOutOne = codes "left-out"
word_of_mending PutInOne = codes "put-in"
word_of_mending Replaced = codes "replaced"

-- what is done to a typed text, where, and the address, each with a space before it
abbrev pub said_of_suggestion : Suggested → List ℕ
said_of_suggestion s = said_of_found (word_of_mending s.1.0) s.1.1 s.0

-- all suggestions for a text are said, in their order
pub record SaysSuggestions (hrp text said : List ℕ) : Type 0 where
  pub found : List Suggested
  pub are : AreSuggestions text hrp found
  pub spelling : said ≡ codes "ok" ++ flat_map said_of_suggestion found

-- the answer to `suggest` with a human-readable part
abbrev pub IsSuggestionsAnswer : List ℕ → List ℕ → List ℕ → Type 0
IsSuggestionsAnswer hrp text said =
    SaysSuggestions hrp text said
    ⊎ SaysRefusal (IsSuggestRefusal text) number_of_edits_error said

-- the answer to `suggest`: a word that is no human-readable part is refused first
abbrev pub IsSuggestAnswer : List ℕ → List ℕ → List ℕ → Type 0
IsSuggestAnswer part text said =
    SaysRefusal (λ e. hrp_refusal part ≡ Some e) number_of_hrp_error said
    ⊎ ((hrp_refusal part ≡ None) × IsSuggestionsAnswer part text said)

-- all confidential addresses near a text, by their checksum, are said, in their order
pub record SaysLiquid (text given : List ℕ) (errors : ℕ) (said : List ℕ) : Type 0 where
  pub found : List (List (ℕ × Fe32) × List ℕ)
  pub near : AreNearTexts blech32_code (singleton_bound 1 6) text given errors found
  pub spelling : said ≡ codes "ok" ++ spaced (map (λ m. m.1) found)

-- what is said of the confidential addresses near a text, where so many errors may be looked for:
-- twice the errors, with at most six different locations, are seven at most
abbrev pub IsLiquidNearAnswer : List ℕ → List ℕ → ℕ → List ℕ → Type 0
IsLiquidNearAnswer text given errors said =
    ((IsLiquidAsked given errors → ⊥) × (said ≡ err 4))
    ⊎ (IsLiquidAsked given errors × (SaysLiquid text given errors said
    ⊎ SaysRefusal (IsNearTextsRefusal blech32_code text) number_of_correct_error said))

-- the answer to `liquid`, where these locations are known to be wrong: a word that is no number of
-- errors is refused first
abbrev pub IsLiquidAnswer : List ℕ → List ℕ → List ℕ → List ℕ → Type 0
IsLiquidAnswer text given word said =
    MatchOption (liquid_errors_of_word word)
    (said ≡ err 4)
    (λ errors. IsLiquidNearAnswer text given errors said)

-- the same where a word lists the locations: a word that lists none is refused
abbrev pub IsLiquidAtAnswer : List ℕ → List ℕ → List ℕ → List ℕ → Type 0
IsLiquidAtAnswer text locations word said =
    (IsNoListOfLocations locations × (said ≡ err 4))
    ⊎ ((given : List ℕ) × AreLocations locations given × IsLiquidAnswer text given word said)

-- the word for what is done to a descriptor
abbrev pub word_of_descriptor_change : DescriptorChange → List ℕ
word_of_descriptor_change (descriptor_changes.Changed b) = codes "changed"
word_of_descriptor_change descriptor_changes.Swapped = codes "swapped"
word_of_descriptor_change descriptor_changes.LeftOut = codes "left-out"
word_of_descriptor_change (descriptor_changes.PutIn b) = codes "put-in"

-- what is done to a descriptor, where, and the descriptor that this makes, each with a space before
-- it
abbrev pub said_of_mend : DescriptorEdit → List ℕ → List ℕ
said_of_mend edit text =
    said_of_found (word_of_descriptor_change edit.change) edit.place text

-- all descriptors that one edit makes of a text are said, each with the edit, in their order
pub record SaysMends (text said : List ℕ) : Type 0 where
  pub found : List (DescriptorEdit × List ℕ)
  pub are : AreMends 1 text found
  pub spelling : said ≡ codes "ok" ++ flat_map (λ m. said_of_mend m.0 m.1) found

-- the answer to `descriptor`
abbrev pub IsDescriptorAnswer : List ℕ → List ℕ → Type 0
IsDescriptorAnswer text said =
    SaysMends text said ⊎ SaysRefusal (IsMendRefusal 8 7500 text) number_of_mend_error said

-- a refusal with this number, and the place of a character
abbrev pub err_at : ℕ → ℕ → List ℕ
err_at number place = err number ++ (32 ∷ decimal place)

-- how it is said that a text is no descriptor with its checksum
abbrev pub said_of_check : CheckError → List ℕ
said_of_check NoChecksum = err 88
said_of_check (InvalidCharacter place) = err_at 80 place
said_of_check WrongChecksum = err 33

-- the answer to `descriptor-check`
abbrev pub IsDescriptorCheckAnswer : List ℕ → List ℕ → Type 0
IsDescriptorCheckAnswer text said =
    (IsDescriptor text × (said ≡ codes "ok"))
    ⊎ ((e : CheckError) × IsCheckRefusal text e × (said ≡ said_of_check e))

-- the answer to `descriptor-checksum`: the checksum, or the place of the first character that may
-- not stand in a descriptor
abbrev pub IsDescriptorChecksumAnswer : List ℕ → List ℕ → Type 0
IsDescriptorChecksumAnswer text said =
    ((checksum : List ℕ) × IsChecksum text checksum × (said ≡ codes "ok " ++ checksum))
    ⊎ ((place : ℕ) × (position is_stranger text ≡ Some place) × (said ≡ err_at 80 place))

-- the answer to a request
abbrev pub IsMendAnswer : MendRequest → List ℕ → Type 0
IsMendAnswer (Nearest checksum text errors) said =
    IsNearTextsAnswer (code_of_name checksum) text [] errors said
IsMendAnswer (NearestAt checksum text locations errors) said =
    IsNearTextsAtAnswer (code_of_name checksum) text locations errors said
IsMendAnswer (Edits checksum text) said = IsEditsAnswer (code_of_name checksum) text said
IsMendAnswer (Fault checksum text) said = IsFaultAnswer (code_of_name checksum) text said
IsMendAnswer (Suggest part text) said = IsSuggestAnswer part text said
IsMendAnswer (Checksum text) said = IsChecksumAnswer text said
IsMendAnswer (Liquid text errors) said = IsLiquidAnswer text [] errors said
IsMendAnswer (LiquidAt text locations errors) said = IsLiquidAtAnswer text locations errors said
IsMendAnswer (Descriptor text) said = IsDescriptorAnswer text said
IsMendAnswer (DescriptorCheck text) said = IsDescriptorCheckAnswer text said
IsMendAnswer (DescriptorChecksum text) said = IsDescriptorChecksumAnswer text said
