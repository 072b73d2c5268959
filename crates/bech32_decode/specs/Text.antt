-- Texts (BIP-173, Bech32): a human-readable part, the separator `1`, and a data part; and
-- why a list of bytes is none.
use Rattle.std.specs.Prelude.{◌≡◌, ℕ, if◌then◌else◌, List, [], ◌∷◌, ◌++◌}
use Rattle.std.specs.Prelude.{Option, Some, None, ◌==◌, true, false, Result, MatchResult}
use Rattle.std.specs.Str.{chars}
use Rattle.bech32_gf.specs.Alphabet.{is_of_alphabet, is_data}
use Rattle.bech32_hrp.specs.Hrp.{IsHrp, is_mixed_case, first_of, hrp_refusal}
use Rattle.bech32_hrp.specs.declared.Error.{Error as HrpError}
use Rattle.bech32_refusals.specs.declared.error.CharError.{CharError}
use Rattle.bech32_refusals.specs.declared.error.CharError.TheVariants.{MissingSeparator}
use Rattle.bech32_refusals.specs.declared.error.CharError.TheVariants.{InvalidChar, MixedCase}
use Rattle.bech32_refusals.specs.declared.error.UncheckedHrpstringError.{UncheckedHrpstringError}
use Rattle.bech32_refusals.specs.declared.error.UncheckedHrpstringError.TheVariants.{Char, Hrp}

-- the text is this human-readable part, `1`, and this data part
pub record IsText (text hrp data_part : List ℕ) : Type 0 where
  pub split : text ≡ hrp ++ (49 ∷ data_part)
  pub is_hrp : IsHrp hrp
  pub data_bytes : is_data data_part ≡ true
  pub one_case : is_mixed_case text ≡ false

-- the text is in the grammar
abbrev pub IsInGrammar : List ℕ → Type 0
IsInGrammar text = (hrp : List ℕ) × (data_part : List ℕ) × IsText text hrp data_part

-- the text is in the grammar, and this is its human-readable part, in the case of the text
abbrev pub HasHrp : List ℕ → List ℕ → Type 0
HasHrp text hrp = (data_part : List ℕ) × IsText text hrp data_part

-- the last character that is not of the alphabet
unfoldable pub last_stranger : List ℕ → Option ℕ
last_stranger [] = None
last_stranger (c ∷ cs) = first_of (last_stranger cs) (if is_of_alphabet c then None else Some c)

abbrev pub unless_separator : Option ℕ → Option CharError
unless_separator None = None
unless_separator (Some c) = if c == 49 then None else Some (InvalidChar c)

-- the last character that is not of the alphabet, where it is no `1`: it stands after the
-- last `1`, or there is no `1`
abbrev pub invalid_character : List ℕ → Option CharError
invalid_character text = unless_separator (last_stranger (chars text))

-- letters of both cases
abbrev pub mixed_case : List ℕ → Option CharError
mixed_case text = if is_mixed_case text then Some MixedCase else None

abbrev pub before_byte : ℕ → Option (List ℕ × List ℕ) → List ℕ → Option (List ℕ × List ℕ)
before_byte b (Some p) bs = Some (b ∷ p.0, p.1)
before_byte b None bs = if b == 49 then Some ([], bs) else None

-- what stands before and after the last `1`
unfoldable pub split_at_last : List ℕ → Option (List ℕ × List ℕ)
split_at_last [] = None
split_at_last (b ∷ bs) = before_byte b (split_at_last bs) bs

-- no `1`
abbrev pub missing_separator : Option (List ℕ × List ℕ) → Option CharError
missing_separator None = Some MissingSeparator
missing_separator (Some p) = None

-- what is wrong with the human-readable part
abbrev pub bad_hrp : Option (List ℕ × List ℕ) → Option HrpError
bad_hrp None = None
bad_hrp (Some p) = hrp_refusal p.0

abbrev pub as_char : Option CharError → Option UncheckedHrpstringError
as_char None = None
as_char (Some e) = Some (Char e)

abbrev pub as_hrp : Option HrpError → Option UncheckedHrpstringError
as_hrp None = None
as_hrp (Some e) = Some (Hrp e)

-- why a list of bytes is not a text: the first fault, in this order
abbrev pub text_refusal : List ℕ → Option UncheckedHrpstringError
text_refusal text =
    first_of (as_char (invalid_character text))
    (first_of (as_char (mixed_case text))
    (first_of (as_char (missing_separator (split_at_last text)))
    (as_hrp (bad_hrp (split_at_last text)))))

-- what is returned of a text is the first fault, where there is one
abbrev pub IsRefusedAsText : {T : Type 0} → List ℕ → Result T UncheckedHrpstringError → Type 0
IsRefusedAsText text r =
    MatchResult r (λ _. text_refusal text ≡ None) (λ e. text_refusal text ≡ Some e)
