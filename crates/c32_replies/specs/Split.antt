-- What may be said of `split`.
use Rattle.std.specs.Prelude.{◌≡◌, ◌⊎◌, ◌<◌, ◌*◌, ℕ, List, ◌∷◌, ◌++◌, codes, flat_map, length}
use Rattle.std.specs.Prelude.{Option, None, Some}
use Rattle.std.specs.Fmt.{decimal}
use Rattle.bech32_gf.specs.Fe32.{elements_of}
use Rattle.bech32_hrp.specs.Hrp.{first_of}
use Rattle.b32_replies.specs.Hex.{bytes_of}
use Rattle.codex32.specs.HeaderParts.{identifier_elements, identifier_word_fault}
use Rattle.codex32.specs.HeaderParts.{threshold_word, threshold_word_fault}
use Rattle.codex32.specs.Split.{IsSplit, Recovers, first_texts, split_refusal, text_size}
use Rattle.codex32.specs.declared.error.Codex32Error.TheVariants as text_errors
use Rattle.codex32.specs.declared.error.HeaderError.{HeaderError}
use Rattle.codex32.specs.declared.error.SplitError.{SplitError}
use Rattle.codex32.specs.declared.identifier.Identifier.{Identifier}
use Rattle.codex32.specs.declared.threshold.Threshold.{Threshold}
use Rattle.line_program.specs.Refused.{SaysRefusal}
use Rattle.c32_replies.specs.Numbers.{number_of_codex32_reply}
use Rattle.c32_replies.specs.Request.{AskedSplit}
use Rattle.c32_replies.specs.declared.refusal.Refusal.{Refusal}
use Rattle.c32_replies.specs.declared.refusal.Refusal.TheVariants as refusals

-- the word is this number of shares, below 100, in decimal
abbrev pub IsCountWord : List ℕ → ℕ → Type 0
IsCountWord word n = (n < 100) × (word ≡ decimal n)

-- it is none
abbrev pub IsNoCount : List ℕ → Type 0
IsNoCount word = (n : ℕ) → IsCountWord word n → ⊥

-- the words are this number of shares, this secret and these random bytes
pub record AreRead (asked : AskedSplit) (count : ℕ) (secret random : List ℕ) : Type 0 where
  pub count_is : IsCountWord asked.count count
  pub secret_is : bytes_of asked.hex ≡ Some secret
  pub random_is : bytes_of asked.random ≡ Some random

-- what is wrong with the words for what the shares have in common, the first of: the threshold, the
-- identifier
abbrev pub set_word_fault : AskedSplit → Option HeaderError
set_word_fault asked =
    first_of (threshold_word_fault asked.threshold) (identifier_word_fault asked.identifier)

-- the words are this threshold and this identifier
pub record AreOfSplit (asked : AskedSplit) (t : Threshold) (i : Identifier) : Type 0 where
  pub fine : set_word_fault asked ≡ None
  pub threshold_is : asked.threshold ≡ threshold_word t
  pub identifier_is : identifier_elements i ≡ elements_of asked.identifier

-- why the secret is not split, where there is room for the shares
abbrev pub split_fault : Threshold → ℕ → List ℕ → List ℕ → Option SplitError
split_fault t count secret random =
    split_refusal t (length secret) count random (count * text_size (length secret))

-- the first `count` of texts of n characters each, one behind another, each with a space before it
abbrev pub spaced_shares : ℕ → List ℕ → ℕ → List ℕ
spaced_shares n texts count = flat_map (λ text. 32 ∷ text) (first_texts n texts count)

-- all words are read
pub record IsAskedBy (asked : AskedSplit) (count : ℕ) (secret random : List ℕ) (t : Threshold)
    (i : Identifier) : Type 0 where
  pub read : AreRead asked count secret random
  pub of_split : AreOfSplit asked t i

-- the texts are the shares that words ask for: `count` of n characters each, one behind another; as
-- many as the threshold recover the secret, whichever they are
pub record AreSharesFor (asked : AskedSplit) (count n : ℕ) (texts : List ℕ) : Type 0 where
  pub secret : List ℕ
  pub random : List ℕ
  pub t : Threshold
  pub i : Identifier
  pub is_asked : IsAskedBy asked count secret random t i
  pub unrefused : split_fault t count secret random ≡ None
  pub is_split : IsSplit t i secret random count n texts
  pub recovers : Recovers t i secret count n texts

-- these are said, in their order
pub record SaysShares (asked : AskedSplit) (said : List ℕ) : Type 0 where
  pub count : ℕ
  pub n : ℕ
  pub texts : List ℕ
  pub are : AreSharesFor asked count n texts
  pub spelling : said ≡ codes "ok" ++ spaced_shares n texts count

-- a secret is split, or is not, with this fault
abbrev pub IsFaultOfSplit : AskedSplit → Option SplitError → Type 0
IsFaultOfSplit asked fault =
    (count : ℕ) × (secret : List ℕ) × (random : List ℕ) × (t : Threshold) × (i : Identifier)
    × IsAskedBy asked count secret random t i × (split_fault t count secret random ≡ fault)

-- why `split` is refused, the first of: the word for the number of shares, those for the bytes,
-- those for threshold and identifier, what a secret is not split for, out of memory
abbrev pub IsSplitLineRefusal : AskedSplit → Refusal → Type 0
IsSplitLineRefusal asked refusals.BadNumber = IsNoCount asked.count
IsSplitLineRefusal asked refusals.BadHex =
    (count : ℕ) × IsCountWord asked.count count
    × ((bytes_of asked.hex ≡ None) ⊎ (bytes_of asked.random ≡ None))
IsSplitLineRefusal asked (refusals.Header e) =
    (count : ℕ) × (secret : List ℕ) × (random : List ℕ) × AreRead asked count secret random
    × (set_word_fault asked ≡ Some e)
IsSplitLineRefusal asked (refusals.Split e) = IsFaultOfSplit asked (Some e)
IsSplitLineRefusal asked (refusals.Text e) =
    (e ≡ text_errors.Memory) × IsFaultOfSplit asked None
IsSplitLineRefusal asked _ = ⊥

-- the answer to `split`
abbrev pub IsSplitAnswer : AskedSplit → List ℕ → Type 0
IsSplitAnswer asked said =
    SaysShares asked said ⊎ SaysRefusal (IsSplitLineRefusal asked) number_of_codex32_reply said
