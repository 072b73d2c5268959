-- Locations that are given as the erasures of a corrector.
use Rattle.std.specs.Prelude.{◌<◌, ◌≤◌, ◌+◌, ℕ, List, [], length, min, Option, Some, None}
use Rattle.std.specs.List.{AllByRecursion}
use Rattle.bech32_gf.specs.declared.gf32.Fe32.{Fe32}
use Rattle.bech32_checksum.specs.Code.{Code}
use Rattle.bech32_bch.specs.Erasures.{with_erasures}
use Rattle.bech32_lookup.specs.Question.{IsAnswerTo, Question}

-- each location is below the window, and they are no more than the bound
abbrev pub AreWithin : ℕ → ℕ → List ℕ → Type 0
AreWithin window bound given =
    AllByRecursion (λ i. i < window) given × (length (with_erasures [] given) ≤ bound)

-- the same question with these locations as its erasures, each once
abbrev pub with_given : Question → List ℕ → Question
with_given question given = record {
  residue = question.residue;
  window = question.window;
  erasures = with_erasures [] given;
}

-- where a search of a window ends that takes no location above this one, where there is one
abbrev pub search_end : Option ℕ → ℕ → ℕ
search_end None window = window
search_end (Some highest) window = min (highest + 1) window

-- the same question of no location above this one, where there is one
abbrev pub up_to : Question → Option ℕ → Question
up_to question None = question
up_to question (Some highest) = record {
  residue = question.residue;
  window = search_end (Some highest) question.window;
  erasures = question.erasures;
}

-- the answer to a question with given locations; None too where a location is not in the window
abbrev pub IsAnswerWith : Code → ℕ → Question → List ℕ → Option (List (ℕ × Fe32)) → Type 0
IsAnswerWith code bound question given None = AllByRecursion (λ i. i < question.window) given
    → IsAnswerTo code bound (with_given question given) None
IsAnswerWith code bound question given (Some listing) =
    AllByRecursion (λ i. i < question.window) given
    × IsAnswerTo code bound (with_given question given) (Some listing)
